-- The two readers agree, and so do the two sums: each statement is a type, with its proof in proofs/AgreementLaws and DivisionLaws. RULES 2.
-- They are stated of the definitions, and of any answers that keep the promises of `read`, `judge`, `Judging::lowest`, `crc` and `divide`.
use Rattle.std.specs.Prelude.{ℕ, Bool, true, false, List, [], ◌∷◌, ◌≡◌, Option, Result}
use Rattle.sum.specs.Crc.{crc32}
use Rattle.sum.specs.Detection.{Bytes}
use Rattle.sum.specs.Promise.{Sums}
use Rattle.envelope.specs.Fields.{Refusal, Answer, accepted, refused}
use Rattle.envelope.specs.Reading.{reading}
use Rattle.envelope.specs.Told.{told, Reads}
use Rattle.envelope.specs.declared.fields.Envelope.{Envelope}
use Rattle.envelope.specs.declared.reader.Refusal as code
use Rattle.judge.specs.Division.{divided, Divides}
use Rattle.judge.specs.Rules.{judging, broken_rules, LowestAnswer, none_broken, lowest, lowest_of}
use Rattle.judge.specs.Told.{told_judging, told_lowest, Judges, TellsLowest}
use Rattle.judge.specs.declared.judging.Judging.{Judging}

abbrev pub none_of : List Refusal → Bool
none_of [] = true
none_of (r ∷ rest) = false

abbrev pub is_accepted : Answer → Bool
is_accepted (accepted f) = true
is_accepted (refused r) = false

-- what the first reader refuses, as a lowest rule
abbrev pub refusal_in : Answer → LowestAnswer
refusal_in (accepted f) = none_broken
refusal_in (refused r) = lowest r

-- none is broken exactly when the first reader accepts, and the lowest broken one has the number and the place of the first reader's refusal
abbrev pub Agree : List Refusal → Answer → Type 0
Agree broken answer = (none_of broken ≡ is_accepted answer) × (lowest_of broken ≡ refusal_in answer)

abbrev pub ReadersAgree : Type 0
ReadersAgree = (s : List ℕ) → Agree (broken_rules (judging s)) (reading s)

abbrev pub AnswersAgree : Type 0
AnswersAgree =
    (s : List ℕ) (r : Result Envelope code.Refusal) (j : Judging) → Reads s r → Judges s j → Agree (broken_rules (told_judging j)) (told r)

-- the lowest rule that the judge hands out is the refusal that reading gave, its place too
abbrev pub LowestIsReadings : Type 0
LowestIsReadings =
    (s : List ℕ) (r : Result Envelope code.Refusal) (j : Judging) (l : Option code.Refusal) → Reads s r → Judges s j → TellsLowest j l → told_lowest l ≡ refusal_in (told r)

-- the CRC that division finds is the sum, for every list of bytes
abbrev pub DividedIsCrc : Type 0
DividedIsCrc = (s : List ℕ) → Bytes s → divided s ≡ crc32 s

-- and so are any answers of `crc` and of `divide`
abbrev pub BothSumsAgree : Type 0
BothSumsAgree = (s : List ℕ) (a b : ℕ) → Bytes s → Sums s a → Divides s b → a ≡ b
