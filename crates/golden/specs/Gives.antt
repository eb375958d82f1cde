-- Which refusals an operation of the golden file can give: none but those of its line in the header. RULES 5.
-- First the numbers in which reading had no part, then those that pass its refusal on. Proved in proofs/GivesLaws.
use Rattle.std.specs.Prelude.{ℕ, List, [], ◌∷◌, ◌≡◌}
use Rattle.envelope.specs.Refusals.{Refused, Gives}
use Rattle.golden.specs.Checking as check
use Rattle.golden.specs.Comparing as compare
use Rattle.golden.specs.Finding as find
use Rattle.golden.specs.Halving.{halving}
use Rattle.golden.specs.Listing as list
use Rattle.golden.specs.Making as make
use Rattle.golden.specs.Ordering as order
use Rattle.golden.specs.Retiring as retire
use Rattle.golden.specs.Stepping as step

abbrev pub CountGives : Type 0
CountGives = (f : List ℕ) (r : Refused) → list.counting f ≡ list.refused r → Gives (21 ∷ []) [] r

abbrev pub CountRetiredGives : Type 0
CountRetiredGives = (f : List ℕ) (r : Refused) → list.counting_retired f ≡ list.refused r → Gives (21 ∷ []) [] r

abbrev pub CheckGives : Type 0
CheckGives = (f : List ℕ) (n : ℕ) (r : Refused) → check.checking f ≡ check.refused n r → Gives (21 ∷ 23 ∷ 24 ∷ 26 ∷ []) (25 ∷ []) r

abbrev pub FindGives : Type 0
FindGives =
    (f : List ℕ) (name : find.NameFields) (r : Refused) (opened : ℕ) → find.finding f name ≡ find.refused r opened
    → Gives (21 ∷ 23 ∷ 24 ∷ 27 ∷ []) (25 ∷ []) r

-- of find by halving
abbrev pub HalvingGives : Type 0
HalvingGives =
    (f : List ℕ) (name : find.NameFields) (r : Refused) (opened : ℕ) → halving f name ≡ find.refused r opened
    → Gives (21 ∷ 23 ∷ 24 ∷ 27 ∷ []) (25 ∷ []) r

-- of the order
abbrev pub OrderGives : Type 0
OrderGives = (f : List ℕ) (n : ℕ) (r : Refused) → order.ordering f ≡ order.refused n r → Gives (21 ∷ 23 ∷ 24 ∷ []) (25 ∷ []) r

-- of a step, and so of a walk
abbrev pub StepGives : Type 0
StepGives = (f : List ℕ) (n : ℕ) (r : Refused) → step.step_at f n ≡ step.refused r → Gives (21 ∷ 23 ∷ 24 ∷ []) (25 ∷ []) r

-- of a line of the listing
abbrev pub EntryGives : Type 0
EntryGives = (f : List ℕ) (n : ℕ) (r : Refused) → list.entry_at f n ≡ list.refused r → Gives (21 ∷ 22 ∷ 23 ∷ 24 ∷ []) (25 ∷ []) r

abbrev pub CompareGives : Type 0
CompareGives =
    (f : List ℕ) (n : ℕ) (radio : List ℕ) (r : Refused) → compare.answer_to_comparing (compare.comparing f n radio) ≡ compare.refused r
    → Gives (21 ∷ 22 ∷ 23 ∷ 24 ∷ 38 ∷ []) (25 ∷ 31 ∷ []) r

abbrev pub MakeGives : Type 0
MakeGives = (m : List ℕ) (room : ℕ) (r : Refused) → make.making m room ≡ make.refused r → Gives (33 ∷ 35 ∷ []) (34 ∷ []) r

abbrev pub RetireGives : Type 0
RetireGives =
    (f : List ℕ) (n room : ℕ) (r : Refused) → retire.retiring f n room ≡ retire.refused r → Gives (21 ∷ 22 ∷ 23 ∷ 24 ∷ 36 ∷ 37 ∷ []) (25 ∷ []) r
