-- Compare one record with a radio's message: same, or different with the total of differing positions. RULES 5.
-- A position below only one of the two lengths differs. A retired record is refused as 38 (K7). No refusal writes to the list.
use Rattle.std.specs.Prelude.{ℕ, Bool, cond, not, ◌||◌, List, ◌≡◌, eqb, leb, ltb, length, get_or, Result, Ok, Err}
use Rattle.envelope.specs.Fields.{Answer, accepted}
use Rattle.envelope.specs.Fields as read
use Rattle.envelope.specs.Reading.{reading}
use Rattle.envelope.specs.Refusals.{Refused, plainly, passing_on}
use Rattle.golden.specs.File.{bad_file, not_there, record_at, judged_at}
use Rattle.golden.specs.Positions.{noted, select}
use Rattle.golden.specs.Record.{message_of, Judged, good, bad}
use Rattle.golden.specs.Refusal.{told_golden_refusal}
use Rattle.golden.specs.declared.refusal.Refusal.{Refusal}

-- a position, below one of the lengths, at which two messages differ
unfoldable pub differs_at : List ℕ → List ℕ → ℕ → Bool
differs_at g r k = leb (length g) k || (leb (length r) k || not (eqb (get_or g k 0) (get_or r k 0)))

abbrev pub longer : List ℕ → List ℕ → ℕ
longer g r = cond (ltb (length g) (length r)) (length r) (length g)

-- the differing positions, ascending
unfoldable pub differing : List ℕ → List ℕ → List ℕ
differing g r = select (differs_at g r) 0 (longer g r)

pub data CompareOutcome : Type 0 where
  positions : List ℕ → CompareOutcome
  refused : Refused → CompareOutcome

-- golden message g and radio message r: 31, once the record is good and live
abbrev pub with_radio : List ℕ → List ℕ → Answer → CompareOutcome
with_radio g r (read.refused x) = refused (passing_on 31 x)
with_radio g r (accepted fields) = positions (differing g r)

-- 38, after 25 (K7)
abbrev pub with_record : List ℕ → List ℕ → Judged → CompareOutcome
with_record g r (bad x) = refused x
with_record g r (good retired fields) = cond retired (refused (plainly 38)) (with_radio g r (reading r))

unfoldable pub comparing : List ℕ → ℕ → List ℕ → CompareOutcome
comparing f n radio =
    cond (bad_file f) (refused (plainly 21))
    (cond (not_there f n) (refused (plainly 22))
    (with_record (message_of (record_at f n)) radio (judged_at f n)))

-- the list afterwards
unfoldable pub after_comparing : CompareOutcome → List ℕ → List ℕ
after_comparing (positions ks) entry = noted ks entry
after_comparing (refused x) entry = entry

pub data CompareAnswer : Type 0 where
  same : CompareAnswer
  different : ℕ → CompareAnswer
  refused : Refused → CompareAnswer

unfoldable pub answer_to_comparing : CompareOutcome → CompareAnswer
answer_to_comparing (positions ks) = cond (eqb (length ks) 0) same (different (length ks))
answer_to_comparing (refused x) = refused x

-- in how many places the two differ
abbrev pub told_comparison : Result ℕ Refusal → CompareAnswer
told_comparison (Ok n) = cond (eqb n 0) same (different n)
told_comparison (Err r) = refused (told_golden_refusal r)

-- what `compare` promises, of its answer and of the whole list afterwards
abbrev pub Compares : List ℕ → ℕ → List ℕ → List ℕ → Result ℕ Refusal → List ℕ → Type 0
Compares f n radio entry r exit =
    (told_comparison r ≡ answer_to_comparing (comparing f n radio)) × (exit ≡ after_comparing (comparing f n radio) entry)
