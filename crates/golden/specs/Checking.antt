-- Check: the count, or the first bad record's number and refusal; record 0 for 21. RULES 5.
-- The later of two live records of one name is refused as 26 (K4): of one record 25 is told before 26, and no later record is judged first.
-- Retired records are judged and counted, and bear no name here (K7).
-- `f` is the list of the file's bytes, and `n` the number of a record.
use Rattle.std.specs.Prelude.{ℕ, zero, suc, ◌+◌, Bool, cond, List, ◌≡◌, Result, Ok, Err}
use Rattle.envelope.specs.Refusals.{Refused, plainly}
use Rattle.golden.specs.File.{bad_file, count_of, judged_at}
use Rattle.golden.specs.Pairing.{pairs, any_below}
use Rattle.golden.specs.Record.{Judged, good, bad}
use Rattle.golden.specs.Refusal.{told_golden_refusal}
use Rattle.golden.specs.declared.refusal.RefusedAt.{RefusedAt}

pub data CheckAnswer : Type 0 where
  counted : ℕ → CheckAnswer
  refused : ℕ → Refused → CheckAnswer

-- 26: an earlier live record has the name of record n, which is live
unfoldable pub repeats : List ℕ → ℕ → Bool
repeats f n = any_below (λ k. pairs (judged_at f n) (judged_at f k)) n

-- record n decides, or the others do
abbrev pub unless_bad : ℕ → (repeated : Bool) → Judged → CheckAnswer → CheckAnswer
unless_bad n repeated (bad r) others = refused n r
unless_bad n repeated (good retired f) others = cond repeated (refused n (plainly 26)) others

-- the records from n on, of which there are so many
unfoldable pub check_from : List ℕ → ℕ → ℕ → CheckAnswer
check_from f n zero = counted n
check_from f n (suc left) = unless_bad n (repeats f n) (judged_at f n) (check_from f (n + 1) left)

unfoldable pub checking : List ℕ → CheckAnswer
checking f = cond (bad_file f) (refused 0 (plainly 21)) (check_from f 0 (count_of f))

abbrev pub told_checking : Result ℕ RefusedAt → CheckAnswer
told_checking (Ok n) = counted n
told_checking (Err at) = refused at.record (told_golden_refusal at.refusal)

-- what `check` promises
abbrev pub Checks : List ℕ → Result ℕ RefusedAt → Type 0
Checks f r = told_checking r ≡ checking f
