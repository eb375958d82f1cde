-- What K4 changes: any file is answered as without 26, or refused as 26 and nothing else.
-- Check without that refusal stands here beside the statements, and is no part of any promise. Proved in proofs/Without26Laws.
use Rattle.std.specs.Prelude.{ℕ, zero, suc, ◌+◌, false, cond, List, ◌≡◌}
use Rattle.envelope.specs.Refusals.{plainly}
use Rattle.golden.specs.Checking.{CheckAnswer, counted, refused, unless_bad, checking}
use Rattle.golden.specs.File.{bad_file, count_of, judged_at}

-- no record is held to repeat a name
unfoldable pub check_from_without26 : List ℕ → ℕ → ℕ → CheckAnswer
check_from_without26 f n zero = counted n
check_from_without26 f n (suc left) = unless_bad n false (judged_at f n) (check_from_without26 f (n + 1) left)

unfoldable pub checking_without26 : List ℕ → CheckAnswer
checking_without26 f = cond (bad_file f) (refused 0 (plainly 21)) (check_from_without26 f 0 (count_of f))

pub data AsBeforeOr26 (before : CheckAnswer) : CheckAnswer → Type 0 where
  as_before : AsBeforeOr26 before before
  named_twice : (k : ℕ) → AsBeforeOr26 before (refused k (plainly 26))

abbrev pub Only26IsNew : Type 0
Only26IsNew = (f : List ℕ) → AsBeforeOr26 (checking_without26 f) (checking f)

-- so where the check passes, it passes without 26 too
abbrev pub PassedWithout26 : Type 0
PassedWithout26 = (f : List ℕ) (n : ℕ) → checking f ≡ counted n → checking_without26 f ≡ counted n
