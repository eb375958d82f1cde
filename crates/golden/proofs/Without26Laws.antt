-- What K4 changes: record by record the two checks agree, until one repeats a name.
-- Induction on the records that are left.
use mathlib.Core.Bool.{Bool, true, false, cond}
use mathlib.Core.List.{List}
use mathlib.Core.Path.{◌≡◌}
use Prim.Native.Nat.{ℕ, zero, suc, ◌+◌}
use native.Mathlib.Omega.{arith}
use Rattle.envelope.specs.Refusals.{plainly}
use Rattle.golden.specs.Checking.{CheckAnswer, counted, refused, repeats, unless_bad, check_from, checking}
use Rattle.golden.specs.File.{bad_file, count_of, judged_at}
use Rattle.golden.specs.Record.{Judged, good, bad}
use Rattle.golden.specs.Without26.{check_from_without26, checking_without26, AsBeforeOr26, as_before, named_twice, Only26IsNew, PassedWithout26}

one_record : (n : ℕ) (repeated : Bool) (j : Judged) (before others : CheckAnswer) → AsBeforeOr26 before others
    → AsBeforeOr26 (unless_bad n false j before) (unless_bad n repeated j others)
one_record n repeated (bad r) before others rest = as_before
one_record n true (good retired fields) before others rest = named_twice n
one_record n false (good retired fields) before others rest = rest

from_record : (f : List ℕ) (left n : ℕ) → AsBeforeOr26 (check_from_without26 f n left) (check_from f n left)
unfolding check_from check_from_without26
from_record f zero n = as_before
from_record f (suc left) n = one_record n (repeats f n) (judged_at f n) _ _ (from_record f left (n + 1))

pub only_26_is_new : Only26IsNew
unfolding checking checking_without26
only_26_is_new f = by (bad_file f)
  where
    by : (b : Bool) → AsBeforeOr26 (cond b (refused 0 (plainly 21)) (check_from_without26 f 0 (count_of f))) (cond b (refused 0 (plainly 21)) (check_from f 0 (count_of f)))
    by true = as_before
    by false = from_record f (count_of f) 0

pub passed_without_26 : PassedWithout26
passed_without_26 f n e = by (checking f) (only_26_is_new f) e
  where
    by : (a : CheckAnswer) → AsBeforeOr26 (checking_without26 f) a → a ≡ counted n → checking_without26 f ≡ counted n
    by _ as_before q = q
    by _ (named_twice k) q = absurd (let z : ◌≡◌ {A = ℕ} 0 1 = cc in omega arith)
