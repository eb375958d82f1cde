-- The loop of `checker::check`: the records seen are good and used, and those that are left give what all of them give.
use mathlib.Core.Path.{◌≡◌}
use Prim.Native.Nat.{ℕ, ◌<◌, ◌-◌}
use lib.ListN.{length}
use Rattle.golden.specs.File.{count_of}
use Rattle.golden.specs.Checking.{check_from}
use Rattle.golden.specs.Helpers.{buckets, UsedBefore}
use Rattle.golden.specs.Theorems.{GoodAt}
use Rattle.golden.proofs.checker.check.Given as goal

abbrev pub invariant-loop-n : goal.invariant-loop-n
invariant-loop-n l = record {
  left : check_from l.file 0 (count_of l.file) ≡ check_from l.file l.n-counter (count_of l.file - l.n-counter);
  seen : (k : ℕ) → k < l.n-counter → GoodAt l.file k;
  whole : length l.used ≡ buckets;
  used : UsedBefore l.file l.used l.n-counter;
}
