-- The loop of `orderer::ascending`: the last record seen is good and has the name kept, and those that are left give what all of them give.
use mathlib.Core.Path.{◌≡◌}
use Prim.Native.Nat.{◌-◌}
use Rattle.golden.proofs.OrderingLaws.{LastBefore}
use Rattle.golden.specs.File.{count_of}
use Rattle.golden.specs.Ordering.{order_from}
use Rattle.golden.proofs.orderer.ascending.Given as goal

abbrev pub invariant-loop-n : goal.invariant-loop-n
invariant-loop-n l = (order_from l.file 0 (count_of l.file) ≡ order_from l.file l.n-counter (count_of l.file - l.n-counter)) × LastBefore l.file l.n-counter l.last
