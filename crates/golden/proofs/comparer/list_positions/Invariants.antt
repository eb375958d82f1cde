-- The loop of `comparer::list_positions`: the positions that are left lead from the list and the total to the definition's.
use Rattle.golden.proofs.PositionLaws.{Going}
use Rattle.golden.specs.Comparing.{differs_at}
use Rattle.golden.proofs.comparer.list_positions.Given as goal

abbrev pub invariant-loop-position : goal.invariant-loop-position
invariant-loop-position l = Going (differs_at l.golden l.radio) l.end l.initial.list l.list l.total l.position
