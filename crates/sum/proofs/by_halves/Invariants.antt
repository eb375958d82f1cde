-- `sum::by_halves`. The invariant is what it promises: what is pending and the bytes to come lead to the same state.
use mathlib.Core.Path.{◌≡◌}
use lib.ListN.{length}
use Rattle.sum.specs.Detection.{Bytes}
use Rattle.sum.specs.Words.{leads_to}
use Rattle.sum.proofs.by_halves.Given as goal

abbrev pub invariant-loop-half : goal.invariant-loop-half
invariant-loop-half l = Bytes l.rest × (leads_to l.rest l.pending ≡ leads_to l.bytes l.fn.pending)

abbrev pub decreases-loop-half : goal.decreases-loop-half
decreases-loop-half l = length l.rest
