-- `sum::by_words`. The invariant is what it promises: what is pending and the bytes to come lead to the same state.
use mathlib.Core.Path.{◌≡◌}
use lib.ListN.{length}
use Rattle.sum.specs.Crc.{all_ones, state_after}
use Rattle.sum.specs.Detection.{Bytes}
use Rattle.sum.specs.Words.{leads_to}
use Rattle.sum.proofs.by_words.Given as goal

abbrev pub invariant-loop-word : goal.invariant-loop-word
invariant-loop-word l = Bytes l.rest × (leads_to l.rest l.pending ≡ state_after all_ones l.bytes)

abbrev pub decreases-loop-word : goal.decreases-loop-word
decreases-loop-word l = length l.rest
