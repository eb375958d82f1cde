-- `sum::by_bytes`. The invariant is what it promises: what is pending and the bytes to come lead to the same state.
use mathlib.Core.Path.{◌≡◌}
use lib.ListN.{drop}
use Rattle.sum.specs.Words.{leads_to}
use Rattle.sum.proofs.by_bytes.Given as goal

abbrev pub invariant-loop-byte : goal.invariant-loop-byte
invariant-loop-byte l = leads_to (drop l.byte-index l.bytes) l.pending ≡ leads_to l.bytes l.fn.pending
