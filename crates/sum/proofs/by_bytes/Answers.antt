-- `sum::by_bytes`: a byte taken leads to the same state, and with none to come what is pending is that state.
use mathlib.Core.Path.{◌∙◌}
use native.Mathlib.Omega.{arith}
use Rattle.sum.proofs.Stages.{byte_on, leads_last}
use Rattle.sum.proofs.by_bytes.Goals as goal

pub loop-byte-preserved : goal.loop-byte-preserved
loop-byte-preserved c =
    let at = c.loop-byte in
    byte_on c.args.bytes.now at.byte-index at.pending c.bits_step-pending.result (λ k. (c.type_inv.bytes k).fits) c.loop-byte-test.true
    (rw c.from.ensures at c.bits_step-pending.ensures)
    ∙ at.invariant

pub returns : goal.returns
returns c =
    let at = c.loop-byte in
    leads_last c.args.bytes.now at.byte-index at.pending c.loop-byte-test.false (rw at.invariant c.requires) ∙ at.invariant

pub overflow_cast-result : goal.overflow_cast-result
overflow_cast-result c = let state = returns c in omega (arith, state, c.requires)
