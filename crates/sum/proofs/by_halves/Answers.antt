-- `sum::by_halves`: four bytes taken lead to the same state.
use mathlib.Core.Path.{◌∙◌}
use native.Mathlib.Omega.{arith}
use Rattle.sum.proofs.Stages.{chunk_on}
use Rattle.sum.proofs.by_halves.Goals as goal

pub loop-half-preserved : goal.loop-half-preserved
loop-half-preserved c =
    let at = c.loop-half in
    let cut = c.in-Some.ensures.cases in
    let on =
    chunk_on at.rest.now c.in-Some.half.now c.in-Some.after.now 3 0 at.pending c.from_le_bytes.result c.bits_step-pending.result
    at.invariant.0 cut.0 cut.1 cut.2 (omega arith) c.from_le_bytes.ensures c.bits_step-pending.ensures in
    (on.0, on.1 ∙ at.invariant.1)
