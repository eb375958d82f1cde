-- `sum::by_words`: eight bytes taken lead to the same state.
use mathlib.Core.Path.{◌∙◌}
use native.Mathlib.Omega.{arith}
use Rattle.sum.proofs.Stages.{leads_first, chunk_on}
use Rattle.sum.proofs.by_words.Goals as goal

pub loop-word-init : goal.loop-word-init
loop-word-init c = let h = c.from.ensures in (λ k. (c.type_inv.bytes k).fits, rw h (leads_first c.args.bytes.now (λ k. (c.type_inv.bytes k).fits)))

pub loop-word-preserved : goal.loop-word-preserved
loop-word-preserved c =
    let at = c.loop-word in
    let cut = c.in-Some.ensures.cases in
    let on =
    chunk_on at.rest.now c.in-Some.word.now c.in-Some.after.now 7 88 at.pending c.from_le_bytes.result c.word_step-pending.result
    at.invariant.0 cut.0 cut.1 cut.2 (omega arith) c.from_le_bytes.ensures c.word_step-pending.ensures in
    (on.0, on.1 ∙ at.invariant.1)
