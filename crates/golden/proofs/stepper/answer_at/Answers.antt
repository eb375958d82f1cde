-- `stepper::answer_at`: 21, the end, or the record as it is judged.
use mathlib.Core.Path.{ap, ◌∙◌}
use Prim.Native.Nat.{ℕ, ◌+◌, ◌*◌}
use native.Mathlib.Omega.{arith}
use borrow.Author.Tests.{le-leb}
use Rattle.std.proofs.lemmas.Result.{err_from_is_err_and}
use Rattle.golden.proofs.FileLaws.{counted_so, uncounted_so, whole_file}
use Rattle.golden.proofs.FindingLaws.{judged_bad, judged_good}
use Rattle.golden.proofs.SteppingLaws.{there_steps}
use Rattle.golden.specs.Record.{record_size, head_size}
use Rattle.golden.specs.Stepping.{message, step_at}
use Rattle.golden.proofs.stepper.answer_at.Goals as goal

pub returns-in_err-count : goal.returns-in_err-count
unfolding step_at
returns-in_err-count c =
    let p = err_from_is_err_and c.from_residual.result c.from_residual.ensures.1 in
    let u = uncounted_so _ _ c.in_err-count.ensures in
    rw (p.1, p.2, u.0, u.1)

pub returns-then-branch-n : goal.returns-then-branch-n
unfolding step_at
returns-then-branch-n c =
    let k = counted_so _ _ c.in_ok-count.ensures in
    rw (k.0, ← k.1, le-leb _ _ c.if-branch-n.true)

pub open_at-requires : goal.open_at-requires
open_at-requires c = omega (arith, (counted_so _ _ c.in_ok-count.ensures).1, c.if-branch-n.false)

pub returns-in_err-good : goal.returns-in_err-good
returns-in_err-good c =
    let p = err_from_is_err_and c.from_residual-in_err-good.result c.from_residual-in_err-good.ensures.1 in
    let k = counted_so _ _ c.in_ok-count.ensures in
    rw (p.1, p.2) (there_steps _ _ _ k.1 k.0 c.if-branch-n.false _ (judged_bad _ _ _ c.in_err-good.ensures))

pub overflow_mul-result : goal.overflow_mul-result
overflow_mul-result c =
    let k = counted_so _ _ c.in_ok-count.ensures in
    omega (arith, k.1, c.if-branch-n.false, (whole_file _ k.0).few)

pub overflow_add-result : goal.overflow_add-result
overflow_add-result c =
    let k = counted_so _ _ c.in_ok-count.ensures in
    omega (arith, k.1, c.if-branch-n.false, (whole_file _ k.0).few)

pub returns : goal.returns
returns c =
    let k = counted_so _ _ c.in_ok-count.ensures in
    let good = c.in_ok-good.good in
    let j = judged_good _ _ _ _ _ c.in_ok-good.ensures in
    ap (λ (l : ℕ). message good.retired (record { place = c.args.n * record_size + head_size; size = l })) j.1
    ∙ there_steps _ _ _ k.1 k.0 c.if-branch-n.false _ j.0
