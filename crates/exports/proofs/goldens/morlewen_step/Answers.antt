-- `goldens::morlewen_step`: the promise of `step`, told in a word and in two numbers; a step goes on by one or stays.
use mathlib.Core.Path.{sym, subst}
use native.Mathlib.Omega.{arith}
use Rattle.golden.proofs.FewLaws.{step_goes_on_by_one}
use Rattle.exports.proofs.FitsLaws.{step_fits}
use Rattle.exports.specs.Word.{FitsWord}
use Rattle.exports.proofs.goldens.morlewen_step.Goals as goal

pub overflow_sub-stepping : goal.overflow_sub-stepping
overflow_sub-stepping c = omega (arith, c.step-stepping.ensures.1, (step_goes_on_by_one c.args.file.now c.args.«record»).0)

pub word-requires : goal.word-requires
word-requires c =
    let steps = c.step-stepping.ensures in
    subst FitsWord (sym c.step_slots.ensures) (step_fits _ _ _ _ (omega (arith, steps.1, (step_goes_on_by_one c.args.file.now c.args.«record»).1)) steps.0)
