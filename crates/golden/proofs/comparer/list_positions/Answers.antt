-- `comparer::list_positions`: the last position leaves the definition's list.
use mathlib.Core.Path.{◌≡◌, ◌∙◌}
use native.Mathlib.Omega.{arith}
use Rattle.std.proofs.lemmas.Bool.Decides.{nat_tests}
use Rattle.golden.proofs.ComparingLaws.{marked, passed_over}
use Rattle.golden.proofs.PositionLaws.{going_on, going_end}
use Rattle.golden.specs.Comparing.{differing, longer}
use Rattle.golden.proofs.comparer.list_positions.Goals as goal
use Rattle.golden.proofs.comparer.list_positions.Goals.{then-differ_at, else-differ_at}

pub loop-position-preserved : goal.loop-position-preserved
loop-position-preserved c = elim c.if-differ_at.branch [
  | then-differ_at w ↦
      let m = marked _ _ _ _ _ _ c.differ_at.ensures w.if-differ_at.true w.note.ensures in
      going_on _ _ _ _ _ _ _ _ c.loop-position.invariant c.loop-position-test.true (w.total-is ∙ m.0) (w.list-is ∙ m.1) c.if-differ_at.auto.list
  | else-differ_at w ↦
      let m = passed_over _ _ _ _ _ c.differ_at.ensures w.if-differ_at.false in
      going_on _ _ _ _ _ _ _ _ c.loop-position.invariant c.loop-position-test.true (w.total-is ∙ m.0) (w.list-is ∙ m.1) c.if-differ_at.auto.list
]

pub returns : goal.returns
unfolding differing
returns c =
    let end : c.max-end.result ≡ longer c.args.golden.now c.args.radio.now = grind (arith, nat_tests) in
    rw (← end) (going_end _ _ _ _ _ _ c.loop-position.invariant c.loop-position-test.false)
