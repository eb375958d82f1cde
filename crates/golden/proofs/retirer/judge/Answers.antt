-- `retirer::judge`: the refusals of the step, then 36 and 37.
use mathlib.Core.Path.{◌≡◌}
use Rattle.std.proofs.lemmas.Result.{err_from_is_err_and}
use Rattle.envelope.specs.Told.{told_part}
use Rattle.golden.proofs.RetiringLaws.{retire_refused, retire_end, is_36, is_37, is_done}
use Rattle.golden.proofs.SteppingLaws.{stored_so, missing_so}
use Rattle.golden.specs.Stepping.{message, step_at}
use Rattle.golden.proofs.retirer.judge.Goals as goal
use Rattle.golden.proofs.retirer.judge.Goals.{In_ok-stored}

-- the step has answered a message
answered : (c : In_ok-stored) → message c.in_ok-stored.stored.retired (told_part c.in_ok-stored.stored.part) ≡ step_at c.args.file.now c.args.n
answered c = stored_so _ _ _ _ c.ok_or.ensures.value c.in_ok-answer_at.ensures _ c.in_ok-stored.was

pub returns-in_err-answer_at : goal.returns-in_err-answer_at
returns-in_err-answer_at c =
    let p = err_from_is_err_and c.from_residual.result c.from_residual.ensures.1 in
    rw (p.1, p.2) (retire_refused _ _ _ _ c.in_err-answer_at.ensures)

pub returns-in_err-stored : goal.returns-in_err-stored
returns-in_err-stored c =
    let p = err_from_is_err_and c.from_residual-in_err-stored.result c.from_residual-in_err-stored.ensures.1 in
    let m = missing_so _ _ _ _ c.ok_or.ensures.value c.in_ok-answer_at.ensures _ c.in_err-stored.was in
    rw (p.1, p.2, m.0) (retire_end _ _ _ m.1)

pub returns-then-stored : goal.returns-then-stored
returns-then-stored c = is_36 _ _ _ _ _ (answered (goal.at.returns-then-stored c).In_ok-stored) c.if-stored.true

pub returns-then-room-file : goal.returns-then-room-file
returns-then-room-file c = is_37 _ _ _ _ _ (answered (goal.at.returns-then-room-file c).In_ok-stored) c.if-stored.false c.if-room-file.true

pub returns : goal.returns
returns c = is_done _ _ _ _ _ (answered (goal.at.returns c).In_ok-stored) c.if-stored.false c.if-room-file.false
