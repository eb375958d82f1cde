-- `maker::make`: 33, 34, 35, or the record put down.
use mathlib.Core.Path.{◌≡◌, refl, ap, sym, ◌∙◌}
use Rattle.std.proofs.Common.{rules}
use Rattle.std.proofs.lemmas.Result.{err_from_is_err_and}
use Rattle.envelope.specs.Reading.{reading}
use Rattle.envelope.specs.Fields.{accepted}
use Rattle.envelope.specs.Told.{told, told_envelope}
use Rattle.golden.proofs.MakingLaws.{no_making, is_33, is_34, is_35, is_made}
use Rattle.golden.proofs.MappedLaws.{kept_ok, made_err}
use Rattle.golden.specs.declared.refusal.Refusal.TheVariants.{MessageRefused}
use Rattle.golden.proofs.maker.make.Goals as goal
use Rattle.golden.proofs.maker.make.Goals.{In_ok-map_err}

accepts : (c : In_ok-map_err) → reading c.args.message.now ≡ accepted (told_envelope c.in_ok-map_err.field-0)
accepts c =
    let k = kept_ok _ _ _ c.map_err.ensures.cases _ c.in_ok-map_err.was in
    sym (ap told (sym k) ∙ c.read.ensures)

pub returns-then-message-gt-MESSAGE_ROOM : goal.returns-then-message-gt-MESSAGE_ROOM
returns-then-message-gt-MESSAGE_ROOM c = no_making _ _ _ _ (is_33 _ _ c.if-message-gt-MESSAGE_ROOM.true) _ refl

pub returns-in_err-map_err : goal.returns-in_err-map_err
returns-in_err-map_err c =
    let p = err_from_is_err_and c.from_residual.result c.from_residual.ensures.1 in
    let m = made_err _ _ _ c.map_err.ensures.cases _ c.in_err-map_err.was in
    let made : c.in_err-map_err.field-0.0 ≡ MessageRefused m.0 = search (rules, m.1) in
    rw (p.1, p.2, made) (no_making _ _ _ _ (is_34 _ _ c.if-message-gt-MESSAGE_ROOM.false _ (sym (ap told (sym m.2) ∙ c.read.ensures))) _ refl)

pub returns-then-buffer-ne-SIZE : goal.returns-then-buffer-ne-SIZE
returns-then-buffer-ne-SIZE c =
    no_making _ _ _ _ (is_35 _ _ c.if-message-gt-MESSAGE_ROOM.false _ (accepts (goal.at.returns-then-buffer-ne-SIZE c).In_ok-map_err) c.if-buffer-ne-SIZE.true) _ refl

pub returns : goal.returns
returns c =
    let e = is_made _ _ c.if-message-gt-MESSAGE_ROOM.false _ (accepts (goal.at.returns c).In_ok-map_err) c.if-buffer-ne-SIZE.false in
    (sym e, c.copy_from_slice.ensures.after ∙ c.of.ensures ∙ rw e)
