-- `Given::fill`: all before the field, and then the field, whose number is taken over what was put.
use Rattle.std.proofs.Common.{sym, ◌∙◌, arith}
use Rattle.envelope.proofs.WriteLaws.{before-length, field_put}
use Rattle.envelope.specs.Message.{before_field, message}
use Rattle.envelope.specs.Writing.{told_given}
use Rattle.envelope.proofs.writer.Given.fill.Goals as goal

pub returns : goal.returns
unfolding message before_field
returns c =
    let g = told_given c.args.self in
    let l = before-length g in
    field_put c.args.buffer.now (before_field g) _ _ _ _ _ _ _ _ (omega (arith, c.requires.fits)) (c.put_before_field-end.ensures.0 ∙ sym l)
    c.put_before_field-end.ensures.1 c.kind-kind.ensures c.field_number-number.ensures c.four_digits.ensures c.put.ensures.1
