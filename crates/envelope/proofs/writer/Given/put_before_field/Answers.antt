-- `Given::put_before_field`: header, variable header and body, each put where the one before ended.
use Rattle.std.proofs.Common.{arith}
use Rattle.envelope.proofs.WriteLaws.{before_put}
use Rattle.envelope.specs.Writing.{told_given}
use Rattle.envelope.proofs.writer.Given.put_before_field.Goals as goal

pub returns : goal.returns
returns c =
    let a = c.args in (
      omega arith,
      before_put a.buffer.now (told_given a.self) _ _ _ _ _ _ _
          (omega (arith, c.requires.fits)) c.variable_length.ensures.0 c.header_digits-front.ensures (omega arith) c.put-variable_place.ensures.1
          c.put_variable-body_place.ensures.0 c.put_variable-body_place.ensures.1 c.put.ensures.1,
    )
