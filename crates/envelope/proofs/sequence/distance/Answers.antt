-- `sequence::distance`: the wrapped difference, read as a signed number.
use Rattle.std.proofs.Common.{◌∙◌, arith, to_z-of_z, w32}
use Rattle.envelope.proofs.SequenceLaws.{signed_is}
use Rattle.envelope.specs.Sequence.{steps_on}
use Rattle.envelope.proofs.sequence.distance.Goals as goal

pub returns : goal.returns
unfolding steps_on
returns c =
    to_z-of_z {w = w32} (record { sfits = c.cast_signed.type_inv }) ∙ c.cast_signed.ensures ∙ signed_is _ (omega arith)
