-- `Record::of`: two bytes of length, and the message copied over zeros.
use mathlib.Core.Path.{◌∙◌}
use Rattle.golden.proofs.MakingLaws.{fresh_record}
use Rattle.golden.proofs.record.Record.of.Goals as goal

pub returns : goal.returns
returns c =
    rw (c.copy_from_slice.ensures.after ∙ c.two_digits.ensures)
    (fresh_record c.args.message.now _ c.copy_from_slice-2.ensures.after)
