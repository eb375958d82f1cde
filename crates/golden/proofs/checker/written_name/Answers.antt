-- `checker::written_name` reads the bytes of type and number.
use Rattle.golden.proofs.NameLaws.{name_read}
use Rattle.golden.proofs.checker.written_name.Goals as goal

pub returns : goal.returns
returns c = name_read c.args.bytes.now _ _ c.two_bytes-message_type.ensures c.four_bytes-number.ensures
