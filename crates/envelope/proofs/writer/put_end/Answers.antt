-- `writer::put_end`: the address, and a zero after it.
use Rattle.std.proofs.Common.{arith}
use Rattle.envelope.proofs.PastedLaws.{pasted-set}
use Rattle.envelope.proofs.writer.put_end.Goals as goal

pub returns : goal.returns
returns c =
    let p = c.put-zero.ensures in
    (omega arith, rw (p.1, p.0) (pasted-set c.args.buffer.now c.args.place c.args.end.now 0 (omega arith)))
