-- `Given::put_variable`: nothing, or TTL and QoS and then two addresses, each put after the one before.
use Rattle.std.proofs.Common.{◌++◌, arith}
use Rattle.envelope.proofs.PastedLaws.{pasted_none, pasted_ends}
use Rattle.envelope.specs.Numbers.{in_two}
use Rattle.envelope.proofs.writer.Given.put_variable.Goals as goal

pub returns-in-None : goal.returns-in-None
returns-in-None c =
    (rw c.in-None.is (omega arith), rw c.in-None.is (pasted_none c.args.buffer.now c.args.place))

pub returns-in-Some : goal.returns-in-Some
returns-in-Some c =
    let a = c.args in
    let r = c.in-Some.routing in
    let room = rw c.in-Some.is at c.requires in (
      rw c.in-Some.is (omega arith),
      rw (c.in-Some.is, c.put_end.ensures.1, c.put_end-destination_place.ensures.1, c.put-source_place.ensures.1, c.put_end-destination_place.ensures.0, c.put-source_place.ensures.0, c.two_digits-qos.ensures, c.two_digits-ttl.ensures)
          (pasted_ends a.buffer.now a.place (in_two r.ttl ++ in_two r.qos) a.self.source.now a.self.destination.now (omega arith)),
    )
