-- `Given::judge` tries the five rules in their order, and answers the length of the message where none is broken.
use Rattle.std.proofs.Common.{length, sym, ap, ◌∙◌, arith, le-ltb, lt-ltb}
use Rattle.envelope.proofs.WriteLaws.{FourKept, four_writing, message-length, ends_short}
use Rattle.envelope.specs.Message.{message}
use Rattle.envelope.specs.Writing.{stray_integrity, wrote, told_given}
use Rattle.envelope.proofs.writer.Given.judge.Goals as goal
use Rattle.envelope.proofs.writer.Given.judge.Goals.{Else-stray_integrity}

-- the four rules that the buffer has no part in, where they are passed
four_kept : (c : Else-stray_integrity) → FourKept (told_given c.args.self)
four_kept c =
    record {
      flags = sym c.bad_flags.ensures ∙ c.if-bad_flags.false;
      ends = sym c.bad_ends.ensures ∙ c.if-bad_ends.false;
      body = le-ltb _ _ c.if-self-gt-LARGEST_BODY.false;
      integrity = sym (c.stray_integrity.ensures ∙ ap (stray_integrity c.args.self.application) c.kind.ensures) ∙ c.if-stray_integrity.false;
    }

pub variable_length-variable-requires : goal.variable_length-variable-requires
variable_length-variable-requires c =
    let g = told_given c.args.self in
    ends_short g.routing g.source g.destination (four_kept (goal.at.variable_length-variable-requires c).Else-stray_integrity).ends

pub returns-then-room-size : goal.returns-then-room-size
returns-then-room-size c =
    let g = told_given c.args.self in
    let l = message-length g in
    rw (four_writing g c.args.room (four_kept (goal.at.returns-then-room-size c).Else-stray_integrity), lt-ltb c.args.room (length (message g)) (omega arith))

pub returns : goal.returns
returns c =
    let g = told_given c.args.self in
    let l = message-length g in
    rw (four_writing g c.args.room (four_kept (goal.at.returns c).Else-stray_integrity), le-ltb c.args.room (length (message g)) (omega arith)) (ap wrote (omega arith))
