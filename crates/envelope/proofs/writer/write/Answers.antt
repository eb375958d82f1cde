-- `writer::write`: a refusal leaves the buffer, and a length is answered once the message is in.
use Rattle.std.proofs.Common.{length, ◌∙◌}
use Rattle.envelope.proofs.WriteLaws.{Kept, wrote_kept, kept_allowed, kept_written, written_after}
use Rattle.envelope.specs.Writing.{told_given}
use Rattle.envelope.proofs.writer.write.Goals as goal
use Rattle.envelope.proofs.writer.write.Goals.{In_ok-size}

-- a length was answered: no rule is broken
kept : (c : In_ok-size) → Kept (told_given c.args.given) (length c.args.buffer.now)
kept c = wrote_kept _ _ c.in_ok-size.size c.in_ok-size.ensures

pub fill-requires : goal.fill-requires
fill-requires c = kept_allowed _ _ (kept (goal.at.fill-requires c).In_ok-size)

pub returns : goal.returns
returns c =
    (c.in_ok-size.ensures, rw (kept_written _ _ (kept (goal.at.returns c).In_ok-size)) (c.fill.ensures ∙ written_after _ _))
