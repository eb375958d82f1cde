-- `announcer::announce`: a whole header, then its rules, then the length, as the definition is put together.
use Rattle.std.proofs.Common.{sym}
use Rattle.std.proofs.lemmas.Result.{err_from_is_err_and}
use Rattle.envelope.proofs.AnnouncingLaws.{announcing_short, announcing_long}
use Rattle.envelope.proofs.HeadingLaws.{header_says}
use Rattle.envelope.proofs.announcer.announce.Goals as goal

pub returns-in_default : goal.returns-in_default
returns-in_default c = sym (announcing_short c.args.bytes.now c.in_default.ensures.cases)

pub returns-in_err-judge_heading : goal.returns-in_err-judge_heading
returns-in_err-judge_heading c =
    let first = c.in-Some.ensures.cases in
    let h = header_says _ _ first in
    let p = err_from_is_err_and c.from_residual.result c.from_residual.ensures.1 in
    rw (p.1, p.2, announcing_long c.args.bytes.now first.enough, ← h.heading, sym c.in_err-judge_heading.ensures)

pub returns : goal.returns
returns c =
    let first = c.in-Some.ensures.cases in
    let h = header_says _ _ first in
    rw (announcing_long c.args.bytes.now first.enough, ← h.heading, sym c.in_ok-judge_heading.ensures, c.announced_length.ensures, h.announced)
