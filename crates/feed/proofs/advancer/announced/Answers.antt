-- `advancer::announced`: a heading that is refused, or a length over the room.
use mathlib.Core.Path.{sym}
use native.Mathlib.Omega.{arith}
use Rattle.std.proofs.lemmas.Result.{err_from_is_err_and}
use Rattle.feed.proofs.VerdictLaws.{verdict_heading, verdict_too_long}
use Rattle.feed.proofs.advancer.announced.Goals as goal

pub returns-in_err-length : goal.returns-in_err-length
returns-in_err-length c =
    let passed = err_from_is_err_and c.from_residual.result c.from_residual.ensures.1 in
    rw (passed.1, passed.2) (verdict_heading _ _ (sym c.in_err-length.ensures))

pub returns-in-Some : goal.returns-in-Some
returns-in-Some c =
    let says = rw c.in-Some.is at c.in_ok-length.ensures in
    verdict_too_long _ c.in-Some.whole (sym says) (omega arith)
