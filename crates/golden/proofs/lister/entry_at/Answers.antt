-- `lister::entry_at`: 21, 22, or the record as it is judged.
use mathlib.Core.Path.{ap, ◌∙◌}
use Prim.Native.Nat.{ℕ}
use native.Mathlib.Omega.{arith}
use borrow.Author.Tests.{le-leb}
use Rattle.std.proofs.lemmas.Result.{err_from_is_err_and}
use Rattle.golden.proofs.FileLaws.{counted_so, uncounted_so}
use Rattle.golden.proofs.FindingLaws.{judged_bad, judged_good}
use Rattle.golden.proofs.SteppingLaws.{there_entered}
use Rattle.golden.specs.Finding.{NameFields}
use Rattle.golden.specs.Listing.{line, entry_at}
use Rattle.golden.proofs.lister.entry_at.Goals as goal

pub returns-in_err-count : goal.returns-in_err-count
unfolding entry_at
returns-in_err-count c =
    let p = err_from_is_err_and c.from_residual.result c.from_residual.ensures.1 in
    let u = uncounted_so _ _ c.in_err-count.ensures in
    rw (p.1, p.2, u.0, u.1)

pub returns-then-branch-n : goal.returns-then-branch-n
unfolding entry_at
returns-then-branch-n c =
    let k = counted_so _ _ c.in_ok-count.ensures in
    rw (k.0, ← k.1, le-leb _ _ c.if-branch-n.true)

pub open_at-requires : goal.open_at-requires
open_at-requires c = omega (arith, (counted_so _ _ c.in_ok-count.ensures).1, c.if-branch-n.false)

pub returns-in_err-good : goal.returns-in_err-good
returns-in_err-good c =
    let p = err_from_is_err_and c.from_residual-in_err-good.result c.from_residual-in_err-good.ensures.1 in
    let k = counted_so _ _ c.in_ok-count.ensures in
    rw (p.1, p.2) (there_entered _ _ _ k.1 k.0 c.if-branch-n.false _ (judged_bad _ _ _ c.in_err-good.ensures))

pub returns : goal.returns
returns c =
    let k = counted_so _ _ c.in_ok-count.ensures in
    let good = c.in_ok-good.good in
    let j = judged_good _ _ _ _ _ c.in_ok-good.ensures in
    ap (λ (name : NameFields). line name.message_type name.number good.size good.retired) c.from.ensures
    ∙ ap (λ (l : ℕ). line good.envelope.header.message_type good.envelope.header.number l good.retired) j.1
    ∙ there_entered _ _ _ k.1 k.0 c.if-branch-n.false _ j.0
