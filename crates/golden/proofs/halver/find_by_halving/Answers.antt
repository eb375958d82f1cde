-- `halver::find_by_halving`: 21, or the search among all records: the record in the middle ends it, or leaves half of the range.
use mathlib.Core.Path.{◌≡◌, sym, ◌∙◌}
use Prim.Native.Nat.{◌+◌}
use native.Mathlib.Omega.{arith}
use Rattle.std.proofs.Common.{rules}
use Rattle.std.proofs.lemmas.Result.{err_from_is_err_and}
use Rattle.envelope.specs.Told.{told_envelope}
use Rattle.golden.proofs.FileLaws.{counted_so}
use Rattle.golden.proofs.MappedLaws.{kept_ok, made_err}
use Rattle.golden.proofs.FindingLaws.{opened_good, opened_bad}
use Rattle.golden.proofs.HalvingLaws.{halving_on, halving_end}
use Rattle.golden.proofs.TurnLaws.{halving_uncounted, halving_begin, goes_after, is_named_so, goes_before}
use Rattle.golden.specs.File.{judged_at}
use Rattle.golden.specs.Halving.{half}
use Rattle.golden.specs.Record.{good}
use Rattle.golden.proofs.halver.find_by_halving.Goals as goal
use Rattle.golden.proofs.halver.find_by_halving.Goals.{In_ok-good}

-- the record in the middle is good
good_here : (c : In_ok-good) → judged_at c.args.file.now (half c.loop-first.first c.loop-first.end) ≡ good c.in_ok-good.good.retired (told_envelope c.in_ok-good.good.envelope)
good_here c = opened_good _ _ _ (kept_ok _ _ _ c.map_err.ensures.cases _ c.in_ok-good.was) c.open_at.ensures

pub returns-in_err-end : goal.returns-in_err-end
returns-in_err-end c =
    let p = err_from_is_err_and c.from_residual.result c.from_residual.ensures.1 in
    rw (p.1, p.2) (halving_uncounted _ _ _ c.in_err-end.ensures)

pub loop-first-init : goal.loop-first-init
loop-first-init c =
    let k = (counted_so _ _ c.in_ok-end.ensures).1 in
    record { ordered = omega arith; within = omega (arith, k); few = omega (arith, k); left = halving_begin _ _ _ c.in_ok-end.ensures }

pub returns-in_err-good : goal.returns-in_err-good
returns-in_err-good c =
    let p = err_from_is_err_and c.from_residual-in_err-good.result c.from_residual-in_err-good.ensures.1 in
    let b = made_err _ _ _ c.map_err.ensures.cases _ c.in_err-good.was in
    let made : c.in_err-good.field-0.0 ≡ record { refusal = b.0; opened = c.loop-first.opened + 1 } = search (rules, b.1) in
    rw (p.1, p.2, made) (sym (c.loop-first.invariant.left ∙ halving_on _ _ _ _ _ c.loop-first-test.true _ (opened_bad _ _ _ b.2 c.open_at.ensures)))

pub loop-first-preserved-in-Less : goal.loop-first-preserved-in-Less
loop-first-preserved-in-Less c =
    let here = good_here (goal.at.loop-first-preserved-in-Less c).In_ok-good in
    let side = goes_after _ _ (told_envelope c.in_ok-good.good.envelope) c.from.ensures _ c.cmp.ensures c.in-Less.is in
    record {
      ordered = omega arith;
      within = c.loop-first.invariant.within;
      few = omega (arith, c.loop-first.invariant.few);
      left = c.loop-first.invariant.left ∙ halving_on _ _ _ _ _ c.loop-first-test.true _ here ∙ rw (side.0, side.1);
    }

pub loop-first-preserved : goal.loop-first-preserved
loop-first-preserved c =
    let here = good_here (goal.at.loop-first-preserved c).In_ok-good in
    let side = goes_before _ _ (told_envelope c.in_ok-good.good.envelope) c.from.ensures _ c.cmp.ensures c.in-Greater.is in
    record {
      ordered = omega arith;
      within = omega (arith, c.loop-first.invariant.within);
      few = omega (arith, c.loop-first.invariant.few);
      left = c.loop-first.invariant.left ∙ halving_on _ _ _ _ _ c.loop-first-test.true _ here ∙ rw (side.0, side.1);
    }

pub returns-in-Equal-2 : goal.returns-in-Equal-2
returns-in-Equal-2 c =
    let here = good_here (goal.at.returns-in-Equal-2 c).In_ok-good in
    sym (c.loop-first.invariant.left ∙ halving_on _ _ _ _ _ c.loop-first-test.true _ here ∙ rw (is_named_so _ _ (told_envelope c.in_ok-good.good.envelope) c.from.ensures _ c.cmp.ensures c.in-Equal-2.is, c.if-good.false))

pub returns-in-Equal : goal.returns-in-Equal
returns-in-Equal c =
    let here = good_here (goal.at.returns-in-Equal c).In_ok-good in
    sym (c.loop-first.invariant.left ∙ halving_on _ _ _ _ _ c.loop-first-test.true _ here ∙ rw (is_named_so _ _ (told_envelope c.in_ok-good.good.envelope) c.from.ensures _ c.cmp.ensures c.in-Equal.is, c.if-good.true))

pub returns-after-loop-first : goal.returns-after-loop-first
returns-after-loop-first c = sym (c.loop-first.invariant.left ∙ halving_end _ _ _ _ _ c.loop-first-test.false)
