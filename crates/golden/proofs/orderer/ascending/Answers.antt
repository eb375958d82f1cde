-- `orderer::ascending`: each record is good and in place, or the first that is not is named, or all ascend.
use mathlib.Core.Bool.{not}
use mathlib.Core.Path.{◌≡◌, refl, ap, sym, ◌∙◌}
use native.Mathlib.Omega.{arith}
use Rattle.std.proofs.Common.{rules}
use Rattle.std.proofs.lemmas.Result.{err_from_is_err_and}
use Rattle.envelope.specs.Told.{told_envelope}
use Rattle.golden.proofs.FileLaws.{counted_so, records_end, record_there, record_opened}
use Rattle.golden.proofs.MappedLaws.{kept_ok, made_err}
use Rattle.golden.proofs.FindingLaws.{opened_good, opened_bad}
use Rattle.golden.proofs.OrderingLaws.{order_uncounted, order_all, order_on, order_end, placed, comes_after, after_so}
use Rattle.golden.specs.File.{count_of, judged_at}
use Rattle.golden.specs.Ordering.{OrderAnswer, in_place, order_from, ordering}
use Rattle.golden.specs.Record.{good}
use Rattle.golden.proofs.orderer.ascending.Goals as goal
use Rattle.golden.proofs.orderer.ascending.Goals.{In_ok-count, In_ok-good, After-is_some_and}

-- what the records from n on give, all of them give
all_give : (c : In_ok-count) (x : OrderAnswer) → order_from c.args.file.now 0 (count_of c.args.file.now) ≡ x → x ≡ ordering c.args.file.now
all_give c x e =
    let k = counted_so _ _ c.in_ok-count.ensures in
    order_all _ k.0 x e

-- the record at hand is good
good_here : (c : In_ok-good) → judged_at c.args.file.now c.loop-n.n-counter ≡ good c.in_ok-good.good.retired (told_envelope c.in_ok-good.good.envelope)
good_here c = opened_good _ _ _ (kept_ok _ _ _ c.map_err.ensures.cases _ c.in_ok-good.was) (record_opened _ _ c.loop-n.n-counter _ c.records-bytes-items.ensures c.loop-n-test.true c.open.ensures)

pub returns-in_err-count : goal.returns-in_err-count
returns-in_err-count c =
    let p = err_from_is_err_and c.from_residual.result c.from_residual.ensures.1 in
    rw (p.1, p.2) (order_uncounted _ _ c.in_err-count.ensures)

pub returns-in_err-good : goal.returns-in_err-good
returns-in_err-good c =
    let p = err_from_is_err_and c.from_residual-in_err-good.result c.from_residual-in_err-good.ensures.1 in
    let b = made_err _ _ _ c.map_err.ensures.cases _ c.in_err-good.was in
    let made : c.in_err-good.field-0.0 ≡ record { «record» = c.loop-n.n-counter; refusal = b.0 } = search (rules, b.1) in
    rw (p.1, p.2, made)
    (all_give (goal.at.returns-in_err-good c).In_ok-count _ (c.loop-n.invariant.0 ∙ order_on _ _ _ (record_there _ _ _ c.records-bytes-items.ensures c.loop-n-test.true) _ refl _ (opened_bad _ _ _ b.2 (record_opened _ _ c.loop-n.n-counter _ c.records-bytes-items.ensures c.loop-n-test.true c.open.ensures))))

-- and in place, or not
place_here : (c : After-is_some_and) → in_place c.args.file.now c.loop-n.n-counter ≡ not c.is_some_and.result
place_here c =
    let here = opened_good _ _ _ (kept_ok _ _ _ c.map_err.ensures.cases _ c.in_ok-good.was) (record_opened _ _ c.loop-n.n-counter _ c.records-bytes-items.ensures c.loop-n-test.true c.open.ensures) in
    placed _ _ c.loop-n.last _ _ here c.loop-n.invariant.1
    ∙ ap (comes_after c.loop-n.last) (sym c.from-name.ensures)
    ∙ after_so c.from-name.result c.loop-n.last _ _ (λ x p. search rules) c.is_some_and.ensures

pub returns-then-is_some_and : goal.returns-then-is_some_and
returns-then-is_some_and c =
    all_give (goal.at.returns-then-is_some_and c).In_ok-count _
    (c.loop-n.invariant.0
    ∙ order_on _ _ _ (record_there _ _ _ c.records-bytes-items.ensures c.loop-n-test.true) _ (place_here (goal.at.returns-then-is_some_and c).After-is_some_and ∙ ap not c.if-is_some_and.true) _ (good_here (goal.at.returns-then-is_some_and c).In_ok-good))

pub loop-n-preserved : goal.loop-n-preserved
loop-n-preserved c =
    let here = good_here (goal.at.loop-n-preserved c).In_ok-good in (
      c.loop-n.invariant.0 ∙ order_on _ _ _ (record_there _ _ _ c.records-bytes-items.ensures c.loop-n-test.true) _ (place_here (goal.at.loop-n-preserved c).After-is_some_and ∙ ap not c.if-is_some_and.false) _ here,
      (c.loop-n.n-counter, omega arith, record { retired = _; fields = _; judged = here; named = sym c.from-name.ensures }),
    )

pub returns : goal.returns
returns c = all_give (goal.at.returns c).In_ok-count _ (c.loop-n.invariant.0 ∙ order_end _ _ _ (records_end _ _ _ c.records-bytes-items.ensures c.loop-n-test.false))
