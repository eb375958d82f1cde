-- `finder::find`: 21, or the search among all records: each record ends it or leaves it to those behind it.
use mathlib.Core.Path.{◌≡◌, ap, sym, ◌∙◌}
use Prim.Native.Nat.{ℕ, ◌+◌}
use native.Mathlib.Omega.{arith}
use Rattle.std.proofs.Common.{rules}
use Rattle.std.proofs.lemmas.Result.{err_from_is_err_and}
use Rattle.envelope.specs.Refusals.{plainly}
use Rattle.envelope.specs.Told.{told_envelope}
use Rattle.golden.proofs.FileLaws.{counted_so, records_count, records_end, record_there, record_opened}
use Rattle.golden.proofs.MappedLaws.{kept_ok, made_err}
use Rattle.golden.proofs.FindingLaws.{opened_good, opened_bad, find_uncounted, find_all, find_on, find_end}
use Rattle.golden.specs.File.{count_of, judged_at}
use Rattle.golden.specs.Finding.{FindAnswer, find_from, finding, told_name, refused}
use Rattle.golden.specs.Record.{good}
use Rattle.golden.proofs.finder.find.Goals as goal
use Rattle.golden.proofs.finder.find.Goals.{In_ok-count, In_ok-good}

-- what the records from n on give, all of them give
all_give : (c : In_ok-count) (x : FindAnswer) → find_from c.args.file.now (told_name c.args.name) 0 (count_of c.args.file.now) ≡ x → x ≡ finding c.args.file.now (told_name c.args.name)
all_give c x e =
    let k = counted_so _ _ c.in_ok-count.ensures in
    find_all _ _ k.0 x e

-- the record at hand is good
good_here : (c : In_ok-good) → judged_at c.args.file.now c.loop-n.n ≡ good c.in_ok-good.good.retired (told_envelope c.in_ok-good.good.envelope)
good_here c = opened_good _ _ _ (kept_ok _ _ _ c.map_err.ensures.cases _ c.in_ok-good.was) (record_opened _ _ c.loop-n.n _ c.records-bytes-items.ensures c.loop-n-test.true c.open.ensures)

pub returns-in_err-count : goal.returns-in_err-count
returns-in_err-count c =
    let p = err_from_is_err_and c.from_residual.result c.from_residual.ensures.1 in
    rw (p.1, p.2) (find_uncounted _ _ _ c.in_err-count.ensures)

pub returns-in_err-good : goal.returns-in_err-good
returns-in_err-good c =
    let p = err_from_is_err_and c.from_residual-in_err-good.result c.from_residual-in_err-good.ensures.1 in
    let b = made_err _ _ _ c.map_err.ensures.cases _ c.in_err-good.was in
    let made : c.in_err-good.field-0.0 ≡ record { refusal = b.0; opened = c.loop-n.n + 1 } = search (rules, b.1) in
    rw (p.1, p.2, made)
    (all_give (goal.at.returns-in_err-good c).In_ok-count _ (c.loop-n.invariant ∙ find_on _ _ _ _ (record_there _ _ _ c.records-bytes-items.ensures c.loop-n-test.true) _ (opened_bad _ _ _ b.2 (record_opened _ _ c.loop-n.n _ c.records-bytes-items.ensures c.loop-n-test.true c.open.ensures))))

pub returns-then-is_named : goal.returns-then-is_named
returns-then-is_named c =
    all_give (goal.at.returns-then-is_named c).In_ok-count _
    (c.loop-n.invariant ∙ find_on _ _ _ _ (record_there _ _ _ c.records-bytes-items.ensures c.loop-n-test.true) _ (good_here (goal.at.returns-then-is_named c).In_ok-good) ∙ rw (sym c.is_named.ensures ∙ c.if-is_named.true))

pub loop-n-preserved : goal.loop-n-preserved
loop-n-preserved c =
    c.loop-n.invariant ∙ find_on _ _ _ _ (record_there _ _ _ c.records-bytes-items.ensures c.loop-n-test.true) _ (good_here (goal.at.loop-n-preserved c).In_ok-good) ∙ rw (sym c.is_named.ensures ∙ c.if-is_named.false)

pub returns : goal.returns
returns c =
    let end = records_end _ _ _ c.records-bytes-items.ensures c.loop-n-test.false in
    let all : c.loop-n.n ≡ c.in_ok-count.count =
    omega (arith, c.loop-n.auto.n-end, end, records_count _ _ c.records-bytes-items.ensures, (counted_so _ _ c.in_ok-count.ensures).1) in
    all_give (goal.at.returns c).In_ok-count _ (c.loop-n.invariant ∙ find_end _ _ _ _ end ∙ ap (λ (n : ℕ). refused (plainly 27) n) all)
