-- `checker::check`: each record is good and new, or the first that is not is named, or all have passed.
use mathlib.Core.Bool.{true, false}
use mathlib.Core.Path.{◌≡◌, refl, ap, sym, ◌∙◌}
use Prim.Native.Nat.{ℕ}
use native.Mathlib.Omega.{arith}
use lib.ListN.{get_or, length-set}
use Rattle.std.proofs.Common.{rules}
use Rattle.std.proofs.lemmas.Result.{err_from_is_err_and}
use Rattle.envelope.specs.Told.{told_envelope}
use Rattle.golden.proofs.BucketLaws.{none_used, used_on}
use Rattle.golden.proofs.FileLaws.{counted_so, records_count, records_end, record_there, record_opened, one_more}
use Rattle.golden.proofs.MappedLaws.{kept_ok, made_err}
use Rattle.golden.proofs.FindingLaws.{opened_good, opened_bad, check_uncounted, check_all, check_on, check_end, repeats_by_bytes}
use Rattle.golden.proofs.NameLaws.{name_is_written}
use Rattle.golden.specs.Checking.{CheckAnswer, counted, repeats, check_from, checking}
use Rattle.golden.specs.File.{count_of, record_at, judged_at}
use Rattle.golden.specs.Finding.{name_of}
use Rattle.golden.specs.Helpers.{written_name, bucket_of}
use Rattle.golden.specs.Record.{good}
use Rattle.golden.specs.Theorems.{GoodAt}
use Rattle.golden.proofs.checker.check.Goals as goal
use Rattle.golden.proofs.checker.check.Goals.{In_ok-count, In_ok-good, After-bucket_of-bucket, After-is_repeated}

-- what the records from n on give, all of them give
all_give : (c : In_ok-count) (x : CheckAnswer) → check_from c.args.file.now 0 (count_of c.args.file.now) ≡ x → x ≡ checking c.args.file.now
all_give c x e =
    let k = counted_so _ _ c.in_ok-count.ensures in
    check_all _ k.0 x e

-- the record at hand is good
good_here : (c : In_ok-good) → judged_at c.args.file.now c.loop-n.n-counter ≡ good c.in_ok-good.good.retired (told_envelope c.in_ok-good.good.envelope)
good_here c = opened_good _ _ _ (kept_ok _ _ _ c.map_err.ensures.cases _ c.in_ok-good.was) (record_opened _ _ c.loop-n.n-counter _ c.records-bytes-items.ensures c.loop-n-test.true c.open.ensures)

pub returns-in_err-count : goal.returns-in_err-count
returns-in_err-count c =
    let p = err_from_is_err_and c.from_residual.result c.from_residual.ensures.1 in
    rw (p.1, p.2) (check_uncounted _ _ c.in_err-count.ensures)

pub returns-in_err-good : goal.returns-in_err-good
returns-in_err-good c =
    let p = err_from_is_err_and c.from_residual-in_err-good.result c.from_residual-in_err-good.ensures.1 in
    let b = made_err _ _ _ c.map_err.ensures.cases _ c.in_err-good.was in
    let made : c.in_err-good.field-0.0 ≡ record { «record» = c.loop-n.n-counter; refusal = b.0 } = search (rules, b.1) in
    rw (p.1, p.2, made)
    (all_give (goal.at.returns-in_err-good c).In_ok-count _ (c.loop-n.invariant.left ∙ check_on _ _ _ (record_there _ _ _ c.records-bytes-items.ensures c.loop-n-test.true) _ refl _ (opened_bad _ _ _ b.2 (record_opened _ _ c.loop-n.n-counter _ c.records-bytes-items.ensures c.loop-n-test.true c.open.ensures))))

pub is_repeated-requires : goal.is_repeated-requires
is_repeated-requires c = (
  omega (arith, record_there _ _ _ c.records-bytes-items.ensures c.loop-n-test.true),
  λ e. none_used _ c.loop-n.used (name_of (told_envelope c.in_ok-good.good.envelope)) _ c.loop-n.invariant.used (ap (λ (s : ℕ). get_or c.loop-n.used s false) (sym (c.bucket_of-bucket.ensures.0 ∙ ap bucket_of c.from.ensures)) ∙ e),
)

-- an earlier live one has its name, or none
repeated : (c : After-is_repeated) → repeats c.args.file.now c.loop-n.n-counter ≡ c.is_repeated.result
repeated c =
    repeats_by_bytes _ _ _ _ (opened_good _ _ _ (kept_ok _ _ _ c.map_err.ensures.cases _ c.in_ok-good.was) (record_opened _ _ c.loop-n.n-counter _ c.records-bytes-items.ensures c.loop-n-test.true c.open.ensures)) c.loop-n.invariant.seen
    ∙ sym c.is_repeated.ensures

-- its bucket is that of the name in its bytes
bucket_here : (c : After-bucket_of-bucket) → bucket_of (written_name (record_at c.args.file.now c.loop-n.n-counter)) ≡ c.bucket_of-bucket.result
bucket_here c =
    let here = opened_good _ _ _ (kept_ok _ _ _ c.map_err.ensures.cases _ c.in_ok-good.was) (record_opened _ _ c.loop-n.n-counter _ c.records-bytes-items.ensures c.loop-n-test.true c.open.ensures) in
    ap bucket_of (sym (name_is_written c.args.file.now c.loop-n.n-counter _ _ here) ∙ sym c.from.ensures) ∙ sym c.bucket_of-bucket.ensures.0

pub returns-then-is_repeated : goal.returns-then-is_repeated
returns-then-is_repeated c =
    all_give (goal.at.returns-then-is_repeated c).In_ok-count _
    (c.loop-n.invariant.left
    ∙ check_on _ _ _ (record_there _ _ _ c.records-bytes-items.ensures c.loop-n-test.true) _ (repeated (goal.at.returns-then-is_repeated c).After-is_repeated ∙ c.if-is_repeated.true) _ (good_here (goal.at.returns-then-is_repeated c).In_ok-good))

pub loop-n-preserved : goal.loop-n-preserved
loop-n-preserved c =
    let here = good_here (goal.at.loop-n-preserved c).In_ok-good in
    let room = c.loop-n.invariant.whole in
    let within = c.bucket_of-bucket.ensures.1 in
    record {
      left = c.loop-n.invariant.left ∙ check_on _ _ _ (record_there _ _ _ c.records-bytes-items.ensures c.loop-n-test.true) _ (repeated (goal.at.loop-n-preserved c).After-is_repeated ∙ c.if-is_repeated.false) _ here;
      seen = one_more (GoodAt _) _ c.loop-n.invariant.seen (record { retired = _; fields = _; judged = here });
      whole = length-set c.loop-n.used c.bucket_of-bucket.result true ∙ room;
      used = used_on _ c.loop-n.used _ c.bucket_of-bucket.result (omega (arith, room, within)) (bucket_here (goal.at.loop-n-preserved c).After-bucket_of-bucket) c.loop-n.invariant.used;
    }

pub returns : goal.returns
returns c =
    let end = records_end _ _ _ c.records-bytes-items.ensures c.loop-n-test.false in
    let all : c.loop-n.n-counter ≡ c.in_ok-count.count =
    omega (arith, c.loop-n.auto.n-counter-end, end, records_count _ _ c.records-bytes-items.ensures, (counted_so _ _ c.in_ok-count.ensures).1) in
    all_give (goal.at.returns c).In_ok-count _ (c.loop-n.invariant.left ∙ check_end _ _ _ end ∙ ap (λ (n : ℕ). counted n) all)
