-- `lister::count_retired`: each record adds one or nothing, so the sum is at most the number of records seen.
use mathlib.Core.Path.{◌≡◌, ap, ◌∙◌}
use native.Mathlib.Omega.{arith}
use Rattle.std.proofs.Common.{rules}
use Rattle.std.proofs.lemmas.Result.{err_from_is_err_and}
use Rattle.golden.proofs.CountLaws.{one_or_none, none_below, one_on}
use Rattle.golden.proofs.FileLaws.{counted_so, uncounted_so, records_count, record_opened}
use Rattle.golden.specs.File.{count_of}
use Rattle.golden.specs.Listing.{counted, retired_below, counting_retired}
use Rattle.golden.proofs.lister.count_retired.Goals as goal
use Rattle.golden.proofs.lister.count_retired.Goals.{then-is_ok_and, else-is_ok_and}

pub returns-in_err-count : goal.returns-in_err-count
unfolding counting_retired
returns-in_err-count c =
    let p = err_from_is_err_and c.from_residual.result c.from_residual.ensures.1 in
    let u = uncounted_so _ _ c.in_err-count.ensures in
    rw (p.1, p.2, u.0, u.1)

pub loop-bytes-init : goal.loop-bytes-init
loop-bytes-init c = (none_below _, omega arith)

pub loop-bytes-preserved : goal.loop-bytes-preserved
loop-bytes-preserved c =
    let here = one_or_none c.args.file.now c.loop-bytes.bytes-index _ _ _ (λ g p. search rules) (record_opened _ _ c.loop-bytes.bytes-index _ c.records-bytes-items.ensures c.loop-bytes-test.true c.open.ensures) c.is_ok_and.ensures in
    elim c.if-is_ok_and.branch [
      | then-is_ok_and w ↦
          (w.retired-is ∙ one_on _ _ _ _ c.loop-bytes.invariant.0 (rw w.if-is_ok_and.true at here), omega (arith, w.retired-is, c.loop-bytes.invariant.1))
      | else-is_ok_and w ↦
          let on = one_on _ _ _ _ c.loop-bytes.invariant.0 (rw w.if-is_ok_and.false at here) in
          (omega (arith, w.retired-is, on), omega (arith, w.retired-is, c.loop-bytes.invariant.1))
    ]

pub returns : goal.returns
unfolding counting_retired
returns c =
    let k = counted_so _ _ c.in_ok-count.ensures in
    let all : c.loop-bytes.bytes-index ≡ count_of c.args.file.now =
    omega (arith, c.loop-bytes.auto.bytes-index-end, c.loop-bytes-test.false, records_count _ _ c.records-bytes-items.ensures) in
    rw k.0 (ap counted (c.loop-bytes.invariant.0 ∙ ap (retired_below _) all))
