-- `record::open` judges length, zeros and message in that order.
use mathlib.Core.Path.{◌≡◌, refl, ap, sym, ◌∙◌}
use Prim.Native.Nat.{◌≤◌}
use native.Mathlib.Omega.{arith}
use lib.ListN.{length}
use Rattle.envelope.specs.Told.{told}
use Rattle.std.proofs.Common.{rules}
use Rattle.std.proofs.lemmas.Result.{err_from_is_err_and}
use Rattle.golden.proofs.MappedLaws.{kept_ok, made_err}
use Rattle.golden.specs.declared.refusal.Refusal.TheVariants.{RecordRefused}
use Rattle.golden.proofs.OpeningLaws.{opened_23, opened_24, opened_by}
use Rattle.golden.proofs.RecordLaws.{length_most}
use Rattle.golden.specs.Record.{record_size, message_room, is_retired}
use Rattle.golden.proofs.record.open.Goals as goal
use Rattle.golden.proofs.record.open.Goals.{Else-bad_length}

-- a length that is not refused leaves the message inside the record
short : (c : Else-bad_length) → c.stored_length-size.result ≤ message_room
short c = length_most _ (sym c.bad_length.ensures ∙ c.if-bad_length.false)

pub returns-then-bad_length : goal.returns-then-bad_length
returns-then-bad_length c = opened_23 _ _ c.stored_length-size.ensures (sym c.bad_length.ensures ∙ c.if-bad_length.true)

pub overflow_add-end : goal.overflow_add-end
overflow_add-end c = let k = short c in omega arith

pub slice_bounds-all_zero-count : goal.slice_bounds-all_zero-count
slice_bounds-all_zero-count c = let k = short (goal.at.slice_bounds-all_zero-count c).Else-bad_length in omega arith

pub slice_bounds-all_zero-start : goal.slice_bounds-all_zero-start
slice_bounds-all_zero-start c = let k = short (goal.at.slice_bounds-all_zero-start c).Else-bad_length in omega arith

pub returns-then-not-all_zero : goal.returns-then-not-all_zero
returns-then-not-all_zero c =
    opened_24 _ _ c.stored_length-size.ensures (sym c.bad_length.ensures ∙ c.if-bad_length.false) (omega arith) _ c.all_zero.ensures c.if-not-all_zero.true

pub slice_bounds-read-end : goal.slice_bounds-read-end
slice_bounds-read-end c = let k = short (goal.at.slice_bounds-read-end c).Else-bad_length in omega arith

pub returns-in_err-envelope : goal.returns-in_err-envelope
returns-in_err-envelope c =
    let long : length c.args.bytes.now ≡ record_size = omega arith in
    let p = err_from_is_err_and c.from_residual.result c.from_residual.ensures.1 in
    let m = made_err _ _ _ c.map_err.ensures.cases _ c.in_err-envelope.was in
    let made : c.in_err-envelope.field-0.0 ≡ RecordRefused m.0 = search (rules, m.1) in
    rw (p.1, p.2, made)
    (opened_by _ _ c.stored_length-size.ensures (sym c.bad_length.ensures ∙ c.if-bad_length.false) long _ c.all_zero.ensures c.if-not-all_zero.false (is_retired c.args.bytes.now) refl _ (ap told (sym m.2) ∙ c.read.ensures))

pub returns : goal.returns
returns c =
    let k = kept_ok _ _ _ c.map_err.ensures.cases _ c.in_ok-envelope.was in
    opened_by _ _ c.stored_length-size.ensures (sym c.bad_length.ensures ∙ c.if-bad_length.false) (omega arith) _ c.all_zero.ensures c.if-not-all_zero.false _ c.is_retired.ensures _ (ap told (sym k) ∙ c.read.ensures)
