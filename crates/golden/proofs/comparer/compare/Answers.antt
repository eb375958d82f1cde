-- `comparer::compare`: the refusals of the step, 38, that of reading the radio, then two accepted messages.
use mathlib.Core.Path.{◌≡◌, ap, sym, ◌∙◌}
use native.Mathlib.Omega.{arith}
use lib.ListN.{drop}
use lib.ListN.{length-take}
use Rattle.std.proofs.Common.{rules}
use Rattle.std.proofs.lemmas.Result.{err_from_is_err_and}
use Rattle.envelope.proofs.ReadingLaws.{accepted_most}
use Rattle.envelope.specs.Fields.{Span, accepted, part_of}
use Rattle.envelope.specs.Reading.{reading}
use Rattle.envelope.specs.Told.{told, told_envelope, told_part}
use Rattle.golden.proofs.ComparingLaws.{Answered, by_refused, by_end, by_message, compared_38, compared_live, refuses, compares_same, totalled}
use Rattle.golden.proofs.MappedLaws.{kept_ok, made_err}
use Rattle.golden.proofs.SteppingLaws.{good_size, part_is_message, stored_so, missing_so}
use Rattle.golden.specs.Comparing.{with_radio, comparing}
use Rattle.golden.specs.File.{record_at}
use Rattle.golden.specs.Record.{head_size, stored_length, message_of}
use Rattle.golden.specs.declared.refusal.Refusal.TheVariants.{RadioRefused}
use Rattle.golden.proofs.comparer.compare.Goals as goal
use Rattle.golden.proofs.comparer.compare.Goals.{After-slice, Else-stored, In_ok-map_err, In_ok-stored}

-- the step has answered a message
answered : (c : In_ok-stored) → Answered c.args.file.now c.args.n c.args.radio.now c.in_ok-stored.stored.retired (told_part c.in_ok-stored.stored.part)
answered c = by_message _ _ _ _ _ (stored_so _ _ _ _ c.ok_or.ensures.value c.in_ok-answer_at.ensures _ c.in_ok-stored.was)

-- of a record that is live
live : (c : Else-stored) →
    comparing c.args.file.now c.args.n c.args.radio.now
    ≡ with_radio (message_of (record_at c.args.file.now c.args.n)) c.args.radio.now (reading c.args.radio.now)
live c =
    let e = stored_so _ _ _ _ c.ok_or.ensures.value c.in_ok-answer_at.ensures _ c.in_ok-stored.was in
    compared_live _ _ _ (by_message _ _ _ _ _ e).compared c.if-stored.false

-- the part that is handed on is the record's message
message_is : (c : After-slice) → c.slice.result.now ≡ message_of (record_at c.args.file.now c.args.n)
message_is c =
    let a = by_message c.args.file.now c.args.n c.args.radio.now _ _ (stored_so _ _ _ _ c.ok_or.ensures.value c.in_ok-answer_at.ensures _ c.in_ok-stored.was) in
    c.slice.ensures ∙ ap (λ (p : Span). part_of c.args.file.now p) a.part ∙ part_is_message _ _ _ _ a.judged

pub returns-in_err-answer_at : goal.returns-in_err-answer_at
returns-in_err-answer_at c =
    let p = err_from_is_err_and c.from_residual.result c.from_residual.ensures.1 in
    rw (p.1, p.2) (refuses _ _ _ (by_refused _ _ _ _ c.in_err-answer_at.ensures))

pub returns-in_err-stored : goal.returns-in_err-stored
returns-in_err-stored c =
    let p = err_from_is_err_and c.from_residual-in_err-stored.result c.from_residual-in_err-stored.ensures.1 in
    let m = missing_so _ _ _ _ c.ok_or.ensures.value c.in_ok-answer_at.ensures _ c.in_err-stored.was in
    rw (p.1, p.2, m.0) (refuses _ _ _ (by_end _ _ _ m.1))

pub returns-then-stored : goal.returns-then-stored
returns-then-stored c = refuses _ _ _ (compared_38 _ _ _ (answered (goal.at.returns-then-stored c).In_ok-stored).compared c.if-stored.true)

-- the radio's message is accepted
accepts : (c : In_ok-map_err) → reading c.args.radio.now ≡ accepted (told_envelope c.in_ok-map_err.field-0)
accepts c =
    let k = kept_ok _ _ _ c.map_err.ensures.cases _ c.in_ok-map_err.was in
    sym (ap told (sym k) ∙ c.read.ensures)

pub list_positions-total-requires : goal.list_positions-total-requires
list_positions-total-requires c =
    let a = answered (goal.at.list_positions-total-requires c).In_ok-stored in
    let golden = message_is (goal.at.list_positions-total-requires c).After-slice in
    let size = good_size _ _ _ _ a.judged in
    let radio = accepted_most _ _ (λ k. (c.type_inv.radio k).fits) (accepts (goal.at.list_positions-total-requires c).In_ok-map_err) in
    (rw golden (omega (arith, length-take (stored_length (record_at c.args.file.now c.args.n)) (drop head_size (record_at c.args.file.now c.args.n)))), omega (arith, radio))

pub returns-in_err-map_err : goal.returns-in_err-map_err
returns-in_err-map_err c =
    let p = err_from_is_err_and c.from_residual-in_err-map_err.result c.from_residual-in_err-map_err.ensures.1 in
    let m = made_err _ _ _ c.map_err.ensures.cases _ c.in_err-map_err.was in
    let made : c.in_err-map_err.field-0.0 ≡ RadioRefused m.0 = search (rules, m.1) in
    rw (p.1, p.2, made)
    (refuses _ _ _ (live (goal.at.returns-in_err-map_err c).Else-stored ∙ ap (with_radio _ _) (sym (ap told (sym m.2) ∙ c.read.ensures))))

pub returns : goal.returns
returns c =
    compares_same _ _ _ _ _ _ _ (message_is (goal.at.returns c).After-slice)
    (live (goal.at.returns c).Else-stored ∙ ap (with_radio _ _) (accepts (goal.at.returns c).In_ok-map_err))
    (totalled _ _ _ _ c.list_positions-total.ensures.0 c.list_positions-total.ensures.1)
