-- `feeds::morlewen_feed_take`: the promise of `advance`, told in a word, in two numbers and in sixteen.
use Rattle.std.proofs.Common.{ap, sym, subst, ◌∙◌}
use Rattle.feed.specs.Feeding.{State, FeedOutcome, taking}
use Rattle.feed.specs.Places.{CountTellsPlace}
use Rattle.feed.specs.Told.{state_of, told_step}
use Rattle.exports.proofs.FeedLaws.{stored_tells_place}
use Rattle.exports.proofs.FitsLaws.{take_fits}
use Rattle.exports.specs.Feeds.{found_slots, lent_after}
use Rattle.exports.specs.Word.{word, FitsWord}
use Rattle.exports.proofs.feeds.morlewen_feed_take.Goals as goal

pub word-requires : goal.word-requires
word-requires c =
    let step = c.advance-step in
    let args = c.args in
    subst FitsWord (sym c.found_slots.ensures) (take_fits (state_of args.kept.now c.beside_in.result) (told_step step.result step.new.kept)
    (subst CountTellsPlace (sym (c.beside_in.ensures args.kept.now)) (stored_tells_place args.kept.now args.numbers.now)) step.ensures.1 step.ensures.2)

pub returns : goal.returns
returns c =
    let step = c.advance-step in
    let args = c.args in
    let takes = step.ensures.0 ∙ ap (λ (s : State). taking s args.piece.now) (c.beside_in.ensures args.kept.now) in (
      c.word.ensures ∙ ap word c.found_slots.ensures ∙ ap (λ (o : FeedOutcome). word (found_slots o.finding o.used)) takes,
      (λ i. record { kept = step.new.kept; numbers = c.beside_numbers.ensures step.new.kept i; fields = c.put_found.ensures i })
          ∙ ap (λ (o : FeedOutcome). lent_after o args.fields.now) takes,
    )
