-- `feeds::morlewen_feed_end`: the promise of `close`, told in a word and in two numbers.
use Rattle.std.proofs.Common.{[], ap, ◌∙◌, sym, subst}
use Rattle.feed.specs.Feeding.{FeedOutcome, ending}
use Rattle.exports.proofs.FeedLaws.{stored_tells_place}
use Rattle.exports.proofs.FitsLaws.{end_fits}
use Rattle.exports.specs.Feeds.{found_slots, state_numbers}
use Rattle.exports.specs.Word.{word, FitsWord}
use Rattle.exports.proofs.feeds.morlewen_feed_end.Goals as goal

pub word-requires : goal.word-requires
word-requires c =
    subst FitsWord (sym c.found_slots.ensures) (end_fits _ _ (stored_tells_place [] c.args.numbers.now) (c.close-step.ensures [] ∙ ap ending (c.beside_in.ensures [])))

pub returns : goal.returns
returns c kept =
    let ends = c.close-step.ensures kept ∙ ap ending (c.beside_in.ensures kept) in (
      c.word.ensures ∙ ap word c.found_slots.ensures ∙ ap (λ (o : FeedOutcome). word (found_slots o.finding 0)) ends,
      c.beside_numbers.ensures kept ∙ ap (λ (o : FeedOutcome). state_numbers o.state) ends,
    )
