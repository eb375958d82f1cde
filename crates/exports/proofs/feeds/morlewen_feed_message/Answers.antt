-- `feeds::morlewen_feed_message`: the promise of `held`, told in a word; the message is no longer than what is kept.
use Rattle.std.proofs.Common.{ℕ, List, length, ap, ◌∙◌}
use Rattle.feed.specs.Feeding.{holding}
use Rattle.exports.specs.Word.{word, sized}
use Rattle.exports.proofs.feeds.morlewen_feed_message.Goals as goal

pub returns : goal.returns
returns c =
    c.word.ensures
    ∙ ap word c.done.ensures
    ∙ ap (λ (m : List ℕ). word (sized (length m))) (c.held.ensures ∙ ap holding (c.beside_in.ensures c.args.kept.now))
