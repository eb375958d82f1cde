-- `Feed::end` is `close` on the feed's own parts; an end uses no byte.
use Rattle.feed.specs.Told.{told_feed}
use Rattle.feed.proofs.StandLaws.{end_uses_none}
use Rattle.feed.proofs.feeder.Feed.end.Goals as goal

pub returns : goal.returns
returns c =
    let f = c.args.self in
    end_uses_none (told_feed f) _ (c.close-step.ensures f.kept)
