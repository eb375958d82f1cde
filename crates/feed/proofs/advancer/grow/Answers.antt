-- `advancer::grow`: past the heading nothing that is in settles anything, so the bytes up to the announced length go in at once.
use mathlib.Core.Path.{◌∙◌}
use Rattle.feed.proofs.BulkLaws.{none_used}
use Rattle.feed.proofs.advancer.grow.Goals as goal

pub returns-in-Ok-Some : goal.returns-in-Ok-Some
returns-in-Ok-Some c =
    let says = rw c.in-Ok-Some.field-0-is at c.in-Ok-Some.ensures in
    c.fill.ensures ∙ none_used c.args.kept.now c.args.piece.now c.args.count _ c.told-kept c.requires.0 says.0 says.1 c.if-count-whole.true
