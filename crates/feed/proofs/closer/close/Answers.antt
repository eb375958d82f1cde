-- `closer::close`: inside a message it is 52, and nowhere else anything new.
use mathlib.Core.Path.{sym, ◌∙◌}
use Rattle.feed.specs.Told.{state_of}
use Rattle.feed.proofs.StandLaws.{end_none, end_some}
use Rattle.feed.proofs.closer.close.Goals as goal

pub returns-then-begun-eq0 : goal.returns-then-begun-eq0
returns-then-begun-eq0 c = λ kept.
    c.stay.ensures kept ∙ sym (end_none (state_of kept c.args.beside) (sym c.begun.ensures.0 ∙ c.if-begun-eq0.true))

pub returns : goal.returns
returns c = λ kept.
    c.settled.ensures kept ∙ sym (end_some (state_of kept c.args.beside) (λ z. c.if-begun-eq0.false (c.begun.ensures.0 ∙ z)))
