-- `Watch::take_some` goes on by bytes of the piece: so do the feed's own calls that find nothing or a message.
use Rattle.emp.proofs.WatchLaws.{gets_on}
use Rattle.emp.proofs.watching.Watch.take_some.Goals as goal

pub returns-in-Ok-None : goal.returns-in-Ok-None
returns-in-Ok-None g c =
    let step = c.advance-step in
    gets_on _ _ c.args.self.now.beside c.args.piece.now step.result _ step.ensures.0 c.requires c.in-Ok-None.is

pub returns-in_ok-tell_message-in-Ok-Some : goal.returns-in_ok-tell_message-in-Ok-Some
returns-in_ok-tell_message-in-Ok-Some g c =
    let step = c.advance-step in
    gets_on _ _ c.args.self.now.beside c.args.piece.now step.result _ step.ensures.0 c.requires c.in-Ok-Some.is
