-- `stepper::stored_message`: nowhere at 21 and past the end, and else by the record's stored length.
use mathlib.Core.Path.{ap, sym, ◌∙◌}
use Rattle.golden.proofs.SteppingLaws.{stored_nowhere, stored_there}
use Rattle.golden.specs.Record.{stored_length}
use Rattle.golden.proofs.stepper.stored_message.Goals as goal

pub returns-then-not-has_record : goal.returns-then-not-has_record
returns-then-not-has_record c = stored_nowhere _ _ (sym c.has_record.ensures ∙ c.if-not-has_record.true)

pub returns : goal.returns
returns c = stored_there _ c.args.n (sym c.has_record.ensures ∙ c.if-not-has_record.false) _ (c.stored_length.ensures ∙ ap stored_length c.record_at.ensures)
