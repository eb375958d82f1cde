-- `stepper::next_after` goes one on where there is a record, and else stays.
use mathlib.Core.Path.{sym, ◌∙◌}
use Rattle.golden.proofs.SteppingLaws.{next_on_lem, next_stays_lem}
use Rattle.golden.proofs.stepper.next_after.Goals as goal

pub returns-then-has_record : goal.returns-then-has_record
returns-then-has_record c = next_on_lem _ _ (sym c.has_record.ensures ∙ c.if-has_record.true)

pub returns-else-has_record : goal.returns-else-has_record
returns-else-has_record c = next_stays_lem _ _ (sym c.has_record.ensures ∙ c.if-has_record.false)
