-- `decimal::number_in`: digits are text, and std reads them as `value_of` does.
use Rattle.std.proofs.Common.{rules}
use Rattle.console.proofs.DecimalLaws.{digits_are_text, digits_parse}
use Rattle.console.proofs.decimal.number_in.Goals as goal

pub returns-in_default : goal.returns-in_default
returns-in_default c = let text = digits_are_text c.args.digits.now c.requires.all in search rules

pub returns : goal.returns
returns c =
    rw c.ok.ensures.value (digits_parse c.args.digits.now _ _ c.in-Ok.ensures.cases.0 c.parse.ensures.value.0 c.requires.all c.requires.some)
