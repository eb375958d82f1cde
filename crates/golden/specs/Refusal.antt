-- What each refusal of the golden file is on paper: its number, and for 25, 31 and 34 the refusal of reading too, passed on whole. RULES 5.
-- One table for all operations; which of them each can give is said in specs/Gives.
use Rattle.envelope.specs.Refusals.{Refused, plainly, passing_on, TellsNumbers}
use Rattle.envelope.specs.Told.{told_refusal}
use Rattle.envelope.specs.declared.refusals.Numbers.{Numbers}
use Rattle.golden.specs.declared.refusal.Refusal.{Refusal}
use Rattle.golden.specs.declared.refusal.Refusal.TheVariants.{NotAGoldenFile, NoRecord, BadLength, NotClear, RecordRefused, NameTaken, NotFound, RadioRefused, TooLong, MessageRefused, WrongBuffer, AlreadyRetired, WrongCopy, RecordRetired}

abbrev pub told_golden_refusal : Refusal → Refused
told_golden_refusal NotAGoldenFile = plainly 21
told_golden_refusal NoRecord = plainly 22
told_golden_refusal BadLength = plainly 23
told_golden_refusal NotClear = plainly 24
told_golden_refusal (RecordRefused r) = passing_on 25 (told_refusal r)
told_golden_refusal NameTaken = plainly 26
told_golden_refusal NotFound = plainly 27
told_golden_refusal (RadioRefused r) = passing_on 31 (told_refusal r)
told_golden_refusal TooLong = plainly 33
told_golden_refusal (MessageRefused r) = passing_on 34 (told_refusal r)
told_golden_refusal WrongBuffer = plainly 35
told_golden_refusal AlreadyRetired = plainly 36
told_golden_refusal WrongCopy = plainly 37
told_golden_refusal RecordRetired = plainly 38

-- what `Numbers::from` promises of it
abbrev pub NumbersGoldenRefusal : Refusal → Numbers → Type 0
NumbersGoldenRefusal refusal r = TellsNumbers (told_golden_refusal refusal) r
