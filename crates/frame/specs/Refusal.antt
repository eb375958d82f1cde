-- What each refusal of a frame is on paper: its number, and for 67 the refusal of reading too, passed on whole. RULES 8.
-- 69 is in the definition of wrapping alone: no refusal of the code has it, since it cannot occur.
use Rattle.std.specs.Prelude.{ℕ, ◌≡◌}
use Rattle.envelope.specs.Refusals.{Refused, plainly, passing_on, numbers_of, TellsNumbers}
use Rattle.envelope.specs.Told.{told_refusal}
use Rattle.envelope.specs.declared.reader.Refusal as reader
use Rattle.envelope.specs.declared.refusals.Numbers.{Numbers}
use Rattle.frame.specs.declared.refusal.Refusal.{Refusal}
use Rattle.frame.specs.declared.refusal.Refusal.TheVariants.{TooShort, NoStx, WrongVersion, OtherType, WrongLength, NoEtx, MessageRefused, NoRoom}

abbrev pub told_frame_refusal : Refusal → Refused
told_frame_refusal TooShort = plainly 61
told_frame_refusal NoStx = plainly 62
told_frame_refusal WrongVersion = plainly 63
told_frame_refusal OtherType = plainly 64
told_frame_refusal WrongLength = plainly 65
told_frame_refusal NoEtx = plainly 66
told_frame_refusal (MessageRefused r) = passing_on 67 (told_refusal r)
told_frame_refusal NoRoom = plainly 68

-- what the conversion of reading's refusal promises: 67 passes it on whole
abbrev pub PassesMessageOn : reader.Refusal → Refusal → Type 0
PassesMessageOn reading r = r ≡ MessageRefused reading

-- what `u8::from` promises of a refusal: its own number
abbrev pub NumbersFrameAlone : Refusal → ℕ → Type 0
NumbersFrameAlone refusal r = r ≡ (numbers_of (told_frame_refusal refusal)).number

-- what `Numbers::from` promises of a refusal
abbrev pub NumbersFrameRefusal : Refusal → Numbers → Type 0
NumbersFrameRefusal refusal r = TellsNumbers (told_frame_refusal refusal) r
