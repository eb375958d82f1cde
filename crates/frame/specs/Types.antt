-- The two types of a frame, each by its number, and rule 64: the code's types are the numbers that are no other type. RULES 8.
use Rattle.std.specs.Prelude.{ℕ, cond, ◌≡◌, eqb, Result, Ok, Err}
use Rattle.frame.specs.Layout.{data_type, acknowledgment_type}
use Rattle.frame.specs.declared.frame_type.FrameType.{FrameType}
use Rattle.frame.specs.declared.frame_type.FrameType.TheVariants.{Data, Acknowledgment}
use Rattle.frame.specs.declared.refusal.Refusal.{Refusal}
use Rattle.frame.specs.declared.refusal.Refusal.TheVariants.{OtherType}

abbrev pub told_type : FrameType → ℕ
told_type Data = data_type
told_type Acknowledgment = acknowledgment_type

-- what `u8::from` promises of a type
abbrev pub NumbersType : FrameType → ℕ → Type 0
NumbersType t r = r ≡ told_type t

-- 64, of the number of a type
abbrev pub typed : ℕ → Result FrameType Refusal
typed number =
    cond (eqb number data_type) (Ok Data)
    (cond (eqb number acknowledgment_type) (Ok Acknowledgment)
    (Err OtherType))

-- what `FrameType::try_from` promises
abbrev pub TypeOfNumber : ℕ → Result FrameType Refusal → Type 0
TypeOfNumber number r = r ≡ typed number
