-- Out and in again, in and out again, for messages and for acknowledgments: of the definitions, then of any answers and buffers that keep the promises. RULES 8.
-- Each statement is a type here; proofs in proofs/RoundTripLaws.
use Rattle.std.specs.Prelude.{ℕ, ◌≤◌, true, List, ◌≡◌, length, take, Result, Ok}
use Rattle.envelope.specs.Fields.{Span, Fields, accepted, part_of}
use Rattle.envelope.specs.Promise.{Bytes}
use Rattle.envelope.specs.Reading.{reading}
use Rattle.envelope.specs.Told.{told_part}
use Rattle.frame.specs.Wrapping.{written, wrapping, acknowledging, put_down, wrote, told_wrapped, Wraps, Acknowledges}
use Rattle.frame.specs.Capturing.{is_frame}
use Rattle.frame.specs.Frames.{data_frame, acknowledgment_frame}
use Rattle.frame.specs.Unwrapping.{message, acknowledgment, unwrapping, told_unwrapped, Unwraps}
use Rattle.frame.specs.declared.unwrapper.Acknowledgment.{Acknowledgment}
use Rattle.frame.specs.declared.unwrapper.DataMessage.{DataMessage}
use Rattle.frame.specs.declared.unwrapper.Unwrapped.{Unwrapped}
use Rattle.frame.specs.declared.unwrapper.Unwrapped.TheVariants.{Data, Acknowledged}
use Rattle.frame.specs.declared.refusal.Refusal.{Refusal}

-- bytes that are unwrapped as this message under this COMMID
pub record UnwrapsAs (s : List ℕ) (commid : ℕ) (m : List ℕ) : Type 0 where
  pub span : Span
  pub fields : Fields
  pub unwraps : unwrapping s ≡ message commid span fields
  pub same : part_of s span ≡ m
  pub reads : reading m ≡ accepted fields

-- an answer to these bytes that tells this message under this COMMID
pub record TellsMessage (u : Result Unwrapped Refusal) (s : List ℕ) (commid : ℕ) (m : List ℕ) : Type 0 where
  pub span : Span
  pub fields : Fields
  pub tells : told_unwrapped u ≡ message commid span fields
  pub same : part_of s span ≡ m
  pub reads : reading m ≡ accepted fields

-- ---- a message

abbrev pub WrappedThenUnwrapped : Type 0
WrappedThenUnwrapped =
    (m : List ℕ) (commid room : ℕ) (s : List ℕ) → wrapping m commid room ≡ written s → UnwrapsAs s commid m

-- the front of the buffer after `wrap` has answered a length, and what `unwrap` answers to it
abbrev pub WrappedBufferThenUnwrapped : Type 0
WrappedBufferThenUnwrapped =
    (m : List ℕ) (commid : ℕ) (entry exit : List ℕ) (r : Result ℕ Refusal) (n : ℕ) (u : Result Unwrapped Refusal)
    → Wraps m commid entry r exit → told_wrapped r ≡ wrote n → Unwraps (take n exit) u → TellsMessage u (take n exit) commid m

abbrev pub UnwrappedThenWrapped : Type 0
UnwrappedThenWrapped =
    (s : List ℕ) (commid : ℕ) (p : Span) (f : Fields) (room : ℕ) → Bytes s → unwrapping s ≡ message commid p f → length s ≤ room
    → wrapping (part_of s p) commid room ≡ written s

-- what `unwrap` handed out, given to `wrap` with room enough: the same bytes at the front of the buffer
abbrev pub UnwrappedThenWrappedBuffer : Type 0
UnwrappedThenWrappedBuffer =
    (s : List ℕ) (d : DataMessage) (entry exit : List ℕ) (r : Result ℕ Refusal) → Bytes s → Unwraps s (Ok (Data d)) → length s ≤ length entry
    → Wraps (part_of s (told_part d.message)) d.commid entry r exit → (told_wrapped r ≡ wrote (length s)) × (exit ≡ put_down s entry)

-- ---- an acknowledgment

abbrev pub AcknowledgedThenUnwrapped : Type 0
AcknowledgedThenUnwrapped =
    (commid acknowledged room : ℕ) (s : List ℕ)
    → acknowledging commid acknowledged room ≡ written s → unwrapping s ≡ acknowledgment commid acknowledged

abbrev pub AcknowledgedBufferThenUnwrapped : Type 0
AcknowledgedBufferThenUnwrapped =
    (commid acknowledged : ℕ) (entry exit : List ℕ) (r : Result ℕ Refusal) (n : ℕ) (u : Result Unwrapped Refusal)
    → Acknowledges commid acknowledged entry r exit → told_wrapped r ≡ wrote n → Unwraps (take n exit) u
    → told_unwrapped u ≡ acknowledgment commid acknowledged

abbrev pub UnwrappedThenAcknowledged : Type 0
UnwrappedThenAcknowledged =
    (s : List ℕ) (commid acknowledged room : ℕ) → Bytes s → unwrapping s ≡ acknowledgment commid acknowledged → length s ≤ room
    → acknowledging commid acknowledged room ≡ written s

abbrev pub UnwrappedThenAcknowledgedBuffer : Type 0
UnwrappedThenAcknowledgedBuffer =
    (s : List ℕ) (a : Acknowledgment) (entry exit : List ℕ) (r : Result ℕ Refusal) → Bytes s → Unwraps s (Ok (Acknowledged a)) → length s ≤ length entry
    → Acknowledges a.commid a.acknowledged entry r exit → (told_wrapped r ≡ wrote (length s)) × (exit ≡ put_down s entry)

-- ---- a frame is one or the other

pub data Kind (s : List ℕ) : Type 0 where
  data_message : (commid : ℕ) (m : List ℕ) → data_frame commid m ≡ s → Kind s
  an_acknowledgment : (commid acknowledged : ℕ) → acknowledgment_frame commid acknowledged ≡ s → Kind s

-- what is unwrapped is the frame of a message or of an acknowledgment
abbrev pub OneOrTheOther : Type 0
OneOrTheOther = (s : List ℕ) → Bytes s → is_frame (unwrapping s) ≡ true → Kind s

-- and nothing is both
abbrev pub NeverBoth : Type 0
NeverBoth = (commid own acknowledged : ℕ) (m : List ℕ) → data_frame commid m ≡ acknowledgment_frame own acknowledged → ⊥
