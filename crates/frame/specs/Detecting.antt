-- Demand 3 and K11 through frames: what the sum shows of two messages it shows of the frames that carry them. RULES 6.
-- Two frames of one length, both unwrapped as data messages that declare a CRC. Proved in proofs/DetectLaws.
use Rattle.std.specs.Prelude.{ℕ, ◌+◌, ◌≤◌, ◌<◌, List, ◌≡◌, length}
use Rattle.envelope.specs.Demand3.{Window, SameOutside}
use Rattle.envelope.specs.Fields.{Span, Fields, part_of}
use Rattle.envelope.specs.Flags.{kind_of, kind_crc}
use Rattle.envelope.specs.Numbers.{byte_at}
use Rattle.envelope.specs.Promise.{Bytes}
use Rattle.envelope.specs.TwoBits.{longest, bits_apart, summed, field_of}
use Rattle.frame.specs.Layout.{body_place}
use Rattle.frame.specs.Unwrapping.{body_span, message, unwrapping}

-- unwrapped as a data message, and its flags declare a CRC
pub record CarriesCrc (s : List ℕ) : Type 0 where
  pub commid : ℕ
  pub span : Span
  pub fields : Fields
  pub unwraps : unwrapping s ≡ message commid span fields
  pub declares : kind_of fields.header.flags ≡ kind_crc

abbrev pub carried_message : List ℕ → List ℕ
carried_message s = part_of s (body_span s)

-- four neighbouring bytes of the message, before its integrity field or being it
abbrev pub FrameDemand3 : Type 0
FrameDemand3 =
    (s t : List ℕ) (k : ℕ) → Bytes s → Bytes t → length s ≡ length t → CarriesCrc s → CarriesCrc t
    → Window k (length (carried_message s)) → SameOutside (body_place + k) s t → s ≡ t

-- one or two bits before the field, with the same field, in messages of at most 510 bytes: that cannot be, whatever else the frames hold
abbrev pub FrameTwoBits : Type 0
FrameTwoBits =
    (s t : List ℕ) → Bytes s → Bytes t → length s ≡ length t → length (carried_message s) ≤ longest → CarriesCrc s → CarriesCrc t
    → field_of (carried_message s) ≡ field_of (carried_message t)
    → 1 ≤ bits_apart (summed (carried_message s)) (summed (carried_message t))
    → bits_apart (summed (carried_message s)) (summed (carried_message t)) ≤ 2 → ⊥

-- the same before the message and behind it
abbrev pub SameAround : List ℕ → List ℕ → Type 0
SameAround s t =
    ((i : ℕ) → i < body_place → byte_at s i ≡ byte_at t i)
    × ((i : ℕ) → body_place + length (carried_message s) ≤ i → byte_at s i ≡ byte_at t i)

-- up to three bits, anywhere in such messages
abbrev pub FrameThreeBits : Type 0
FrameThreeBits =
    (s t : List ℕ) → Bytes s → Bytes t → length s ≡ length t → length (carried_message s) ≤ longest → CarriesCrc s → CarriesCrc t
    → SameAround s t → bits_apart (carried_message s) (carried_message t) ≤ 3 → s ≡ t
