-- For each promise of frames answers that a careless program would give, refuted by the cases of FrameCases.
-- A length read with its lowest byte first, ETX not looked at, the acknowledged COMMID from the header, and a buffer touched before a refusal among them.
use Rattle.std.specs.Prelude.{Ok, Err, Result}
use mathlib.Core.List.{List, [], ◌∷◌, ◌++◌}
use mathlib.Core.Path.{◌≡◌, ap, sym, ◌∙◌}
use Prim.Native.Nat.{ℕ}
use lib.ListN.{take, set, replicate}
use Rattle.envelope.specs.Numbers.{byte_at}
use Rattle.envelope.specs.Refusals.{RefusalNumbers, numbers_of}
use Rattle.envelope.specs.declared.fields.Envelope.{Envelope}
use Rattle.envelope.specs.declared.reader.Fault.TheVariants.{BadFlags}
use Rattle.envelope.specs.declared.refusals.Numbers.{Numbers}
use Rattle.sheet.specs.FrameCases.{held, carrier, reply, hollow}
use Rattle.frame.specs.Wrapping.{WrapOutcome, after_wrapping, WrapAnswer, wrote, refused, answer_to_wrapping, Wraps, Acknowledges}
use Rattle.frame.specs.Unwrapping.{UnwrapAnswer, message, acknowledgment, refused, Unwraps}
use Rattle.frame.specs.Capturing.{MeasuresFirst}
use Rattle.frame.specs.Refusal.{NumbersFrameRefusal}
use Rattle.frame.specs.declared.unwrapper.Acknowledgment.{Acknowledgment}
use Rattle.frame.specs.declared.unwrapper.DataMessage.{DataMessage}
use Rattle.frame.specs.declared.refusal.Refusal.{Refusal as FrameRefusal}
use Rattle.frame.specs.declared.refusal.Refusal.TheVariants.{TooShort, MessageRefused}
use Rattle.frame.specs.declared.unwrapper.Unwrapped.TheVariants.{Data, Acknowledged}
use Rattle.sheet.proofs.Apart.{apart}
use Rattle.sheet.proofs.FrameCases.{unwrap_cases, wrap_cases, first_cases}

-- an answer by a number: 0 for a data message, 1 for an acknowledgment, or the refusal's
abbrev kind_told : UnwrapAnswer → ℕ
kind_told (message commid p f) = 0
kind_told (acknowledgment commid acknowledged) = 1
kind_told (refused r) = (numbers_of r).number

abbrev place_told : UnwrapAnswer → ℕ
place_told (message commid p f) = p.place
place_told (acknowledgment commid acknowledged) = 0
place_told (refused r) = 0

abbrev acknowledged_told : UnwrapAnswer → ℕ
acknowledged_told (message commid p f) = 0
acknowledged_told (acknowledgment commid acknowledged) = acknowledged
acknowledged_told (refused r) = 0

abbrev answered : WrapAnswer → ℕ
answered (wrote n) = n
answered (refused r) = 0

-- an acknowledgment's own COMMID for the acknowledged one
pub acknowledged_is_not_from_the_header : Unwraps reply (Ok (Acknowledged (record { commid = 9; acknowledged = 9 }))) → ⊥
acknowledged_is_not_from_the_header p = apart 9 0x01020304 tt (ap acknowledged_told (p ∙ unwrap_cases.acknowledged))

-- no STX, another version, a negative acknowledgment, a length read with its lowest byte first, and a last byte that is no ETX, each taken as it stands
pub stx_is_looked_at : (d : DataMessage) → Unwraps (set carrier 0 3) (Ok (Data d)) → ⊥
stx_is_looked_at d p = apart 0 62 tt (ap kind_told (p ∙ unwrap_cases.no_stx_lem))

pub the_protocol_version_is_looked_at : (d : DataMessage) → Unwraps (set carrier 1 1) (Ok (Data d)) → ⊥
the_protocol_version_is_looked_at d p = apart 0 63 tt (ap kind_told (p ∙ unwrap_cases.old_protocol))

pub the_message_version_is_looked_at : (d : DataMessage) → Unwraps (set carrier 7 3) (Ok (Data d)) → ⊥
the_message_version_is_looked_at d p = apart 0 63 tt (ap kind_told (p ∙ unwrap_cases.new_message))

pub the_type_is_looked_at : (d : DataMessage) → Unwraps (set carrier 6 3) (Ok (Data d)) → ⊥
the_type_is_looked_at d p = apart 0 64 tt (ap kind_told (p ∙ unwrap_cases.negative))

pub length_is_big_endian : (d : DataMessage) → Unwraps (set (set carrier 11 0) 8 24) (Ok (Data d)) → ⊥
length_is_big_endian d p = apart 0 65 tt (ap kind_told (p ∙ unwrap_cases.little_endian))

pub etx_is_looked_at : (d : DataMessage) → Unwraps (set carrier 36 2) (Ok (Data d)) → ⊥
etx_is_looked_at d p = apart 0 66 tt (ap kind_told (p ∙ unwrap_cases.no_etx_lem))

-- an acknowledgment of five bytes
pub an_acknowledgment_has_four_bytes : (a : Acknowledgment) → Unwraps (set (take 16 reply) 11 5 ++ (0 ∷ 3 ∷ [])) (Ok (Acknowledged a)) → ⊥
an_acknowledgment_has_four_bytes a p = apart 1 65 tt (ap kind_told (p ∙ unwrap_cases.five))

-- a message's place counted from itself
pub message_begins_behind_the_header : (e : Envelope) → Unwraps carrier (Ok (Data (record { commid = 0x01020304; message = record { place = 0; size = 24 }; envelope = e }))) → ⊥
message_begins_behind_the_header e p = apart 0 12 tt (ap place_told (p ∙ unwrap_cases.data_frame_lem))

-- a frame with an empty body called too short
pub thirteen_bytes_are_no_refusal_61 : Unwraps hollow (Err TooShort) → ⊥
thirteen_bytes_are_no_refusal_61 p = apart 61 67 tt (ap kind_told (p ∙ unwrap_cases.thirteen))

-- the message's length for the frame's
pub wrap_tells_the_frames_length : (exit : List ℕ) → Wraps held 0x01020304 (replicate 37 0) (Ok 24) exit → ⊥
wrap_tells_the_frames_length exit w = apart 24 37 tt (ap answered (w.0 ∙ ap answer_to_wrapping wrap_cases.just_room))

-- a length answered, and nothing written
pub wrap_does_not_touch_nothing : (r : Result ℕ FrameRefusal) → Wraps held 0x01020304 (replicate 37 0) r (replicate 37 0) → ⊥
wrap_does_not_touch_nothing r w =
    apart 0 2 tt (ap (λ (l : List ℕ). byte_at l 0) (w.1 ∙ ap (λ (o : WrapOutcome). after_wrapping o (replicate 37 0)) wrap_cases.just_room))

-- the two COMMIDs exchanged: place 5 holds 4, and not 9
pub acknowledge_does_not_exchange_the_commids : (r : Result ℕ FrameRefusal) (exit : List ℕ) → byte_at exit 5 ≡ 4 → Acknowledges 9 0x01020304 (replicate 17 0) r exit → ⊥
acknowledge_does_not_exchange_the_commids r exit e w =
    apart 4 9 tt (sym e ∙ ap (λ (l : List ℕ). byte_at l 5) (w.1 ∙ ap (λ (o : WrapOutcome). after_wrapping o (replicate 17 0)) wrap_cases.acknowledges))

-- STX left behind by a refusal
pub acknowledge_touches_nothing_before_a_refusal : (r : Result ℕ FrameRefusal) → Acknowledges 9 0x01020304 (replicate 16 0) r (2 ∷ replicate 15 0) → ⊥
acknowledge_touches_nothing_before_a_refusal r w =
    apart 2 0 tt (ap (λ (l : List ℕ). byte_at l 0) (w.1 ∙ ap (λ (o : WrapOutcome). after_wrapping o (replicate 16 0)) wrap_cases.no_room_acknowledged))

-- the data length with its lowest byte first: place 8 holds 0, and not 24
pub wrap_writes_a_big_endian_length : (r : Result ℕ FrameRefusal) (exit : List ℕ) → byte_at exit 8 ≡ 24 → Wraps held 0x01020304 (replicate 37 0) r exit → ⊥
wrap_writes_a_big_endian_length r exit e w =
    apart 24 0 tt (sym e ∙ ap (λ (l : List ℕ). byte_at l 8) (w.1 ∙ ap (λ (o : WrapOutcome). after_wrapping o (replicate 37 0)) wrap_cases.just_room))

-- a refused wrapping that leaves STX behind
pub wrap_touches_nothing_before_a_refusal : (r : Result ℕ FrameRefusal) → Wraps held 0x01020304 (replicate 36 0) r (2 ∷ replicate 35 0) → ⊥
wrap_touches_nothing_before_a_refusal r w =
    apart 2 0 tt (ap (λ (l : List ℕ). byte_at l 0) (w.1 ∙ ap (λ (o : WrapOutcome). after_wrapping o (replicate 36 0)) wrap_cases.no_room))

-- ---- the first frame of a capture: its body's length for its own; bytes that are not there

pub first_is_not_the_data_length : MeasuresFirst (carrier ++ reply) 24 → ⊥
first_is_not_the_data_length p = apart 24 37 tt (p ∙ first_cases.then_another)

pub first_takes_what_is_there : MeasuresFirst (take 36 carrier) 37 → ⊥
first_takes_what_is_there p = apart 37 36 tt (p ∙ first_cases.byte_missing)

-- ---- a refusal's numbers: that of another; reading's number lost, and its place

pub a_frame_refusal_keeps_its_number : (n : Numbers) → n.number ≡ 62 → NumbersFrameRefusal TooShort n → ⊥
a_frame_refusal_keeps_its_number n e p = apart 62 61 tt (sym e ∙ ap (λ (x : RefusalNumbers). x.number) p)

pub a_frame_refusal_passes_reading_on : (n : Numbers) → n.reading ≡ 0 → NumbersFrameRefusal (MessageRefused (record { fault = BadFlags; place = 4 })) n → ⊥
a_frame_refusal_passes_reading_on n e p = apart 0 3 tt (sym e ∙ ap (λ (x : RefusalNumbers). x.reading) p)

pub a_frame_refusal_passes_the_place_on : (n : Numbers) → n.place ≡ 0 → NumbersFrameRefusal (MessageRefused (record { fault = BadFlags; place = 4 })) n → ⊥
a_frame_refusal_passes_the_place_on n wrong kept = apart 0 4 tt (sym wrong ∙ ap (λ (m : RefusalNumbers). m.place) kept)
