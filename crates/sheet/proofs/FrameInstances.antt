-- No theorem of Framing is empty: for each that has hypotheses, a case in which they hold, computed, and what it then says.
-- The frames of FrameCases, and one that carries the CRC message C.
use Rattle.std.specs.Prelude.{Ok, Err, None}
use mathlib.Core.Bool.{true, false}
use mathlib.Core.List.{List, [], ◌∷◌, ◌++◌}
use mathlib.Core.Path.{◌≡◌, refl, ap, sym, ◌∙◌}
use Prim.Native.Nat.{ℕ, ◌+◌, ◌≤◌}
use native.Mathlib.Omega.{arith}
use lib.ListN.{length, take, replicate}
use Rattle.sum.specs.Detection.{Bytes}
use Rattle.sum.proofs.Computed.{literals}
use Rattle.sum.proofs.Flips.{bits_apart_same}
use Rattle.envelope.specs.Demand3.{before, field}
use Rattle.envelope.specs.Fields.{Fields, accepted}
use Rattle.envelope.specs.Flags.{kind_of, kind_crc}
use Rattle.envelope.specs.Layout.{largest_message}
use Rattle.envelope.specs.Numbers.{four_at}
use Rattle.envelope.specs.declared.fields.Integrity.TheVariants.{None}
use Rattle.frame.specs.Capturing.{first_size, is_frame, taken_apart}
use Rattle.frame.specs.Detecting.{CarriesCrc, carried_message}
use Rattle.frame.specs.Frames.{frame, data_frame}
use Rattle.frame.specs.Layout.{least_size}
use Rattle.envelope.specs.Refusals.{plainly, Gives}
use Rattle.frame.specs.RoundTrips.{UnwrapsAs, TellsMessage, Kind}
use Rattle.frame.specs.Sizes.{message_size, wrote_length}
use Rattle.frame.specs.Unwrapping.{acknowledgment, unwrapping, Unwraps}
use Rattle.frame.specs.Wrapping.{WrapOutcome, written, wrapping, acknowledging, put_down, wrote, answer_to_wrapping, after_wrapping, told_wrapped}
use Rattle.frame.specs.declared.unwrapper.Acknowledgment.{Acknowledgment}
use Rattle.frame.specs.declared.unwrapper.DataMessage.{DataMessage}
use Rattle.frame.specs.declared.refusal.Refusal.TheVariants.{NoRoom}
use Rattle.frame.specs.declared.unwrapper.Unwrapped.TheVariants.{Data, Acknowledged}
use Rattle.frame.proofs.WrapLaws.{past_69}
use Rattle.sheet.specs.Cases.{C, fields_of_c}
use Rattle.sheet.specs.FrameCases.{held, held_fields, carrier, reply}
use Rattle.sheet.proofs.Cases.{starred}
use Rattle.sheet.proofs.FrameCases.{unwrap_cases, wrap_cases}
use Rattle.sheet.proofs.Framing.{wrapped_then_unwrapped, wrapped_buffer_then_unwrapped, acknowledged_then_unwrapped, acknowledged_buffer_then_unwrapped, unwrapped_then_wrapped, unwrapped_then_wrapped_buffer, unwrapped_then_acknowledged, unwrapped_then_acknowledged_buffer, unwrap_gives, wrap_gives, acknowledge_gives, one_or_the_other, wrap_tells_its_length, acknowledge_tells_its_length, unwraps_no_longer, wraps_no_longer, a_refused_frame_writes_nothing, first_is_the_frame, capture_comes_apart, missing_is_refused, first_is_there, frame_demand_3, frame_three_bits}

-- ---- the answers of `unwrap`

abbrev tells_held : DataMessage
tells_held =
    record {
      commid = 0x01020304;
      message = record { place = 12; size = 24 };
      envelope =
          record {
            header = record { message_type = 9; version = 1; flags = 0; number = 5; time = 6 };
            addressing = None;
            body = record { place = 17; size = 3 };
            integrity = None;
          };
    }

abbrev tells_reply : Acknowledgment
tells_reply = record { commid = 9; acknowledged = 0x01020304 }

unwraps_carrier : Unwraps carrier (Ok (Data tells_held))
unwraps_carrier = sym unwrap_cases.data_frame_lem

-- ---- the round trips

pub held_wrapped_then_unwrapped : UnwrapsAs carrier 0x01020304 held
held_wrapped_then_unwrapped = wrapped_then_unwrapped held 0x01020304 37 carrier wrap_cases.just_room

-- what a call with this outcome answers, and what it leaves in a buffer of zeros
wrote_it : (o : WrapOutcome) (n : ℕ) (s : List ℕ) → o ≡ written s → n ≡ length s
    → (told_wrapped (Ok n) ≡ answer_to_wrapping o) × (put_down s (replicate n 0) ≡ after_wrapping o (replicate n 0))
wrote_it o n s e l = rw e (ap wrote l, refl)

pub held_wrapped_buffer_then_unwrapped : TellsMessage (Ok (Data tells_held)) carrier 0x01020304 held
held_wrapped_buffer_then_unwrapped =
    wrapped_buffer_then_unwrapped held 0x01020304 (replicate 37 0) carrier (Ok 37) 37 (Ok (Data tells_held)) (wrote_it _ 37 carrier wrap_cases.just_room refl) refl unwraps_carrier

pub reply_written_then_unwrapped : unwrapping reply ≡ acknowledgment 9 0x01020304
reply_written_then_unwrapped = acknowledged_then_unwrapped 9 0x01020304 17 reply wrap_cases.acknowledges

pub reply_buffer_then_unwrapped : acknowledgment 9 0x01020304 ≡ acknowledgment 9 0x01020304
reply_buffer_then_unwrapped =
    acknowledged_buffer_then_unwrapped 9 0x01020304 (replicate 17 0) reply (Ok 17) 17 (Ok (Acknowledged tells_reply)) (wrote_it _ 17 reply wrap_cases.acknowledges refl) refl
    (sym unwrap_cases.acknowledged)

bytes_of_carrier : Bytes carrier
bytes_of_carrier = literals carrier tt

bytes_of_reply : Bytes reply
bytes_of_reply = literals reply tt

pub carrier_unwrapped_then_wrapped : wrapping held 0x01020304 37 ≡ written carrier
carrier_unwrapped_then_wrapped =
    unwrapped_then_wrapped carrier 0x01020304 (record { place = 12; size = 24 }) held_fields 37 bytes_of_carrier unwrap_cases.data_frame_lem (omega arith)

pub carrier_unwrapped_then_wrapped_buffer : (told_wrapped (Ok 37) ≡ wrote 37) × (carrier ≡ put_down carrier (replicate 37 0))
carrier_unwrapped_then_wrapped_buffer =
    unwrapped_then_wrapped_buffer carrier tells_held (replicate 37 0) carrier (Ok 37) bytes_of_carrier
    unwraps_carrier (omega arith) (wrote_it _ 37 carrier wrap_cases.just_room refl)

pub reply_unwrapped_then_written : acknowledging 9 0x01020304 17 ≡ written reply
reply_unwrapped_then_written = unwrapped_then_acknowledged reply 9 0x01020304 17 bytes_of_reply unwrap_cases.acknowledged (omega arith)

pub reply_unwrapped_then_written_buffer : (told_wrapped (Ok 17) ≡ wrote 17) × (reply ≡ put_down reply (replicate 17 0))
reply_unwrapped_then_written_buffer =
    unwrapped_then_acknowledged_buffer reply tells_reply (replicate 17 0) reply (Ok 17) bytes_of_reply (sym unwrap_cases.acknowledged) (omega arith)
    (wrote_it _ 17 reply wrap_cases.acknowledges refl)

-- ---- which refusals, and what one leaves

pub unwrap_gave_61 : Gives (61 ∷ 62 ∷ 63 ∷ 64 ∷ 65 ∷ 66 ∷ []) (67 ∷ []) (plainly 61)
unwrap_gave_61 = unwrap_gives [] (plainly 61) unwrap_cases.nothing

pub wrap_gave_68 : Gives (68 ∷ []) (67 ∷ []) (plainly 68)
wrap_gave_68 = wrap_gives held 0x01020304 36 (plainly 68) (literals held tt) wrap_cases.no_room

pub acknowledge_gave_68 : Gives (68 ∷ []) [] (plainly 68)
acknowledge_gave_68 = acknowledge_gives 9 0x01020304 16 (plainly 68) wrap_cases.no_room_acknowledged

pub refused_reply_left_the_buffer : replicate {A = ℕ} 16 0 ≡ replicate 16 0
refused_reply_left_the_buffer =
    a_refused_frame_writes_nothing (acknowledging 9 0x01020304 16) (replicate 16 0) (replicate 16 0) (Err NoRoom) (plainly 68)
    (sym (ap answer_to_wrapping wrap_cases.no_room_acknowledged), sym (ap (λ (o : WrapOutcome). after_wrapping o (replicate 16 0)) wrap_cases.no_room_acknowledged)) refl

-- ---- what is told of sizes

pub wrap_told_37 : ◌≡◌ {A = ℕ} 37 37
wrap_told_37 = wrap_tells_its_length held 0x01020304 37 37 (literals held tt) (ap answer_to_wrapping wrap_cases.just_room)

pub acknowledge_told_17 : ◌≡◌ {A = ℕ} 17 17
acknowledge_told_17 = acknowledge_tells_its_length 9 0x01020304 17 17 (ap answer_to_wrapping wrap_cases.acknowledges)

pub carrier_is_no_longer : message_size (unwrapping carrier) ≤ largest_message
carrier_is_no_longer = unwraps_no_longer carrier bytes_of_carrier

pub wrapped_held_is_no_longer : wrote_length (answer_to_wrapping (wrapping held 0x01020304 37)) ≤ least_size + largest_message
wrapped_held_is_no_longer = wraps_no_longer held 0x01020304 37 (literals held tt)

-- ---- a capture of two frames, and one that is cut short

carrier_is_a_frame : is_frame (unwrapping carrier) ≡ true
carrier_is_a_frame = rw unwrap_cases.data_frame_lem

reply_is_a_frame : is_frame (unwrapping reply) ≡ true
reply_is_a_frame = rw unwrap_cases.acknowledged

pub carrier_is_one_or_the_other : Kind carrier
carrier_is_one_or_the_other = one_or_the_other carrier bytes_of_carrier carrier_is_a_frame

pub carrier_is_the_first : first_size (carrier ++ reply) ≡ 37
carrier_is_the_first = first_is_the_frame carrier reply carrier_is_a_frame

pub two_frames_come_apart : taken_apart 2 (carrier ++ reply ++ []) ≡ carrier ∷ reply ∷ []
two_frames_come_apart = capture_comes_apart (carrier ∷ reply ∷ []) (carrier_is_a_frame, (reply_is_a_frame, tt))

pub a_cut_frame_is_refused : is_frame (unwrapping (take 36 carrier)) ≡ false
unfolding four_at
a_cut_frame_is_refused = missing_is_refused (take 36 carrier) (omega arith)

pub something_is_there : 1 ≤ first_size carrier
something_is_there = (first_is_there carrier).1 (omega arith)

-- ---- a frame that carries C

abbrev with_c : List ℕ
with_c = data_frame 7 C

bytes_of_with_c : Bytes with_c
unfolding frame
bytes_of_with_c = literals with_c tt

wraps_C : wrapping C 7 36 ≡ written with_c
unfolding frame
wraps_C = past_69 C 7 36 fields_of_c (literals C tt) starred.kind_crc_lem

carries_C : CarriesCrc with_c
carries_C =
    let u = wrapped_then_unwrapped C 7 36 with_c wraps_C in
    record { commid = 7; span = u.span; fields = u.fields; unwraps = u.unwraps; declares = kind u.fields (sym u.reads ∙ starred.kind_crc_lem) }
  where
    kind : (f : Fields) → accepted f ≡ accepted fields_of_c → kind_of f.header.flags ≡ kind_crc
    kind f e = let same : f ≡ fields_of_c = cc in ap (λ (g : Fields). kind_of g.header.flags) same

pub with_c_before_the_field : with_c ≡ with_c
unfolding frame four_at
with_c_before_the_field =
    frame_demand_3 with_c with_c 0 bytes_of_with_c bytes_of_with_c refl carries_C carries_C (before (omega arith)) (λ i h. refl, λ i h. refl)

pub with_c_the_field : with_c ≡ with_c
unfolding frame four_at
with_c_the_field = frame_demand_3 with_c with_c 19 bytes_of_with_c bytes_of_with_c refl carries_C carries_C (field refl) (λ i h. refl, λ i h. refl)

pub with_c_by_bits : with_c ≡ with_c
unfolding frame four_at
with_c_by_bits =
    frame_three_bits with_c with_c bytes_of_with_c bytes_of_with_c refl (omega arith) carries_C carries_C (λ i h. refl, λ i h. refl)
    (rw (bits_apart_same (carried_message with_c)) (omega arith))
