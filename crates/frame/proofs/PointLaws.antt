-- The place that a refusal of a frame passes on is one of the message inside, which the longest message bounds.
-- Each is shown of the whole answer, by the tests in their order.
use mathlib.Core.Bool.{Bool, true, false, cond}
use mathlib.Core.List.{List}
use mathlib.Core.Path.{◌≡◌, refl}
use Prim.Native.Nat.{ℕ, ◌≤◌}
use native.Mathlib.Omega.{arith}
use lib.Dec.{eqb, ltb}
use lib.ListN.{length, drop}
use Rattle.envelope.proofs.DemandLaws.{bytes_take, bytes_drop}
use Rattle.envelope.proofs.PlaceLaws.{places_within}
use Rattle.envelope.specs.Fields.{Answer, accepted, part_of}
use Rattle.envelope.specs.Fields as fields
use Rattle.envelope.specs.Layout.{largest_message}
use Rattle.envelope.specs.Numbers.{byte_at}
use Rattle.envelope.specs.Promise.{Bytes}
use Rattle.envelope.specs.Reading.{reading}
use Rattle.envelope.specs.Refusals.{plainly}
use Rattle.frame.specs.Frames.{data_frame, acknowledgment_frame}
use Rattle.frame.specs.Layout.{acknowledgment_type, protocol_version_place, message_version_place}
use Rattle.frame.specs.Sizes.{unwrap_place, wrap_place, UnwrapPointsWithin, WrapPointsWithin, AcknowledgePointsNowhere}
use Rattle.frame.specs.Unwrapping.{type_of, commid_of, data_length, acknowledged_of, body_span, too_short, no_stx, wrong_version, other_type, wrong_length, no_etx, UnwrapAnswer, acknowledgment, refused, unwrapping_read, carrying, unwrapping}
use Rattle.frame.specs.Wrapping.{answer_to_wrapping, wrapping, acknowledging}
use Rattle.frame.specs.Wrapping as wrap
use Rattle.frame.proofs.WrapLaws.{is_67, past_69}

-- ---- unwrapping

past_plain : (b : Bool) (n : ℕ) (rest : UnwrapAnswer) → unwrap_place rest ≤ largest_message → unwrap_place (cond b (refused (plainly n)) rest) ≤ largest_message
past_plain true n rest h = omega arith
past_plain false n rest h = h

of_acknowledgment : (b : Bool) (commid acknowledged : ℕ) (rest : UnwrapAnswer) → unwrap_place rest ≤ largest_message
    → unwrap_place (cond b (acknowledgment commid acknowledged) rest) ≤ largest_message
of_acknowledgment true commid acknowledged rest h = omega arith
of_acknowledgment false commid acknowledged rest h = h

of_read : (s : List ℕ) → Bytes s → (a : Answer) → reading (part_of s (body_span s)) ≡ a → unwrap_place (unwrapping_read a s) ≤ largest_message
of_read s bytes (fields.refused r) e =
    let p = body_span s in
    places_within (part_of s p) r (bytes_take p.size (drop p.place s) (bytes_drop p.place s bytes)) e
of_read s bytes (accepted f) e = omega arith

pub unwrap_points_within : UnwrapPointsWithin
unfolding unwrapping carrying
unwrap_points_within s bytes =
    past_plain (too_short s) 61 _
    (past_plain (no_stx s) 62 _
    (past_plain (wrong_version (byte_at s protocol_version_place) (byte_at s message_version_place)) 63 _
    (past_plain (other_type (type_of s)) 64 _
    (past_plain (wrong_length (type_of s) (data_length s) (length s)) 65 _
    (past_plain (no_etx s) 66 _
    (of_acknowledgment (eqb (type_of s) acknowledgment_type) (commid_of s) (acknowledged_of s) _ (of_read s bytes (reading (part_of s (body_span s))) refl)))))))

-- ---- wrapping

-- want of room points nowhere
no_room : (b : Bool) (frame : List ℕ) → wrap_place (answer_to_wrapping (cond b (wrap.refused (plainly 68)) (wrap.written frame))) ≡ 0
no_room true frame = refl
no_room false frame = refl

pub wrap_points_within : WrapPointsWithin
wrap_points_within m commid room bytes = go (reading m) refl
  where
    go : (a : Answer) → reading m ≡ a → wrap_place (answer_to_wrapping (wrapping m commid room)) ≤ largest_message
    go (fields.refused r) e = rw (is_67 m commid room r e) (places_within m r bytes e)
    go (accepted f) e =
        let frame = data_frame commid m in
        rw (past_69 m commid room f bytes e) (omega (arith, no_room (ltb room (length frame)) frame))

pub acknowledge_points_nowhere : AcknowledgePointsNowhere
unfolding acknowledging
acknowledge_points_nowhere commid acknowledged room =
    let frame = acknowledgment_frame commid acknowledged in
    no_room (ltb room (length frame)) frame
