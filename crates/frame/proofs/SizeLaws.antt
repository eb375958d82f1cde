-- The sizes of what is unwrapped and of what is written, by the longest message that the envelope accepts.
use mathlib.Core.Bool.{Bool, true, false, cond}
use mathlib.Core.List.{List}
use mathlib.Core.Path.{◌≡◌, refl, ap, sym, ◌∙◌}
use Prim.Native.Nat.{ℕ, ◌+◌, ◌≤◌}
use native.Mathlib.Omega.{arith}
use lib.Dec.{ltb}
use lib.ListN.{length, drop}
use Rattle.envelope.proofs.DemandLaws.{bytes_take, bytes_drop}
use Rattle.envelope.proofs.ReadingLaws.{accepted_most}
use Rattle.envelope.specs.Fields.{Span, Answer, accepted, refused, part_of}
use Rattle.envelope.specs.Layout.{largest_message}
use Rattle.envelope.specs.Numbers.{in_four}
use Rattle.envelope.specs.Reading.{reading}
use Rattle.envelope.specs.Refusals.{plainly}
use Rattle.frame.specs.Frames.{data_frame, acknowledgment_frame}
use Rattle.frame.specs.Layout.{least_size, data_type, acknowledgment_type}
use Rattle.frame.specs.Sizes.{message_size, wrote_length, WrapTellsItsLength, AcknowledgeTellsItsLength, UnwrapsNoLonger, WrapsNoLonger, AcknowledgesNoLonger}
use Rattle.frame.specs.Unwrapping.{UnwrapAnswer, message, acknowledgment, refused, unwrapping}
use Rattle.frame.specs.Wrapping.{wrote, answer_to_wrapping, wrapping, acknowledging}
use Rattle.frame.specs.Wrapping as wrap
use Rattle.frame.proofs.PutLaws.{frame-length}
use Rattle.frame.proofs.RoundTripLaws.{body-length, carried}
use Rattle.frame.proofs.WrapLaws.{is_67, past_69}

pub unwraps_no_longer : UnwrapsNoLonger
unwraps_no_longer s bytes = go (unwrapping s) refl
  where
    go : (a : UnwrapAnswer) → unwrapping s ≡ a → message_size a ≤ largest_message
    go (message commid p f) e =
        let k = carried s commid p f e in
        let long = body-length s bytes k.whole in
        let most = accepted_most (part_of s p) f (bytes_take p.size (drop p.place s) (bytes_drop p.place s bytes)) k.reads in
        let size : length (part_of s p) ≡ p.size = ap (λ (x : Span). length (part_of s x)) (sym k.span_is) ∙ long ∙ ap (λ (x : Span). x.size) k.span_is in
        omega (arith, most, size)
    go (acknowledgment commid acknowledged) e = omega arith
    go (refused r) e = omega arith

-- what fits is the frame
fitting_size : (b : Bool) (frame : List ℕ) → wrote_length (answer_to_wrapping (cond b (wrap.refused (plainly 68)) (wrap.written frame))) ≤ length frame
fitting_size true frame = omega arith
fitting_size false frame = omega arith

pub wraps_no_longer : WrapsNoLonger
wraps_no_longer m commid room bytes = go (reading m) refl
  where
    go : (a : Answer) → reading m ≡ a → wrote_length (answer_to_wrapping (wrapping m commid room)) ≤ least_size + largest_message
    go (refused r) e = rw (is_67 m commid room r e) (omega arith)
    go (accepted f) e =
        let fits = fitting_size (ltb room (length (data_frame commid m))) (data_frame commid m) in
        rw (past_69 m commid room f bytes e) (omega (arith, fits, frame-length data_type commid m, accepted_most m f bytes e))

pub acknowledges_no_longer : AcknowledgesNoLonger
unfolding acknowledging
acknowledges_no_longer commid acknowledged room =
    let frame = acknowledgment_frame commid acknowledged in
    omega (arith, fitting_size (ltb room (length frame)) frame, frame-length acknowledgment_type commid (in_four acknowledged))

-- ---- the length told

told-length : (b : Bool) (frame : List ℕ) (n : ℕ) → answer_to_wrapping (cond b (wrap.refused (plainly 68)) (wrap.written frame)) ≡ wrote n → n ≡ length frame
told-length true frame n e = cc
told-length false frame n e = ap wrote_length (sym e)

pub wrap_tells_its_length : WrapTellsItsLength
wrap_tells_its_length m commid room n bytes = go (reading m) refl
  where
    go : (a : Answer) → reading m ≡ a → answer_to_wrapping (wrapping m commid room) ≡ wrote n → n ≡ least_size + length m
    go (refused r) e h = let x = sym (ap answer_to_wrapping (is_67 m commid room r e)) ∙ h in cc
    go (accepted f) e h =
        told-length (ltb room (length (data_frame commid m))) (data_frame commid m) n (sym (ap answer_to_wrapping (past_69 m commid room f bytes e)) ∙ h)
        ∙ frame-length data_type commid m

pub acknowledge_tells_its_length : AcknowledgeTellsItsLength
unfolding acknowledging
acknowledge_tells_its_length commid acknowledged room n e =
    told-length (ltb room (length (acknowledgment_frame commid acknowledged))) (acknowledgment_frame commid acknowledged) n e
    ∙ frame-length acknowledgment_type commid (in_four acknowledged)
