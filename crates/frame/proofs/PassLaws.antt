-- What 67 passes on is reading's refusal of the message, whole: shown of the whole answer, by the tests in their order.
-- What it means to pass on is a law of the layer below.
use mathlib.Core.Bool.{Bool, true, false, cond}
use mathlib.Core.List.{List}
use mathlib.Core.Path.{◌≡◌, refl, subst}
use Prim.Native.Nat.{ℕ}
use lib.Dec.{eqb, ltb}
use lib.ListN.{length}
use Rattle.envelope.proofs.PassLaws.{On, on_plainly, on_passing}
use Rattle.envelope.specs.Fields.{Answer, accepted, part_of}
use Rattle.envelope.specs.Fields as fields
use Rattle.envelope.specs.Numbers.{byte_at}
use Rattle.envelope.specs.Reading.{reading}
use Rattle.envelope.specs.Refusals.{plainly}
use Rattle.frame.specs.Frames.{data_frame}
use Rattle.frame.specs.Layout.{acknowledgment_type, protocol_version_place, message_version_place, largest_length}
use Rattle.frame.specs.Passing.{UnwrapPassesOn, WrapPassesOn}
use Rattle.frame.specs.Unwrapping.{type_of, commid_of, data_length, acknowledged_of, body_span, too_short, no_stx, wrong_version, other_type, wrong_length, no_etx, UnwrapAnswer, message, acknowledgment, refused, unwrapping_read, carrying, unwrapping}
use Rattle.frame.specs.Wrapping.{WrapOutcome, wrapping, wrapping_read}
use Rattle.frame.specs.Wrapping as wrap

-- ---- unwrapping

abbrev UnwrappedOn : List ℕ → UnwrapAnswer → Type 0
UnwrappedOn m (message commid p f) = Unit
UnwrappedOn m (acknowledgment commid acknowledged) = Unit
UnwrappedOn m (refused x) = On m x

on_past : (m : List ℕ) (b : Bool) (n : ℕ) (rest : UnwrapAnswer) → UnwrappedOn m rest → UnwrappedOn m (cond b (refused (plainly n)) rest)
on_past m true n rest h = on_plainly m n
on_past m false n rest h = h

on_acknowledgment : (m : List ℕ) (b : Bool) (commid acknowledged : ℕ) (rest : UnwrapAnswer) → UnwrappedOn m rest
    → UnwrappedOn m (cond b (acknowledgment commid acknowledged) rest)
on_acknowledgment m true commid acknowledged rest h = tt
on_acknowledgment m false commid acknowledged rest h = h

on_read : (m s : List ℕ) (a : Answer) → reading m ≡ a → UnwrappedOn m (unwrapping_read a s)
on_read m s (fields.refused q) e = on_passing m 67 q e
on_read m s (accepted f) e = tt

unwrapped_on : (s : List ℕ) → UnwrappedOn (part_of s (body_span s)) (unwrapping s)
unfolding unwrapping carrying
unwrapped_on s =
    let m = part_of s (body_span s) in
    on_past m (too_short s) 61 _
    (on_past m (no_stx s) 62 _
    (on_past m (wrong_version (byte_at s protocol_version_place) (byte_at s message_version_place)) 63 _
    (on_past m (other_type (type_of s)) 64 _
    (on_past m (wrong_length (type_of s) (data_length s) (length s)) 65 _
    (on_past m (no_etx s) 66 _
    (on_acknowledgment m (eqb (type_of s) acknowledgment_type) (commid_of s) (acknowledged_of s) _ (on_read m s (reading m) refl)))))))

pub unwrap_passes_on : UnwrapPassesOn
unwrap_passes_on s number r e = subst (UnwrappedOn (part_of s (body_span s))) e (unwrapped_on s) number r refl

-- ---- wrapping

abbrev WrappedOn : List ℕ → WrapOutcome → Type 0
WrappedOn m (wrap.written frame) = Unit
WrappedOn m (wrap.refused x) = On m x

fitting_on : (m frame : List ℕ) (b : Bool) → WrappedOn m (cond b (wrap.refused (plainly 68)) (wrap.written frame))
fitting_on m frame true = on_plainly m 68
fitting_on m frame false = tt

-- 67; or 69, then 68, in which reading has no part
wrapped_on : (m : List ℕ) (commid room : ℕ) → WrappedOn m (wrapping m commid room)
unfolding wrapping
wrapped_on m commid room = go (reading m) refl
  where
    past_69 : (b : Bool) → WrappedOn m (cond b (wrap.refused (plainly 69)) (wrap.fitting (data_frame commid m) room))
    past_69 true = on_plainly m 69
    past_69 false = fitting_on m (data_frame commid m) (ltb room (length (data_frame commid m)))

    go : (a : Answer) → reading m ≡ a → WrappedOn m (wrapping_read a m commid room)
    go (fields.refused q) e = on_passing m 67 q e
    go (accepted f) e = past_69 (ltb largest_length (length m))

pub wrap_passes_on : WrapPassesOn
wrap_passes_on m commid room number r e = subst (WrappedOn m) e (wrapped_on m commid room) number r refl
