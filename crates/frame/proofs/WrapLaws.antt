-- The cases of wrapping and acknowledging; that 69 cannot occur; that a refusal writes nothing.
-- Rests on one law of the envelope: the longest accepted message.
use mathlib.Core.Bool.{Bool, true, false, cond}
use mathlib.Core.List.{List, [], ◌∷◌}
use mathlib.Core.Path.{◌≡◌, refl, sym, ◌∙◌, subst}
use Prim.Native.Nat.{ℕ, ◌+◌, ◌≤◌}
use native.Mathlib.Omega.{arith}
use borrow.Author.Tests.{le-ltb}
use lib.Dec.{ltb}
use lib.ListN.{length}
use Rattle.envelope.proofs.ReadingLaws.{accepted_most}
use Rattle.envelope.specs.Fields.{Fields, Answer, accepted, refused}
use Rattle.envelope.specs.Fields as fields
use Rattle.envelope.specs.Promise.{Bytes}
use Rattle.envelope.specs.Reading.{reading}
use Rattle.envelope.specs.Refusals.{plainly, passing_on, Gives}
use Rattle.frame.specs.Wrapping.{WrapOutcome, written, refused, fitting, wrapping, acknowledging, wrote, Never69, RefusalWritesNothing, WrapGives, AcknowledgeGives}
use Rattle.frame.specs.Frames.{frame, data_frame, acknowledgment_frame}
use Rattle.frame.specs.Layout.{least_size, largest_length}
use Rattle.frame.proofs.PutLaws.{frame-length}

-- ---- the cases

pub room_enough : (t commid : ℕ) (body : List ℕ) (room : ℕ) → least_size + length body ≤ room → fitting (frame t commid body) room ≡ written (frame t commid body)
room_enough t commid body room h = rw (le-ltb room (length (frame t commid body)) (omega (arith, frame-length t commid body)))

pub is_67 : (m : List ℕ) (commid room : ℕ) (r : fields.Refusal) → reading m ≡ refused r → wrapping m commid room ≡ refused (passing_on 67 r)
unfolding wrapping
is_67 m commid room r e = rw e

-- the data length can state the length of a message that is read
pub short_enough : (m : List ℕ) (f : Fields) → Bytes m → reading m ≡ accepted f → length m ≤ largest_length
short_enough m f bytes e = omega (arith, accepted_most m f bytes e)

pub past_69 : (m : List ℕ) (commid room : ℕ) (f : Fields) → Bytes m → reading m ≡ accepted f → wrapping m commid room ≡ fitting (data_frame commid m) room
unfolding wrapping
past_69 m commid room f bytes e = rw (e, le-ltb largest_length (length m) (short_enough m f bytes e))

-- what the code asks of a frame's size
pub ruleset sizes = (frame-length, short_enough)

-- ---- 69, and what a refusal leaves

not_69 : (b : Bool) (frame : List ℕ) → cond b (refused (plainly 68)) (written frame) ≡ refused (plainly 69) → ⊥
not_69 true frame e = let z : ◌≡◌ {A = ℕ} 68 69 = cc in omega arith
not_69 false frame e = cc

pub never_69 : Never69
never_69 m commid room bytes = go (reading m) refl
  where
    go : (a : Answer) → reading m ≡ a → wrapping m commid room ≡ refused (plainly 69) → ⊥
    go (refused r) e d = let x = sym (is_67 m commid room r e) ∙ d in cc
    go (accepted f) e d = not_69 (ltb room (length (data_frame commid m))) (data_frame commid m) (sym (past_69 m commid room f bytes e) ∙ d)

pub refusal_writes_nothing : RefusalWritesNothing
refusal_writes_nothing (written frame) entry exit r n w e = let x : wrote (length frame) ≡ refused n = sym w.0 ∙ e in cc
refusal_writes_nothing (refused x) entry exit r n w e = w.1

-- ---- the refusals that each can give

abbrev Within : List ℕ → WrapOutcome → Type 0
Within passing (written frame) = Unit
Within passing (refused r) = Gives (68 ∷ []) passing r

room_alone : (passing : List ℕ) (b : Bool) (frame : List ℕ) → Within passing (cond b (refused (plainly 68)) (written frame))
room_alone passing true frame = refl
room_alone passing false frame = tt

pub acknowledge_gives : AcknowledgeGives
unfolding acknowledging
acknowledge_gives commid acknowledged room r e =
    let frame = acknowledgment_frame commid acknowledged in
    subst (Within []) e (room_alone [] (ltb room (length frame)) frame)

pub wrap_gives : WrapGives
wrap_gives m commid room r bytes = go (reading m) refl
  where
    go : (a : Answer) → reading m ≡ a → wrapping m commid room ≡ refused r → Gives (68 ∷ []) (67 ∷ []) r
    go (fields.refused x) e d = subst (Within (67 ∷ [])) (sym (is_67 m commid room x e) ∙ d) refl
    go (accepted f) e d =
        let frame = data_frame commid m in
        subst (Within (67 ∷ [])) (sym (past_69 m commid room f bytes e) ∙ d) (room_alone (67 ∷ []) (ltb room (length frame)) frame)
