-- Unwrapping (K12: import): the rules 61 to 67 in their order, the first that applies is the answer; else the message or the acknowledgment. RULES 8.
-- `s` is the list of the bytes lent.
use Rattle.std.specs.Prelude.{ℕ, ◌+◌, Bool, cond, not, ◌&&◌, ◌||◌, List, [], ◌∷◌, ◌≡◌, eqb, ltb, length, Result, Ok, Err}
use Rattle.envelope.specs.Fields.{Span, Fields, Answer, accepted, part_of}
use Rattle.envelope.specs.Fields as read
use Rattle.envelope.specs.Numbers.{byte_at, four_at}
use Rattle.envelope.specs.Reading.{reading}
use Rattle.envelope.specs.Refusals.{Refused, plainly, passing_on, Gives}
use Rattle.envelope.specs.Told.{told_part, told_envelope}
use Rattle.frame.specs.Layout.{stx, etx, protocol_version, message_version, data_type, acknowledgment_type, stx_place, protocol_version_place, commid_place, type_place, message_version_place, length_place, body_place, least_size, commid_size}
use Rattle.frame.specs.Refusal.{told_frame_refusal}
use Rattle.frame.specs.declared.refusal.Refusal.{Refusal}
use Rattle.frame.specs.declared.unwrapper.Unwrapped as code
use Rattle.frame.specs.declared.unwrapper.Unwrapped.TheVariants.{Data, Acknowledged}

-- ---- the fields

abbrev pub type_of : List ℕ → ℕ
type_of s = byte_at s type_place

abbrev pub commid_of : List ℕ → ℕ
commid_of s = four_at s commid_place

abbrev pub data_length : List ℕ → ℕ
data_length s = four_at s length_place

-- the body of an acknowledgment
abbrev pub acknowledged_of : List ℕ → ℕ
acknowledged_of s = four_at s body_place

abbrev pub body_span : List ℕ → Span
body_span s = record { place = body_place; size = data_length s }

-- ---- the rules

-- 61
abbrev pub too_short : List ℕ → Bool
too_short s = ltb (length s) least_size

-- 62
abbrev pub no_stx : List ℕ → Bool
no_stx s = not (eqb (byte_at s stx_place) stx)

-- 63, of the two versions
unfoldable pub wrong_version : ℕ → ℕ → Bool
wrong_version protocol message = not (eqb protocol protocol_version) || not (eqb message message_version)

-- 64, of the type
unfoldable pub other_type : ℕ → Bool
other_type message_type = not (eqb message_type data_type) && not (eqb message_type acknowledgment_type)

-- 65, of the type, the data length and the number of bytes lent: ETX does not come last, or an acknowledgment has another body
unfoldable pub wrong_length : ℕ → ℕ → ℕ → Bool
wrong_length message_type size given =
    not (eqb (least_size + size) given) || (eqb message_type acknowledgment_type && not (eqb size commid_size))

-- 66, of the byte after the body
abbrev pub no_etx : List ℕ → Bool
no_etx s = not (eqb (byte_at s (body_place + data_length s)) etx)

-- ---- the answer

-- a data message's COMMID, where its message stands, and the message's fields; an acknowledgment's own COMMID, and the acknowledged one
pub data UnwrapAnswer : Type 0 where
  message : (commid : ℕ) → Span → Fields → UnwrapAnswer
  acknowledgment : (commid acknowledged : ℕ) → UnwrapAnswer
  refused : Refused → UnwrapAnswer

-- 67, or the message
abbrev pub unwrapping_read : Answer → List ℕ → UnwrapAnswer
unwrapping_read (read.refused r) s = refused (passing_on 67 r)
unwrapping_read (accepted f) s = message (commid_of s) (body_span s) f

-- what a whole frame carries
unfoldable pub carrying : List ℕ → ℕ → UnwrapAnswer
carrying s message_type =
    cond (eqb message_type acknowledgment_type) (acknowledgment (commid_of s) (acknowledged_of s))
    (unwrapping_read (reading (part_of s (body_span s))) s)

unfoldable pub unwrapping : List ℕ → UnwrapAnswer
unwrapping s =
    cond (too_short s) (refused (plainly 61))
    (cond (no_stx s) (refused (plainly 62))
    (cond (wrong_version (byte_at s protocol_version_place) (byte_at s message_version_place)) (refused (plainly 63))
    (cond (other_type (type_of s)) (refused (plainly 64))
    (cond (wrong_length (type_of s) (data_length s) (length s)) (refused (plainly 65))
    (cond (no_etx s) (refused (plainly 66))
    (carrying s (type_of s)))))))

-- ---- the code's answer, told in the paper's numbers

abbrev pub told_unwrapped : Result code.Unwrapped Refusal → UnwrapAnswer
told_unwrapped (Ok (Data d)) = message d.commid (told_part d.message) (told_envelope d.envelope)
told_unwrapped (Ok (Acknowledged a)) = acknowledgment a.commid a.acknowledged
told_unwrapped (Err f) = refused (told_frame_refusal f)

-- what `unwrap` promises
abbrev pub Unwraps : List ℕ → Result code.Unwrapped Refusal → Type 0
Unwraps s r = told_unwrapped r ≡ unwrapping s

-- which refusals unwrapping can give; proved in proofs/UnwrapLaws
abbrev pub UnwrapGives : Type 0
UnwrapGives = (s : List ℕ) (r : Refused) → unwrapping s ≡ refused r → Gives (61 ∷ 62 ∷ 63 ∷ 64 ∷ 65 ∷ 66 ∷ []) (67 ∷ []) r
