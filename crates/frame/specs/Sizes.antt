-- The length that is told, and how large an answer can be: a frame is 13 bytes longer than its message.
-- Each statement is a type here; proofs in proofs/SizeLaws and proofs/PointLaws.
use Rattle.std.specs.Prelude.{ℕ, ◌+◌, ◌≤◌, List, ◌≡◌, length}
use Rattle.envelope.specs.Layout.{largest_message}
use Rattle.envelope.specs.Promise.{Bytes}
use Rattle.envelope.specs.Refusals.{place_in}
use Rattle.frame.specs.Layout.{least_size, commid_size}
use Rattle.frame.specs.Unwrapping.{UnwrapAnswer, message, acknowledgment, refused, unwrapping}
use Rattle.frame.specs.Wrapping.{WrapAnswer, wrote, refused, answer_to_wrapping, wrapping, acknowledging}
use Rattle.frame.specs.Wrapping as wrap

-- 0 where there is no message
abbrev pub message_size : UnwrapAnswer → ℕ
message_size (message commid p f) = p.size
message_size (acknowledgment commid acknowledged) = 0
message_size (refused r) = 0

abbrev pub wrote_length : WrapAnswer → ℕ
wrote_length (wrote n) = n
wrote_length (refused r) = 0

-- the place that a refusal passes on
abbrev pub unwrap_place : UnwrapAnswer → ℕ
unwrap_place (message commid p f) = 0
unwrap_place (acknowledgment commid acknowledged) = 0
unwrap_place (refused r) = place_in r

abbrev pub wrap_place : WrapAnswer → ℕ
wrap_place (wrote n) = 0
wrap_place (wrap.refused r) = place_in r

abbrev pub UnwrapPointsWithin : Type 0
UnwrapPointsWithin = (s : List ℕ) → Bytes s → unwrap_place (unwrapping s) ≤ largest_message

abbrev pub WrapPointsWithin : Type 0
WrapPointsWithin = (m : List ℕ) (commid room : ℕ) → Bytes m → wrap_place (answer_to_wrapping (wrapping m commid room)) ≤ largest_message

abbrev pub AcknowledgePointsNowhere : Type 0
AcknowledgePointsNowhere = (commid acknowledged room : ℕ) → wrap_place (answer_to_wrapping (acknowledging commid acknowledged room)) ≡ 0

-- the length told is that of the frame: 13 more than the message's, and 17
abbrev pub WrapTellsItsLength : Type 0
WrapTellsItsLength =
    (m : List ℕ) (commid room n : ℕ) → Bytes m → answer_to_wrapping (wrapping m commid room) ≡ wrote n → n ≡ least_size + length m

abbrev pub AcknowledgeTellsItsLength : Type 0
AcknowledgeTellsItsLength = (commid acknowledged room n : ℕ) → answer_to_wrapping (acknowledging commid acknowledged room) ≡ wrote n → n ≡ least_size + commid_size

abbrev pub UnwrapsNoLonger : Type 0
UnwrapsNoLonger = (s : List ℕ) → Bytes s → message_size (unwrapping s) ≤ largest_message

abbrev pub WrapsNoLonger : Type 0
WrapsNoLonger = (m : List ℕ) (commid room : ℕ) → Bytes m → wrote_length (answer_to_wrapping (wrapping m commid room)) ≤ least_size + largest_message

abbrev pub AcknowledgesNoLonger : Type 0
AcknowledgesNoLonger = (commid acknowledged room : ℕ) → wrote_length (answer_to_wrapping (acknowledging commid acknowledged room)) ≤ least_size + largest_message
