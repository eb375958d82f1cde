-- Class D frames as C sees them: each answer as a word, and what the lent storage then holds.
-- The answers themselves are those of the crate `frame`; `morlewen_frame_first` promises what `first` does.
use Rattle.std.specs.Prelude.{ℕ, List, [], ◌∷◌, ◌≡◌, length}
use Rattle.frame.specs.Layout.{data_type, acknowledgment_type}
use Rattle.frame.specs.Unwrapping.{UnwrapAnswer, message, acknowledgment, refused, unwrapping}
use Rattle.frame.specs.Wrapping.{WrapOutcome, WrapAnswer, wrote, answer_to_wrapping, after_wrapping, wrapping, acknowledging}
use Rattle.frame.specs.Wrapping as wrap
use Rattle.exports.specs.Envelopes.{field_numbers}
use Rattle.exports.specs.Word.{Slots, slots, word, sized, refused_with}

-- ---- unwrapping: the count is the frame's type, the value the message's size, 0 of an acknowledgment

abbrev pub unwrap_slots : UnwrapAnswer → Slots
unwrap_slots (message commid p f) = slots 0 0 data_type p.size
unwrap_slots (acknowledgment commid acknowledged) = slots 0 0 acknowledgment_type 0
unwrap_slots (refused r) = refused_with r 0

-- the frame's own COMMID, and the acknowledged one, 0 where none is
abbrev pub commids_after : UnwrapAnswer → List ℕ → List ℕ
commids_after (message commid p f) entry = commid ∷ 0 ∷ []
commids_after (acknowledgment commid acknowledged) entry = commid ∷ acknowledged ∷ []
commids_after (refused r) entry = entry

abbrev pub message_fields : UnwrapAnswer → List ℕ → List ℕ
message_fields (message commid p f) entry = field_numbers f
message_fields (acknowledgment commid acknowledged) entry = entry
message_fields (refused r) entry = entry

-- what is lent to `morlewen_unwrap`, before it or after it
pub record FrameLent : Type 0 where
  pub commids : List ℕ
  pub fields : List ℕ

abbrev pub lent_for : (commids fields : List ℕ) → FrameLent
lent_for commids fields = record { commids = commids; fields = fields }

abbrev pub lent_after_unwrapping : UnwrapAnswer → FrameLent → FrameLent
lent_after_unwrapping a entry = lent_for (commids_after a entry.commids) (message_fields a entry.fields)

-- what `morlewen_unwrap` promises
abbrev pub UnwrapsForC : List ℕ → FrameLent → ℕ → FrameLent → Type 0
UnwrapsForC bytes entry r exit = (r ≡ word (unwrap_slots (unwrapping bytes))) × (exit ≡ lent_after_unwrapping (unwrapping bytes) entry)

-- ---- wrapping and acknowledging: the value is the frame's length

abbrev pub wrap_slots : WrapAnswer → Slots
wrap_slots (wrote n) = sized n
wrap_slots (wrap.refused r) = refused_with r 0

-- an outcome told in a word, and the buffer afterwards
abbrev pub WritesFrameForC : WrapOutcome → List ℕ → ℕ → List ℕ → Type 0
WritesFrameForC o entry r exit = (r ≡ word (wrap_slots (answer_to_wrapping o))) × (exit ≡ after_wrapping o entry)

-- what `morlewen_wrap` promises
abbrev pub WrapsForC : List ℕ → ℕ → List ℕ → ℕ → List ℕ → Type 0
WrapsForC m commid entry r exit = WritesFrameForC (wrapping m commid (length entry)) entry r exit

-- what `morlewen_acknowledge` promises
abbrev pub AcknowledgesForC : ℕ → ℕ → List ℕ → ℕ → List ℕ → Type 0
AcknowledgesForC commid acknowledged entry r exit = WritesFrameForC (acknowledging commid acknowledged (length entry)) entry r exit
