-- Wrapping (K12: export): the refusals 67, 69, 68 in their order, the first that applies is the answer; a refusal writes nothing. RULES 8.
-- Acknowledging is refused for want of room alone. `room` is the length of the buffer.
use Rattle.std.specs.Prelude.{ℕ, cond, List, [], ◌∷◌, ◌++◌, ◌≡◌, ltb, length, drop, Result, Ok, Err}
use Rattle.envelope.specs.Fields.{Answer, accepted}
use Rattle.envelope.specs.Fields as read
use Rattle.envelope.specs.Promise.{Bytes}
use Rattle.envelope.specs.Reading.{reading}
use Rattle.envelope.specs.Refusals.{Refused, plainly, passing_on, Gives}
use Rattle.frame.specs.Frames.{data_frame, acknowledgment_frame}
use Rattle.frame.specs.Layout.{largest_length}
use Rattle.frame.specs.Refusal.{told_frame_refusal}
use Rattle.frame.specs.declared.refusal.Refusal.{Refusal}

-- the outcome: the frame that is written, or a refusal
pub data WrapOutcome : Type 0 where
  written : List ℕ → WrapOutcome
  refused : Refused → WrapOutcome

-- 68
abbrev pub fitting : List ℕ → ℕ → WrapOutcome
fitting frame room = cond (ltb room (length frame)) (refused (plainly 68)) (written frame)

abbrev pub wrapping_read : Answer → List ℕ → ℕ → ℕ → WrapOutcome
wrapping_read (read.refused r) m commid room = refused (passing_on 67 r)
wrapping_read (accepted f) m commid room =
    cond (ltb largest_length (length m)) (refused (plainly 69)) (fitting (data_frame commid m) room)

unfoldable pub wrapping : List ℕ → ℕ → ℕ → WrapOutcome
wrapping m commid room = wrapping_read (reading m) m commid room

unfoldable pub acknowledging : ℕ → ℕ → ℕ → WrapOutcome
acknowledging commid acknowledged room = fitting (acknowledgment_frame commid acknowledged) room

-- the buffer afterwards: the frame at the front and the rest untouched, or as it was
abbrev pub put_down : List ℕ → List ℕ → List ℕ
put_down frame entry = frame ++ drop (length frame) entry

abbrev pub after_wrapping : WrapOutcome → List ℕ → List ℕ
after_wrapping (written frame) entry = put_down frame entry
after_wrapping (refused r) entry = entry

-- ---- the code's answer, told in the paper's numbers

pub data WrapAnswer : Type 0 where
  wrote : ℕ → WrapAnswer
  refused : Refused → WrapAnswer

abbrev pub answer_to_wrapping : WrapOutcome → WrapAnswer
answer_to_wrapping (written frame) = wrote (length frame)
answer_to_wrapping (refused r) = refused r

abbrev pub told_wrapped : Result ℕ Refusal → WrapAnswer
told_wrapped (Ok n) = wrote n
told_wrapped (Err f) = refused (told_frame_refusal f)

-- an outcome as the code answers it, and the whole buffer afterwards
abbrev pub Answers : WrapOutcome → List ℕ → Result ℕ Refusal → List ℕ → Type 0
Answers o entry r exit = (told_wrapped r ≡ answer_to_wrapping o) × (exit ≡ after_wrapping o entry)

-- what `wrap` promises
abbrev pub Wraps : List ℕ → ℕ → List ℕ → Result ℕ Refusal → List ℕ → Type 0
Wraps m commid entry r exit = Answers (wrapping m commid (length entry)) entry r exit

-- what `acknowledge` promises
abbrev pub Acknowledges : ℕ → ℕ → List ℕ → Result ℕ Refusal → List ℕ → Type 0
Acknowledges commid acknowledged entry r exit = Answers (acknowledging commid acknowledged (length entry)) entry r exit

-- ---- what follows; proved in proofs/WrapLaws

-- 69 cannot occur: a message that is read is shorter than the data length can state
abbrev pub Never69 : Type 0
Never69 = (m : List ℕ) (commid room : ℕ) → Bytes m → wrapping m commid room ≡ refused (plainly 69) → ⊥

-- a refusal leaves the buffer as it was
abbrev pub RefusalWritesNothing : Type 0
RefusalWritesNothing =
    (o : WrapOutcome) (entry exit : List ℕ) (r : Result ℕ Refusal) (n : Refused) → Answers o entry r exit → told_wrapped r ≡ refused n → exit ≡ entry

-- which refusals each can give
abbrev pub WrapGives : Type 0
WrapGives = (m : List ℕ) (commid room : ℕ) (r : Refused) → Bytes m → wrapping m commid room ≡ refused r → Gives (68 ∷ []) (67 ∷ []) r

abbrev pub AcknowledgeGives : Type 0
AcknowledgeGives = (commid acknowledged room : ℕ) (r : Refused) → acknowledging commid acknowledged room ≡ refused r → Gives (68 ∷ []) [] r
