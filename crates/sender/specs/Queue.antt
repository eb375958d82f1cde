-- The send side of the bench as a plain queue with one slot: what each event answers, and the queue after it. RULES 13.
-- The order of the lines is the order of the refusals.
use Rattle.std.specs.Prelude.{ℕ, ◌-◌, Bool, false, cond, ◌||◌, List, [], ◌∷◌, ◌++◌, eqb, leb, length}
use Rattle.std.proofs.Math.Option.{Option, none, some}
use Rattle.envelope.specs.Refusals.{Refused, plainly}

-- ---- the queue

-- how many may wait; the one in flight is not counted among them
abbrev pub most_waiting : ℕ
most_waiting = 16

-- empty, or the COMMID in flight and how many resends it has left
pub data Slot : Type 0 where
  empty : Slot
  holds : (commid left : ℕ) → Slot

-- the number of resends that is set, the slot, and the COMMIDs that wait, oldest first
pub record Queue : Type 0 where
  pub resends : ℕ
  pub slot : Slot
  pub waiting : List ℕ

abbrev pub queue : ℕ → Slot → List ℕ → Queue
queue n s ws = record { resends = n; slot = s; waiting = ws }

-- nothing is in flight and nothing waits
abbrev pub empty_bench : ℕ → Queue
empty_bench n = queue n empty []

-- ---- what happens, each with its COMMID, and what is answered

pub data Event : Type 0 where
  submit : ℕ → Event
  ack : ℕ → Event
  nak : ℕ → Event
  time_out : ℕ → Event

-- an option is the COMMID that goes out next, if one waits
pub data Reply : Type 0 where
  -- a submission went out at once, or it waits
  sent : Reply
  waits : Reply
  -- an ACK settles the one in flight
  settles : Option ℕ → Reply
  -- a NAK or a time-out sends it again, or it fails
  again : Reply
  fails : Option ℕ → Reply
  refused : Refused → Reply

pub record Outcome : Type 0 where
  pub reply : Reply
  pub after : Queue

abbrev pub outcome : Reply → Queue → Outcome
outcome r q = record { reply = r; after = q }

-- a refusal changes nothing
abbrev pub refusal : ℕ → Queue → Outcome
refusal n q = outcome (refused (plainly n)) q

-- ---- a submission: 70, then 71; else it goes out if the slot is empty, and otherwise waits behind the others

unfoldable pub among : ℕ → List ℕ → Bool
among x [] = false
among x (y ∷ ys) = eqb x y || among x ys

-- the COMMIDs in flight and waiting
abbrev pub known : Slot → List ℕ → List ℕ
known empty ws = ws
known (holds y k) ws = y ∷ ws

abbrev pub placed : ℕ → ℕ → Slot → List ℕ → Outcome
placed x n empty ws = outcome sent (queue n (holds x n) ws)
placed x n (holds y k) ws = outcome waits (queue n (holds y k) (ws ++ (x ∷ [])))

unfoldable pub submitting : ℕ → Queue → Outcome
submitting x q =
    cond (leb most_waiting (length q.waiting)) (refusal 70 q)
    (cond (among x (known q.slot q.waiting)) (refusal 71 q)
    (placed x q.resends q.slot q.waiting))

-- ---- the slot falls free: the oldest that waits goes out, with all its resends

abbrev pub next : List ℕ → Option ℕ
next [] = none
next (w ∷ ws) = some w

abbrev pub freed : ℕ → List ℕ → Queue
freed n [] = queue n empty []
freed n (w ∷ ws) = queue n (holds w n) ws

-- ---- an ACK: 72 where its COMMID is not the one in flight, which it else settles

abbrev pub is_in_flight : ℕ → Slot → Bool
is_in_flight x empty = false
is_in_flight x (holds y k) = eqb x y

unfoldable pub acking : ℕ → Queue → Outcome
acking x q =
    cond (is_in_flight x q.slot) (outcome (settles (next q.waiting)) (freed q.resends q.waiting))
    (refusal 72 q)

-- ---- a NAK, and a time-out alike: 72; else it fails if no resend is left, and otherwise goes again

abbrev pub left : Slot → ℕ
left empty = 0
left (holds y k) = k

unfoldable pub naking : ℕ → Queue → Outcome
naking x q =
    cond (is_in_flight x q.slot)
    (cond (eqb (left q.slot) 0) (outcome (fails (next q.waiting)) (freed q.resends q.waiting))
    (outcome again (queue q.resends (holds x (left q.slot - 1)) q.waiting)))
    (refusal 72 q)

-- ---- each event

abbrev pub answering : Event → Queue → Outcome
answering (submit x) q = submitting x q
answering (ack x) q = acking x q
answering (nak x) q = naking x q
answering (time_out x) q = naking x q
