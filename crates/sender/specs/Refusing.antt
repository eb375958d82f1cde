-- Refusals change nothing, and which event can meet which, in order. RULES 13.
-- Proofs in proofs/RefusingLaws.
use Rattle.std.specs.Prelude.{ℕ, ◌≤◌, ◌<◌, true, false, List, [], ◌∷◌, ◌≡◌, length, Result, Err}
use Rattle.envelope.specs.Refusals.{plainly, Gives}
use Rattle.sender.specs.Queue.{most_waiting, Queue, Event, submit, ack, nak, time_out, refused, among, known, is_in_flight, answering}
use Rattle.sender.specs.Told.{most_resends, told_sender_refusal, Starts, Answers}
use Rattle.sender.specs.declared.bench.Answer.{Answer}
use Rattle.sender.specs.declared.bench.Bench.{Bench}
use Rattle.sender.specs.declared.refusal.Refusal.{Refusal}
use Rattle.sender.specs.declared.refusal.Refusal.TheVariants.{TooManyResends}

-- a refusal leaves the places and what stands beside them as they were, whatever they held
abbrev pub RefusalKeeps : Type 0
RefusalKeeps = (e : Event) (b : Bench) (entry : List ℕ) (r : Result Answer Refusal) (after : Bench) (exit : List ℕ) (refusal : Refusal)
    → Answers e b entry r after exit → r ≡ Err refusal → (exit ≡ entry) × (after ≡ b)

-- a submission meets 70 and 71, any other event 72, and none of them 73
abbrev pub meets : Event → List ℕ
meets (submit x) = 70 ∷ 71 ∷ []
meets (ack x) = 72 ∷ []
meets (nak x) = 72 ∷ []
meets (time_out x) = 72 ∷ []

abbrev pub EventGives : Type 0
EventGives = (e : Event) (b : Bench) (entry : List ℕ) (r : Result Answer Refusal) (after : Bench) (exit : List ℕ) (refusal : Refusal)
    → Answers e b entry r after exit → r ≡ Err refusal → Gives (meets e) [] (told_sender_refusal refusal)

-- 70 where 16 wait, whatever the COMMID; 71 where fewer do and it is in flight or waits; 72 where it is not in flight
abbrev pub FullFirst : Type 0
FullFirst = (x : ℕ) (q : Queue) → most_waiting ≤ length q.waiting → (answering (submit x) q).reply ≡ refused (plainly 70)

abbrev pub ThenKnown : Type 0
ThenKnown = (x : ℕ) (q : Queue) → length q.waiting < most_waiting → among x (known q.slot q.waiting) ≡ true → (answering (submit x) q).reply ≡ refused (plainly 71)

abbrev pub NotInFlight : Type 0
NotInFlight = (x : ℕ) (q : Queue) → is_in_flight x q.slot ≡ false
    → ((answering (ack x) q).reply ≡ refused (plainly 72)) × ((answering (nak x) q).reply ≡ refused (plainly 72)) × ((answering (time_out x) q).reply ≡ refused (plainly 72))

-- 73 where more than 10 resends are asked for, and a bench wherever not
abbrev pub StartRefuses : Type 0
StartRefuses = (n : ℕ) (r : Result Bench Refusal) → Starts n r → most_resends < n → r ≡ Err TooManyResends

abbrev pub StartTakes : Type 0
StartTakes = (n : ℕ) (refusal : Refusal) → n ≤ most_resends → Starts n (Err refusal) → ⊥
