-- A run of the code: a bench that was started, then any calls, each answered as it promises. Its history is what was asked and answered. RULES 13.
-- Proofs in proofs/RunLaws.
use Rattle.std.specs.Prelude.{ℕ, ◌≤◌, ◌<◌, true, false, List, [], ◌∷◌, ◌++◌, ◌≡◌, length, Result, Ok}
use Rattle.sender.specs.Accounts.{those, Accounted}
use Rattle.sender.specs.History.{Line, line, waiting, in_flight, submissions, history, final}
use Rattle.sender.specs.Order.{InOrder}
use Rattle.sender.specs.Queue.{most_waiting, Queue, empty_bench, Event, submit, among, answering}
use Rattle.sender.specs.Reuse.{accepts}
use Rattle.sender.specs.Sends.{AllSent}
use Rattle.sender.specs.Told.{most_resends, queue_of, told_answer, state_of, Starts, Answers}
use Rattle.sender.specs.declared.bench.Answer.{Answer}
use Rattle.sender.specs.declared.bench.Bench.{Bench}
use Rattle.sender.specs.declared.refusal.Refusal.{Refusal}

-- ---- a call answers as the plain queue does, and leaves the state of the queue after it, whatever the state was before

abbrev pub AnswersAsQueue : Type 0
AnswersAsQueue = (e : Event) (b : Bench) (entry : List ℕ) (r : Result Answer Refusal) (after : Bench) (exit : List ℕ) → Answers e b entry r after exit
    → (told_answer r ≡ (answering e (queue_of (state_of entry b))).reply) × (queue_of (state_of exit after) ≡ (answering e (queue_of (state_of entry b))).after)

-- and a bench that was started is the empty one, whatever the places hold
abbrev pub StartsEmpty : Type 0
StartsEmpty = (n : ℕ) (b : Bench) (places : List ℕ) → Starts n (Ok b) → queue_of (state_of places b) ≡ empty_bench n

-- ---- any calls

-- the places may hold anything at the start
pub data Ran : ℕ → List Line → Bench → List ℕ → Type 0 where
  begun : {n : ℕ} (b : Bench) (places : List ℕ) → Starts n (Ok b) → Ran n [] b places
  asked : {n : ℕ} {ls : List Line} {b : Bench} {entry : List ℕ} → Ran n ls b entry → (e : Event) (r : Result Answer Refusal) (after : Bench) (exit : List ℕ) → Answers e b entry r after exit
      → Ran n (ls ++ (line e (told_answer r) ∷ [])) after exit

-- a run is a history of the plain queue: so each theorem about events is one about calls
pub record Follows (n : ℕ) (ls : List Line) (q : Queue) : Type 0 where
  pub events : List Event
  pub lines : ls ≡ history (empty_bench n) events
  pub end : q ≡ final (empty_bench n) events

abbrev pub RunIsHistory : Type 0
RunIsHistory = (n : ℕ) (ls : List Line) (b : Bench) (places : List ℕ) → Ran n ls b places → Follows n ls (queue_of (state_of places b))

-- a COMMID that by the history neither waits nor is in flight is accepted, while fewer than 16 wait
abbrev pub UsableInRun : Type 0
UsableInRun =
    (n : ℕ) (ls : List Line) (b : Bench) (places : List ℕ) (x : ℕ) (r : Result Answer Refusal) (after : Bench) (exit : List ℕ) → Ran n ls b places
    → among x (those waiting (submissions ls)) ≡ false → among x (those in_flight (submissions ls)) ≡ false → length (those waiting (submissions ls)) < most_waiting
    → Answers (submit x) b places r after exit → accepts (told_answer r) ≡ true

-- At most 10 resends are set and at most 16 wait; the history alone tells what the state holds, and what became of every message, in which order, and how often it was sent.
pub record Shown (n : ℕ) (ls : List Line) (b : Bench) (places : List ℕ) : Type 0 where
  pub resends : n ≤ most_resends
  pub few : length (queue_of (state_of places b)).waiting ≤ most_waiting
  pub accounted : Accounted (queue_of (state_of places b)) ls
  pub in_order : InOrder (queue_of (state_of places b)) ls
  pub times_sent : AllSent n ls

abbrev pub WhatBecame : Type 0
WhatBecame = (n : ℕ) (ls : List Line) (b : Bench) (places : List ℕ) → Ran n ls b places → Shown n ls b places
