-- The sender as C sees it: its state in storage that is lent, each answer as a word, and what the lent storage then holds.
-- The answers themselves are those of the crate `sender`. Any content of the storage is a state.
use Rattle.std.specs.Prelude.{ℕ, ◌+◌, ◌-◌, ◌%◌, ◌≤◌, ◌<◌, cond, List, [], ◌∷◌, ◌++◌, ◌≡◌, eqb, length, take, get_or, Result, Ok}
use Rattle.std.proofs.Math.Option.{Option, none, some}
use Rattle.envelope.specs.Refusals.{plainly}
use Rattle.sender.specs.Accounts.{those, in_slot, Accounted}
use Rattle.sender.specs.History.{Line, line, in_flight, commid_of, submissions}
use Rattle.sender.specs.History as history
use Rattle.sender.specs.Order.{InOrder}
use Rattle.sender.specs.Queue.{most_waiting, Slot, empty, holds, Queue, Event, Reply, sent, waits, settles, again, fails, refused}
use Rattle.sender.specs.Runs.{Follows}
use Rattle.sender.specs.Sends.{AllSent}
use Rattle.sender.specs.Told.{Beside, beside, State, queue_of, Happening, happening, told_answer, told_bench, StartAnswer, ready, no_bench, most_resends, starting, Starts, Answers}
use Rattle.sender.specs.declared.bench.Answer.{Answer}
use Rattle.sender.specs.declared.bench.Bench.{Bench}
use Rattle.sender.specs.declared.refusal.Refusal.{Refusal}
use Rattle.exports.specs.Word.{Slots, slots, word, unword, done, refused_with}

-- ---- the state: the 16 places, and four numbers: the resends that are set, how many wait, the COMMID in flight, and 0 for none or one more than the resends it has left

abbrev pub slot_for : (commid number : ℕ) → Slot
slot_for commid number = cond (eqb number 0) empty (holds (commid % 4294967296) ((number - 1) % 256))

-- a number of resends has eight bits, and a COMMID 32
abbrev pub beside_for : List ℕ → Beside
beside_for numbers = beside (get_or numbers 0 0 % 256) (slot_for (get_or numbers 2 0) (get_or numbers 3 0)) (get_or numbers 1 0)

abbrev pub sender_for : (waiting numbers : List ℕ) → State
sender_for waiting numbers = record { places = waiting; beside = beside_for numbers }

abbrev pub flight_commid : Slot → ℕ
flight_commid empty = 0
flight_commid (holds x k) = x

abbrev pub flight_number : Slot → ℕ
flight_number empty = 0
flight_number (holds x k) = k + 1

abbrev pub beside_numbers : Beside → List ℕ
beside_numbers b = b.resends ∷ b.count ∷ flight_commid b.slot ∷ flight_number b.slot ∷ []

-- ---- an event: the count tells what was done, and the value the COMMID that goes out next, where one does

-- the count where nothing goes out next, or else that with the next
abbrev pub next_slots : (alone before : ℕ) → Option ℕ → Slots
next_slots alone before none = slots 0 0 alone 0
next_slots alone before (some x) = slots 0 0 before x

abbrev pub settled_slots : Option ℕ → Slots
settled_slots o = next_slots 3 4 o

abbrev pub failed_slots : Option ℕ → Slots
failed_slots o = next_slots 6 7 o

abbrev pub reply_slots : Reply → Slots
reply_slots sent = slots 0 0 1 0
reply_slots waits = slots 0 0 2 0
reply_slots (settles o) = settled_slots o
reply_slots again = slots 0 0 5 0
reply_slots (fails o) = failed_slots o
reply_slots (refused r) = refused_with r 0

-- what the slots of an answer tell
abbrev pub reply_in : Slots → Reply
reply_in s =
    cond (eqb s.number 0)
    (cond (eqb s.count 1) sent
    (cond (eqb s.count 2) waits
    (cond (eqb s.count 3) (settles none)
    (cond (eqb s.count 4) (settles (some s.value))
    (cond (eqb s.count 5) again
    (cond (eqb s.count 6) (fails none) (fails (some s.value))))))))
    (refused (plainly s.number))

-- a refusal leaves the numbers as they were
abbrev pub numbers_after : Reply → Beside → List ℕ → List ℕ
numbers_after sent b entry = beside_numbers b
numbers_after waits b entry = beside_numbers b
numbers_after (settles o) b entry = beside_numbers b
numbers_after again b entry = beside_numbers b
numbers_after (fails o) b entry = beside_numbers b
numbers_after (refused r) b entry = entry

-- what is lent to an event, before it or after it
pub record SenderLent : Type 0 where
  pub waiting : List ℕ
  pub numbers : List ℕ

abbrev pub sender_lent : (waiting numbers : List ℕ) → SenderLent
sender_lent waiting numbers = record { waiting = waiting; numbers = numbers }

abbrev pub lent_by : Happening → List ℕ → SenderLent
lent_by h numbers = sender_lent h.state.places (numbers_after h.reply h.state.beside numbers)

abbrev pub happening_for : Event → SenderLent → Happening
happening_for e entry = happening e (sender_for entry.waiting entry.numbers)

-- what `morlewen_sender_submit`, `morlewen_sender_ack`, `morlewen_sender_nak` and `morlewen_sender_time_out` promise, each for its event
abbrev pub AnswersForC : Event → SenderLent → ℕ → SenderLent → Type 0
AnswersForC e entry r exit = (r ≡ word (reply_slots (happening_for e entry).reply)) × (exit ≡ lent_by (happening_for e entry) entry.numbers)

-- ---- the start: the places are not looked at, and may hold anything

abbrev pub start_slots : StartAnswer → Slots
start_slots (ready b) = done
start_slots (no_bench r) = refused_with r 0

abbrev pub start_numbers : StartAnswer → List ℕ → List ℕ
start_numbers (ready b) entry = beside_numbers b
start_numbers (no_bench r) entry = entry

-- what `morlewen_sender_start` promises of the numbers lent
abbrev pub StartsForC : ℕ → List ℕ → ℕ → List ℕ → Type 0
StartsForC n entry r exit = (r ≡ word (start_slots (starting n))) × (exit ≡ start_numbers (starting n) entry)

-- ---- who waits, and who is in flight

-- the queue that the storage holds
abbrev pub queue_for : SenderLent → Queue
queue_for l = queue_of (sender_for l.waiting l.numbers)

-- what `morlewen_sender_waiting` promises: the count of those that wait, who are the first of the places
abbrev pub CountsWaitingForC : SenderLent → ℕ → Type 0
CountsWaitingForC l r = r ≡ word (slots 0 0 (length (queue_for l).waiting) 0)

-- what `morlewen_sender_flight` promises: 0, or one more than the resends it has left, and its COMMID
abbrev pub flight_slots : Slot → Slots
flight_slots s = slots 0 0 (flight_number s) (flight_commid s)

abbrev pub TellsFlightForC : List ℕ → ℕ → Type 0
TellsFlightForC numbers r = r ≡ word (flight_slots (beside_for numbers).slot)

-- ---- calls from C are the sender's own calls

-- storage that holds this bench, in whichever numbers
abbrev pub StoresBench : List ℕ → Bench → Type 0
StoresBench numbers b = beside_for numbers ≡ told_bench b

-- numbers of resends that have eight bits and a COMMID that has 32, as those of the code have
abbrev pub FlightFits : Slot → Type 0
FlightFits empty = Unit {0}
FlightFits (holds x k) = (x < 4294967296) × (k < 256)

abbrev pub BesideFits : Beside → Type 0
BesideFits b = (b.resends < 256) × FlightFits b.slot

-- what a call leaves in the storage is the bench that the next one finds there
abbrev pub StorageKeepsTheBench : Type 0
StorageKeepsTheBench = (b : Bench) → BesideFits (told_bench b) → StoresBench (beside_numbers (told_bench b)) b

-- a call answers what the bench in the storage answers, and leaves the places as that call leaves them
abbrev pub EventForCIsEvent : Type 0
EventForCIsEvent =
    (e : Event) (b : Bench) (entry : SenderLent) (r : ℕ) (exit : SenderLent) (answer : Result Answer Refusal) (after : Bench) (places : List ℕ) → StoresBench entry.numbers b
    → AnswersForC e entry r exit → Answers e b entry.waiting answer after places
    → (r ≡ word (reply_slots (told_answer answer)))
    × (exit ≡ sender_lent places (numbers_after (told_answer answer) (told_bench after) entry.numbers))

-- and the numbers then hold the bench that the call leaves: so the theorems about runs of calls hold for C
abbrev pub EventLeavesTheBench : Type 0
EventLeavesTheBench =
    (e : Event) (b : Bench) (entry : SenderLent) (r : ℕ) (exit : SenderLent) (answer : Result Answer Refusal) (after : Bench) (places : List ℕ) → StoresBench entry.numbers b
    → AnswersForC e entry r exit → Answers e b entry.waiting answer after places → BesideFits (told_bench after)
    → StoresBench exit.numbers after

abbrev pub StartLeavesTheBench : Type 0
StartLeavesTheBench =
    (n : ℕ) (b : Bench) (entry : List ℕ) (r : ℕ) (exit : List ℕ) → StartsForC n entry r exit → Starts n (Ok b) → BesideFits (told_bench b) → StoresBench exit b

-- ---- any run of calls from C: its history is what was asked and what the words told

-- the places hold COMMIDs, of 32 bits
abbrev pub AllCommids : List ℕ → Type 0
AllCommids [] = Unit {0}
AllCommids (x ∷ l) = (x < 4294967296) × AllCommids l

pub data RanForC : ℕ → List Line → SenderLent → Type 0 where
  begun : {n : ℕ} (waiting entry : List ℕ) (r : ℕ) (exit : List ℕ) → n ≤ most_resends → AllCommids waiting → StartsForC n entry r exit
      → RanForC n [] (sender_lent waiting exit)
  asked : {n : ℕ} {ls : List Line} {entry : SenderLent} → RanForC n ls entry → (e : Event) (r : ℕ) (exit : SenderLent) → commid_of e < 4294967296
      → AnswersForC e entry r exit → RanForC n (ls ++ (line e (reply_in (unword r)) ∷ [])) exit

pub record ShownForC (n : ℕ) (ls : List Line) (l : SenderLent) : Type 0 where
  pub few : length (queue_for l).waiting ≤ most_waiting
  pub accounted : Accounted (queue_for l) ls
  pub in_order : InOrder (queue_for l) ls
  pub times_sent : AllSent n ls

-- a run is a history of the plain queue: so each theorem about events is one about calls from C
abbrev pub RunForCIsHistory : Type 0
RunForCIsHistory = (n : ℕ) (ls : List Line) (l : SenderLent) → RanForC n ls l → Follows n ls (queue_for l)

abbrev pub WhatBecameForC : Type 0
WhatBecameForC = (n : ℕ) (ls : List Line) (l : SenderLent) → RanForC n ls l → ShownForC n ls l

-- and what it answers when it is asked is what the history tells: how many wait, that the first of the places are theirs, and who is in flight
pub record AskedForC (ls : List Line) (l : SenderLent) : Type 0 where
  pub count : (r : ℕ) → CountsWaitingForC l r → r ≡ word (slots 0 0 (length (those history.waiting (submissions ls))) 0)
  pub first : take (length (those history.waiting (submissions ls))) l.waiting ≡ those history.waiting (submissions ls)
  pub flight : (r : ℕ) → TellsFlightForC l.numbers r → (r ≡ word (flight_slots (queue_for l).slot)) × (in_slot (queue_for l).slot ≡ those in_flight (submissions ls))

abbrev pub WhoForC : Type 0
WhoForC = (n : ℕ) (ls : List Line) (l : SenderLent) → RanForC n ls l → AskedForC ls l
