-- The state that is lent, in the parts that the code takes it in; and that calls from C are the sender's own calls.
use mathlib.Core.Bool.{Bool, true, false}
use mathlib.Core.List.{List}
use mathlib.Core.Path.{◌≡◌, refl, ap, sym, subst, ◌∙◌}
use Prim.Native.Nat.{ℕ, ◌+◌, ◌-◌, ◌%◌, ◌<◌, ◌^◌}
use native.Mathlib.Omega.{arith}
use borrow.Author.Tests.{ne_eqb}
use lib.Dec.{eqb}
use lib.ListN.{get_or}
use Rattle.envelope.specs.Refusals.{Refused, numbers_of}
use Rattle.sender.specs.Queue.{Slot, empty, holds, Event, Reply, sent, waits, settles, again, fails, refused, answering}
use Rattle.sender.specs.Told.{told_sender_refusal, Beside, beside, queue_of, leaving, Happening, happening, told_flight, told_answer, told_bench, state_of, told_step, Answers, StartAnswer}
use Rattle.std.specs.Prelude.{Result}
use Rattle.sender.specs.declared.bench.Answer.{Answer}
use Rattle.sender.specs.declared.bench.Bench.{Bench}
use Rattle.sender.specs.declared.refusal.Refusal.{Refusal}
use Rattle.sender.specs.declared.refusal.Refusal.TheVariants.{Full, Known, NotInFlight, TooManyResends}
use Rattle.exports.specs.Senders.{slot_for, beside_for, sender_for, flight_commid, flight_number, beside_numbers, reply_slots, numbers_after, SenderLent, sender_lent, lent_by, AnswersForC, start_numbers, FlightFits, BesideFits, StorageKeepsTheBench, EventForCIsEvent, EventLeavesTheBench, StartLeavesTheBench}
use Rattle.exports.specs.Word.{word}

-- no refusal of the sender has a place
pub sender_points_nowhere : (f : Refusal) → (numbers_of (told_sender_refusal f)).place < 2 ^ 32
sender_points_nowhere Full = omega arith
sender_points_nowhere Known = omega arith
sender_points_nowhere NotInFlight = omega arith
sender_points_nowhere TooManyResends = omega arith

-- what stands in flight has a word
flight_fits : (commid number : ℕ) → (flight_number (slot_for commid number) < 2 ^ 16) × (flight_commid (slot_for commid number) < 2 ^ 32)
flight_fits commid number = go (eqb number 0) refl where
  go : (b : Bool) → eqb number 0 ≡ b → (flight_number (slot_for commid number) < 2 ^ 16) × (flight_commid (slot_for commid number) < 2 ^ 32)
  go true e = rw e (omega arith, omega arith)
  go false e = rw e (omega arith, omega arith)

-- the one in flight, by the bench that the numbers hold
pub told_flight_fits : (numbers : List ℕ) (bench : Bench) → told_bench bench ≡ beside_for numbers
    → (flight_number (told_flight bench.flight) < 2 ^ 16) × (flight_commid (told_flight bench.flight) < 2 ^ 32)
told_flight_fits numbers bench e =
    subst (λ (s : Slot). (flight_number s < 2 ^ 16) × (flight_commid s < 2 ^ 32)) (sym (ap (λ (b : Beside). b.slot) e)) (flight_fits (get_or numbers 2 0) (get_or numbers 3 0))

-- ---- a call, from the bench that the numbers hold

stored_happening : (e : Event) (waiting numbers : List ℕ) (bench : Bench) (answer : Result Answer Refusal) (later : Bench) (places : List ℕ) → beside_for numbers ≡ told_bench bench → Answers e bench waiting answer later places
    → told_step answer later places ≡ happening e (sender_for waiting numbers)
stored_happening e waiting numbers bench answer later places b p =
    p ∙ ap (λ (x : Beside). happening e (record { places = waiting; beside = x })) (sym b)

pub answered_for_c : (e : Event) (waiting numbers : List ℕ) (bench : Bench) (answer : Result Answer Refusal) (later : Bench) (places after : List ℕ) (r : ℕ)
    → told_bench bench ≡ beside_for numbers → Answers e bench waiting answer later places → r ≡ word (reply_slots (told_answer answer))
    → after ≡ numbers_after (told_answer answer) (told_bench later) numbers
    → AnswersForC e (sender_lent waiting numbers) r (sender_lent places after)
answered_for_c e waiting numbers bench answer later places after r b p q n =
    let h = stored_happening e waiting numbers bench answer later places (sym b) p in
    (q ∙ ap (λ (x : Happening). word (reply_slots x.reply)) h, (λ i. sender_lent places (n i)) ∙ ap (λ (x : Happening). lent_by x numbers) h)

pub event_for_c_is_event : EventForCIsEvent
event_for_c_is_event e b entry r exit answer later places stores p q =
    let h = sym (stored_happening e entry.waiting entry.numbers b answer later places stores q) in
    (p.0 ∙ ap (λ (x : Happening). word (reply_slots x.reply)) h, p.1 ∙ ap (λ (x : Happening). lent_by x entry.numbers) h)

-- ---- the storage keeps the bench

flight_kept : (s : Slot) → FlightFits s → slot_for (flight_commid s) (flight_number s) ≡ s
flight_kept empty h = refl
flight_kept (holds x k) h =
    let commid : x % 4294967296 ≡ x = omega (arith, h.0) in
    let left : (k + 1 - 1) % 256 ≡ k = omega (arith, h.1) in
    rw (ne_eqb (k + 1) 0 (λ e. omega arith)) (λ i. holds (commid i) (left i))

pub beside_kept : (b : Beside) → BesideFits b → beside_for (beside_numbers b) ≡ b
beside_kept b h =
    let resends : b.resends % 256 ≡ b.resends = omega (arith, h.0) in
    λ i. beside (resends i) (flight_kept b.slot h.1 i) b.count

pub storage_keeps_the_bench : StorageKeepsTheBench
storage_keeps_the_bench b h = beside_kept (told_bench b) h

-- a refusal leaves the numbers, and they hold the bench as before; any other answer writes the bench into them
numbers_left : (a : Reply) (b : Bench) (numbers : List ℕ) → BesideFits (told_bench b) → ((k : Refused) → a ≡ refused k → beside_for numbers ≡ told_bench b)
    → beside_for (numbers_after a (told_bench b) numbers) ≡ told_bench b
numbers_left sent b numbers f h = storage_keeps_the_bench b f
numbers_left waits b numbers f h = storage_keeps_the_bench b f
numbers_left (settles o) b numbers f h = storage_keeps_the_bench b f
numbers_left again b numbers f h = storage_keeps_the_bench b f
numbers_left (fails o) b numbers f h = storage_keeps_the_bench b f
numbers_left (refused k) b numbers f h = h k refl

bench_kept : (e : Event) (b : Bench) (waiting : List ℕ) (answer : Result Answer Refusal) (later : Bench) (places : List ℕ) (k : Refused) → Answers e b waiting answer later places
    → told_answer answer ≡ refused k → told_bench b ≡ told_bench later
bench_kept e b waiting answer later places k q a =
    let s = state_of waiting b in
    let told = ap (λ (h : Happening). h.reply) q in
    sym (ap (λ (h : Happening). h.state.beside) q ∙ ap (λ (x : Reply). (leaving x (answering e (queue_of s)).after s).beside) (sym told ∙ a))

pub event_leaves_the_bench : EventLeavesTheBench
event_leaves_the_bench e b entry r exit answer later places stores p q f =
    ap (λ (l : SenderLent). beside_for l.numbers) (event_for_c_is_event e b entry r exit answer later places stores p q).1
    ∙ numbers_left (told_answer answer) later entry.numbers f (λ k a. stores ∙ bench_kept e b entry.waiting answer later places k q a)

pub start_leaves_the_bench : StartLeavesTheBench
start_leaves_the_bench n b entry r exit p q f =
    ap beside_for (p.1 ∙ ap (λ (a : StartAnswer). start_numbers a entry) (sym q)) ∙ storage_keeps_the_bench b f
