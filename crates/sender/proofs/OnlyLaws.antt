-- One answer alone, and one later state, keeps each promise: what is told can be told back.
use Prim.Native.Nat.{ℕ}
use mathlib.Core.Bool.{cond}
use mathlib.Core.List.{List}
use mathlib.Core.Option.{none, some}
use mathlib.Core.Option as paper
use Rattle.std.specs.Prelude.{Option, Some, None, Result, Ok, Err}
use mathlib.Core.Path.{◌≡◌, refl, ap, sym, ◌∙◌}
use lib.Dec.{eqb}
use Rattle.envelope.proofs.OnlyLaws.{only_by_telling, only_told_numbers}
use Rattle.envelope.specs.Promise.{Only₁, Only₂}
use Rattle.envelope.specs.Refusals.{Refused, plainly, passing_on, numbers_of}
use Rattle.sender.specs.Queue.{Slot, empty, holds, Event, Reply, sent, waits, settles, again, fails, refused}
use Rattle.sender.specs.Told.{told_sender_refusal, NumbersSenderRefusal, Beside, Happening, told_flight, told_next, told_answer, told_bench, Answers, CountsWaiting, StartAnswer, ready, no_bench, starting, told_start, Starts}
use Rattle.sender.specs.declared.bench.Answer.{Answer}
use Rattle.sender.specs.declared.bench.Answer.TheVariants.{Sent, Waits, Settled, Again, Failed}
use Rattle.sender.specs.declared.bench.Bench.{Bench}
use Rattle.sender.specs.declared.bench.Flight.{Flight}
use Rattle.sender.specs.declared.refusal.Refusal.{Refusal}
use Rattle.sender.specs.declared.refusal.Refusal.TheVariants.{Full, Known, NotInFlight, TooManyResends}

abbrev untold_sender_refusal : Refused → Refusal
untold_sender_refusal (plainly n) = cond (eqb n 70) Full (cond (eqb n 71) Known (cond (eqb n 72) NotInFlight TooManyResends))
untold_sender_refusal (passing_on n r) = Full

untold_sender_refusal_lem : (f : Refusal) → untold_sender_refusal (told_sender_refusal f) ≡ f
untold_sender_refusal_lem Full = refl
untold_sender_refusal_lem Known = refl
untold_sender_refusal_lem NotInFlight = refl
untold_sender_refusal_lem TooManyResends = refl

abbrev untold_flight : Slot → Option Flight
untold_flight empty = None
untold_flight (holds x k) = Some (record { commid = x; left = k })

untold_flight_lem : (f : Option Flight) → untold_flight (told_flight f) ≡ f
untold_flight_lem None = refl
untold_flight_lem (Some f) = refl

abbrev untold_next : paper.Option ℕ → Option ℕ
untold_next none = None
untold_next (some x) = Some x

untold_next_lem : (n : Option ℕ) → untold_next (told_next n) ≡ n
untold_next_lem None = refl
untold_next_lem (Some x) = refl

abbrev untold_answer : Reply → Result Answer Refusal
untold_answer sent = Ok Sent
untold_answer waits = Ok Waits
untold_answer (settles o) = Ok (Settled (untold_next o))
untold_answer again = Ok Again
untold_answer (fails o) = Ok (Failed (untold_next o))
untold_answer (refused r) = Err (untold_sender_refusal r)

untold_answer_lem : (r : Result Answer Refusal) → untold_answer (told_answer r) ≡ r
untold_answer_lem (Ok Sent) = refl
untold_answer_lem (Ok Waits) = refl
untold_answer_lem (Ok (Settled n)) = λ i. Ok (Settled (untold_next_lem n i))
untold_answer_lem (Ok Again) = refl
untold_answer_lem (Ok (Failed n)) = λ i. Ok (Failed (untold_next_lem n i))
untold_answer_lem (Err f) = λ i. Err (untold_sender_refusal_lem f i)

abbrev untold_bench : Beside → Bench
untold_bench b = record { resends = b.resends; flight = untold_flight b.slot; count = b.count }

untold_bench_lem : (b : Bench) → untold_bench (told_bench b) ≡ b
untold_bench_lem b = λ i. record { resends = b.resends; flight = untold_flight_lem b.flight i; count = b.count }

pub same_bench : (a b : Bench) → told_bench a ≡ told_bench b → a ≡ b
same_bench a b e = sym (untold_bench_lem a) ∙ ap untold_bench e ∙ untold_bench_lem b

abbrev untold_start : StartAnswer → Result Bench Refusal
untold_start (ready b) = Ok (untold_bench b)
untold_start (no_bench r) = Err (untold_sender_refusal r)

untold_start_lem : (s : Result Bench Refusal) → untold_start (told_start s) ≡ s
untold_start_lem (Ok b) = λ i. Ok (untold_bench_lem b i)
untold_start_lem (Err f) = λ i. Err (untold_sender_refusal_lem f i)

pub only_numbers_sender_refusal : (f : Refusal) → Only₁ (NumbersSenderRefusal f)
only_numbers_sender_refusal f = only_told_numbers (numbers_of (told_sender_refusal f))

pub only_starts : (n : ℕ) → Only₁ (Starts n)
only_starts n = only_by_telling told_start untold_start untold_start_lem (starting n)

-- `submit`, `ack`, `nak` and `time_out`: the answer, and what was lent, which is the bench and the places
pub only_answers : (e : Event) (b : Bench) (entry : List ℕ) → Only₂ (λ (r : Result Answer Refusal) (lent : Bench × List ℕ). Answers e b entry r lent.0 lent.1)
only_answers e b entry a a' x y p q =
    let same = p ∙ sym q in
    let bench = same_bench x.0 y.0 (ap (λ (h : Happening). h.state.beside) same) in
    let places = ap (λ (h : Happening). h.state.places) same in
    (sym (untold_answer_lem a) ∙ ap (λ (h : Happening). untold_answer h.reply) same ∙ untold_answer_lem a', λ i. (bench i, places i))

pub only_counts_waiting : (b : Bench) (places : List ℕ) → Only₁ (CountsWaiting b places)
only_counts_waiting b places r r' p q = p.0 ∙ sym q.0
