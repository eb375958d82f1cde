-- Refusals change nothing, and which event can meet which: by the cases of the definition.
use Prim.Native.Nat.{ℕ, ◌≤◌, ◌<◌}
use mathlib.Core.List.{List, []}
use mathlib.Core.Path.{◌≡◌, ap, sym, ◌∙◌, subst}
use lib.ListN.{length}
use borrow.Author.Tests.{le-leb, lt-leb, lt-ltb, le-ltb}
use Rattle.envelope.specs.Refusals.{Gives}
use Rattle.std.specs.Prelude.{Err}
use Rattle.sender.specs.Queue.{Slot, empty, holds, Queue, Event, submit, Reply, sent, waits, settles, again, fails, refused, refusal, placed, submitting, acking, naking, answering}
use Rattle.sender.specs.Refusing.{RefusalKeeps, meets, EventGives, FullFirst, ThenKnown, NotInFlight, StartRefuses, StartTakes}
use Rattle.sender.specs.Told.{State, queue_of, leaving, Happening, told_answer, state_of, StartAnswer, ready, no_bench, starting, Starts}
use Rattle.sender.specs.declared.refusal.Refusal.TheVariants.{TooManyResends}
use Rattle.sender.proofs.CaseLaws.{Cases, each_case}
use Rattle.sender.proofs.OnlyLaws.{same_bench, only_starts}

pub refusal_keeps : RefusalKeeps
refusal_keeps e b entry r after exit refusal p a =
    let s = state_of entry b in
    let told = ap (λ (h : Happening). h.reply) p in
    let kept : state_of exit after ≡ s =
    ap (λ (h : Happening). h.state) p
    ∙ ap (λ (x : Reply). leaving x (answering e (queue_of s)).after s) (sym told ∙ ap told_answer a) in
    (ap (λ (t : State). t.places) kept, same_bench after b (ap (λ (t : State). t.beside) kept))

-- ---- which event meets which

abbrev GivesIn : List ℕ → Reply → Type 0
GivesIn l sent = Unit {0}
GivesIn l waits = Unit {0}
GivesIn l (settles o) = Unit {0}
GivesIn l again = Unit {0}
GivesIn l (fails o) = Unit {0}
GivesIn l (refused r) = Gives l [] r

placed_gives : (l : List ℕ) (x n : ℕ) (s : Slot) (ws : List ℕ) → GivesIn l (placed x n s ws).reply
placed_gives l x n empty ws = tt
placed_gives l x n (holds y k) ws = tt

gives_cases : (n : ℕ) (s : Slot) (ws : List ℕ) → Cases n s ws (λ e o. GivesIn (meets e) o.reply)
gives_cases n s ws =
    record {
      refused = λ e k meets. meets;
      placed = λ x room new. placed_gives (meets (submit x)) x n s ws;
      settled = λ e here. tt;
      failed = λ e here none. tt;
      again = λ e here some. tt;
    }

reply_gives : (e : Event) (q : Queue) → GivesIn (meets e) (answering e q).reply
reply_gives e q = each_case q.resends q.slot q.waiting (λ d o. GivesIn (meets d) o.reply) (gives_cases q.resends q.slot q.waiting) e

pub event_gives : EventGives
event_gives e b entry r after exit refusal p a =
    subst (GivesIn (meets e)) (sym (ap (λ (h : Happening). h.reply) p) ∙ ap told_answer a) (reply_gives e (queue_of (state_of entry b)))

-- ---- in order

pub full_first : FullFirst
unfolding submitting
full_first x q h = rw (le-leb 16 (length q.waiting) h)

pub then_known : ThenKnown
unfolding submitting
then_known x q h k = rw (lt-leb 16 (length q.waiting) h, k)

pub not_in_flight : NotInFlight
unfolding acking naking
not_in_flight x q h = (rw h, rw h, rw h)

start_refused : (n : ℕ) → 10 < n → Starts n (Err TooManyResends)
start_refused n h = rw (lt-ltb 10 n h)

pub start_refuses : StartRefuses
start_refuses n r p h = only_starts n r (Err TooManyResends) p (start_refused n h)

abbrev IsBench : StartAnswer → Type 0
IsBench (ready b) = Unit {0}
IsBench (no_bench r) = ⊥

start_taken : (n : ℕ) → n ≤ 10 → IsBench (starting n)
start_taken n h = rw (le-ltb 10 n h) tt

pub start_takes : StartTakes
start_takes n refusal h p = subst IsBench (sym p) (start_taken n h)
