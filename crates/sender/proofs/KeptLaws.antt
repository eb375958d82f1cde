-- A refusal leaves the queue, and after any answer the state keeps the queue after it. By the cases of the definition.
use Prim.Native.Nat.{ℕ}
use mathlib.Core.List.{List}
use mathlib.Core.Path.{◌≡◌, refl, ap, sym}
use lib.Seq.{take-append_seam}
use Rattle.sender.specs.Queue.{Slot, empty, holds, Queue, queue, Event, Reply, sent, waits, settles, again, fails, refused, Outcome, placed, answering}
use Rattle.sender.proofs.CaseLaws.{Cases, each_case}
use Rattle.sender.specs.Told.{State, queue_of, keeping, leaving, happening}

-- where the reply is a refusal, the queue is as before
abbrev pub KeptBy : Reply → Queue → Queue → Type 0
KeptBy sent q before = Unit {0}
KeptBy waits q before = Unit {0}
KeptBy (settles o) q before = Unit {0}
KeptBy again q before = Unit {0}
KeptBy (fails o) q before = Unit {0}
KeptBy (refused r) q before = q ≡ before

abbrev Kept : Outcome → Queue → Type 0
Kept o q = KeptBy o.reply o.after q

placed_kept : (x n : ℕ) (s : Slot) (ws : List ℕ) (q : Queue) → Kept (placed x n s ws) q
placed_kept x n empty ws q = tt
placed_kept x n (holds y k) ws q = tt

kept_cases : (q : Queue) → Cases q.resends q.slot q.waiting (λ e o. Kept o q)
kept_cases q =
    record {
      refused = λ e k meets. refl;
      placed = λ x room new. placed_kept x q.resends q.slot q.waiting q;
      settled = λ e here. tt;
      failed = λ e here none. tt;
      again = λ e here some. tt;
    }

pub answer_kept : (e : Event) (q : Queue) → Kept (answering e q) q
answer_kept e q = each_case q.resends q.slot q.waiting (λ d o. Kept o q) (kept_cases q) e

-- the places give back those that wait
pub keeping_queue : (q : Queue) → queue_of (keeping q) ≡ q
keeping_queue q = ap (queue q.resends q.slot) (take-append_seam q.waiting _)

leaving_queue : (r : Reply) (q : Queue) (s : State) → KeptBy r q (queue_of s) → queue_of (leaving r q s) ≡ q
leaving_queue sent q s h = keeping_queue q
leaving_queue waits q s h = keeping_queue q
leaving_queue (settles o) q s h = keeping_queue q
leaving_queue again q s h = keeping_queue q
leaving_queue (fails o) q s h = keeping_queue q
leaving_queue (refused r) q s h = sym h

pub happening_queue : (e : Event) (s : State) → queue_of (happening e s).state ≡ (answering e (queue_of s)).after
happening_queue e s = leaving_queue (answering e (queue_of s)).reply (answering e (queue_of s)).after s (answer_kept e (queue_of s))
