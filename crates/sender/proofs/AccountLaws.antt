-- Over any events from an empty bench, the history and the queue agree. By induction on the events, from any good queue.
use Prim.Native.Nat.{ℕ, suc, ◌+◌, ◌≤◌, ◌<◌}
use mathlib.Core.Path.{◌≡◌, refl, ap, sym, ◌∙◌}
use mathlib.Core.List.{List, [], ◌∷◌, ◌++◌}
use mathlib.Core.Bool.{Bool, true, false, cond}
use lib.ListN.{length}
use lib.Dec.{eqb}
use native.Mathlib.Omega.{arith}
use borrow.Author.Tests.{ne_eqb, eqb-true, eqb-false}
use Rattle.sender.specs.Queue.{Slot, empty, holds, queue, empty_bench, Event, Reply, sent, waits, settles, fails, again, refused, among, answering}
use Rattle.sender.specs.Accounts.{same, those, numbers_from, counted, settled_by, failed_by, all_settled, all_failed, in_slot, Accounts}
use Rattle.sender.specs.History.{Fate, waiting, in_flight, acknowledged, failed, Submission, submission, fate, submissions, history, final}
use Rattle.sender.proofs.StandingLaws.{Good, old, olds, with_ended, fine}

-- what the end of a submission does to the four lists
ended_waiting : (e : Event) (r : Reply) (ms : List Submission) → those waiting (with_ended e r ms) ≡ those waiting ms
unfolding those
ended_waiting e sent ms = refl
ended_waiting e waits ms = refl
ended_waiting e (settles n) ms = refl
ended_waiting e again ms = refl
ended_waiting e (fails n) ms = refl
ended_waiting e (refused k) ms = refl

ended_in_flight : (e : Event) (r : Reply) (ms : List Submission) → those in_flight (with_ended e r ms) ≡ those in_flight ms
unfolding those
ended_in_flight e sent ms = refl
ended_in_flight e waits ms = refl
ended_in_flight e (settles n) ms = refl
ended_in_flight e again ms = refl
ended_in_flight e (fails n) ms = refl
ended_in_flight e (refused k) ms = refl

ended_acknowledged : (e : Event) (r : Reply) (ms : List Submission) → those acknowledged (with_ended e r ms) ≡ settled_by e r (those acknowledged ms)
unfolding those
ended_acknowledged e sent ms = refl
ended_acknowledged e waits ms = refl
ended_acknowledged e (settles n) ms = refl
ended_acknowledged e again ms = refl
ended_acknowledged e (fails n) ms = refl
ended_acknowledged e (refused k) ms = refl

ended_failed : (e : Event) (r : Reply) (ms : List Submission) → those failed (with_ended e r ms) ≡ failed_by e r (those failed ms)
unfolding those
ended_failed e sent ms = refl
ended_failed e waits ms = refl
ended_failed e (settles n) ms = refl
ended_failed e again ms = refl
ended_failed e (fails n) ms = refl
ended_failed e (refused k) ms = refl

-- a queue, and submissions sorted by their fates
record Sorted (s : Slot) (ws : List ℕ) (ms : List Submission) (acks naks : List ℕ) : Type 0 where
  the_waiting : those waiting ms ≡ ws
  the_one_in_flight : those in_flight ms ≡ in_slot s
  the_acknowledged : those acknowledged ms ≡ acks
  the_failed : those failed ms ≡ naks

-- before any event
olds_sorted : (ws : List ℕ) → Sorted empty ws (olds ws [] ++ []) [] []
unfolding those fate
olds_sorted [] = record { the_waiting = refl; the_one_in_flight = refl; the_acknowledged = refl; the_failed = refl }
olds_sorted (w ∷ ws) =
    let r = olds_sorted ws in
    record {
      the_waiting = ap (λ (l : List ℕ). w ∷ l) r.the_waiting;
      the_one_in_flight = r.the_one_in_flight;
      the_acknowledged = r.the_acknowledged;
      the_failed = r.the_failed;
    }

old_sorted : (s : Slot) (ws : List ℕ) → Sorted s ws (old s ws [] ++ []) [] []
unfolding those fate
old_sorted empty ws = olds_sorted ws
old_sorted (holds y k) ws =
    let r = olds_sorted ws in
    record {
      the_waiting = r.the_waiting;
      the_one_in_flight = ap (λ (l : List ℕ). y ∷ l) r.the_one_in_flight;
      the_acknowledged = r.the_acknowledged;
      the_failed = r.the_failed;
    }

-- after any events: the messages that the queue held, and then the new ones
sorted : (n : ℕ) (s : Slot) (ws : List ℕ) → Good s ws → (es : List Event)
    → Sorted (final (queue n s ws) es).slot (final (queue n s ws) es).waiting
    (old s ws (history (queue n s ws) es) ++ submissions (history (queue n s ws) es))
    (all_settled (history (queue n s ws) es)) (all_failed (history (queue n s ws) es))
unfolding history final submissions all_settled all_failed
sorted n s ws g [] = old_sorted s ws
sorted n s ws g (e ∷ es) =
    let m = answering e (queue n s ws) in
    let f = fine n s ws g e in
    let r = sorted m.after.resends m.after.slot m.after.waiting f.good es in
    let q = f.same (history m.after es) in
    record {
      the_waiting = ap (those waiting) q ∙ ended_waiting e m.reply _ ∙ r.the_waiting;
      the_one_in_flight = ap (those in_flight) q ∙ ended_in_flight e m.reply _ ∙ r.the_one_in_flight;
      the_acknowledged = ap (those acknowledged) q ∙ ended_acknowledged e m.reply _ ∙ ap (settled_by e m.reply) r.the_acknowledged;
      the_failed = ap (those failed) q ∙ ended_failed e m.reply _ ∙ ap (failed_by e m.reply) r.the_failed;
    }

-- Each number is in one of the four lists, and only there.
hit : (k i : ℕ) (b : Bool) (l : List ℕ) → eqb k i ≡ true → among k l ≡ false → among k (cond b (i ∷ l) l) ≡ b
unfolding among
hit k i true l e a = rw e
hit k i false l e a = a

miss : (k i : ℕ) (b : Bool) (l : List ℕ) → eqb k i ≡ false → among k (cond b (i ∷ l) l) ≡ among k l
unfolding among
miss k i true l e = rw e
miss k i false l e = refl

-- no number below the first stands in a list
none_below : (k i : ℕ) (f : Fate) (ms : List Submission) → k < i → among k (numbers_from i f ms) ≡ false
unfolding among numbers_from
none_below k i f [] h = refl
none_below k i f (m ∷ ms) h =
    let n : k < suc i = omega arith in
    miss k i (same f m.fate) (numbers_from (suc i) f ms) (ne_eqb k i (λ e. omega arith)) ∙ none_below k (suc i) f ms n

abbrev share : (Fate → Bool) → ℕ
share t = counted (t waiting) + counted (t in_flight) + counted (t acknowledged) + counted (t failed)

one_fate : (f : Fate) → share (λ g. same g f) ≡ 1
one_fate waiting = refl
one_fate in_flight = refl
one_fate acknowledged = refl
one_fate failed = refl

share_same : (t u : Fate → Bool) → ((f : Fate) → t f ≡ u f) → share t ≡ share u
share_same t u h =
    λ i. counted (h waiting i) + counted (h in_flight i) + counted (h acknowledged i) + counted (h failed i)

shares_at : (k i : ℕ) (m : Submission) (ms : List Submission) → k < suc i → eqb k i ≡ true → share (λ f. among k (numbers_from i f (m ∷ ms))) ≡ 1
unfolding numbers_from
shares_at k i m ms h e =
    share_same (λ f. among k (numbers_from i f (m ∷ ms))) (λ f. same f m.fate)
    (λ f. hit k i (same f m.fate) (numbers_from (suc i) f ms) e (none_below k (suc i) f ms h))
    ∙ one_fate m.fate

shares_past : (k i : ℕ) (m : Submission) (ms : List Submission) → eqb k i ≡ false → share (λ f. among k (numbers_from i f (m ∷ ms))) ≡ share (λ f. among k (numbers_from (suc i) f ms))
unfolding numbers_from
shares_past k i m ms e =
    share_same (λ f. among k (numbers_from i f (m ∷ ms))) (λ f. among k (numbers_from (suc i) f ms))
    (λ f. miss k i (same f m.fate) (numbers_from (suc i) f ms) e)

shares_by : (k i : ℕ) (m : Submission) (ms : List Submission) → i ≤ k → (b : Bool) → eqb k i ≡ b
    → ((suc i ≤ k) → share (λ f. among k (numbers_from (suc i) f ms)) ≡ 1) → share (λ f. among k (numbers_from i f (m ∷ ms))) ≡ 1
shares_by k i m ms h true e next = shares_at k i m ms (omega (arith, eqb-true k i e)) e
shares_by k i m ms h false e next =
    let ne : k ≡ i → ⊥ = eqb-false k i e in
    shares_past k i m ms e ∙ next (omega arith)

shares : (k i : ℕ) (ms : List Submission) → i ≤ k → k < i + length ms → share (λ f. among k (numbers_from i f ms)) ≡ 1
shares k i [] h l = absurd (omega arith)
shares k i (m ∷ ms) h l = shares_by k i m ms h (eqb k i) refl (λ p. shares k (suc i) ms p (omega arith))

-- The four add up.
abbrev sum4 : (Fate → ℕ) → ℕ
sum4 t = t waiting + t in_flight + t acknowledged + t failed

adds_up_none : sum4 (λ f. length (those f [])) ≡ 0
unfolding those
adds_up_none = refl

adds_up_by : (x : ℕ) (f : Fate) (ms : List Submission) → sum4 (λ g. length (those g ms)) ≡ length ms
    → sum4 (λ g. length (those g (submission x f ∷ ms))) ≡ length (submission x f ∷ ms)
unfolding those
adds_up_by x waiting ms h = omega arith
adds_up_by x in_flight ms h = omega arith
adds_up_by x acknowledged ms h = omega arith
adds_up_by x failed ms h = omega arith

-- Each submission is counted in one of the four.
pub adds_up : (ms : List Submission)
    → length (those waiting ms) + length (those in_flight ms) + length (those acknowledged ms) + length (those failed ms) ≡ length ms
adds_up [] = adds_up_none
adds_up (m ∷ ms) = adds_up_by m.commid m.fate ms (adds_up ms)

pub accounts : Accounts
accounts n es =
    let r = sorted n empty [] refl es in
    record {
      now_waiting = r.the_waiting;
      now_in_flight = r.the_one_in_flight;
      once_acknowledged = r.the_acknowledged;
      once_failed = r.the_failed;
      one_of_four = λ k h. shares k 0 (submissions (history (empty_bench n) es)) (omega arith) (omega arith);
      add_up = adds_up (submissions (history (empty_bench n) es));
      all_told = sym (λ i. length (r.the_waiting i) + length (r.the_one_in_flight i) + length (r.the_acknowledged i) + length (r.the_failed i))
          ∙ adds_up (submissions (history (empty_bench n) es));
    }
