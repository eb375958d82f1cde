-- A run of the code is a run of the plain queue, so its history tells what became of each message.
use Prim.Native.Nat.{ℕ, ◌≤◌, ◌<◌}
use mathlib.Core.Bool.{Bool, true, false, cond}
use mathlib.Core.List.{List, [], ◌∷◌, ◌++◌}
use mathlib.Core.Path.{◌≡◌, refl, ap, sym, ◌∙◌, subst}
use lib.Dec.{ltb}
use lib.ListN.{length, take}
use native.Mathlib.Omega.{arith}
use borrow.Author.Tests.{ltb-false}
use Rattle.envelope.specs.Refusals.{plainly}
use Rattle.std.specs.Prelude.{Result, Ok}
use Rattle.sender.specs.Accounts.{those, Accounted}
use Rattle.sender.specs.History.{Line, line, waiting, in_flight, submissions, history, final}
use Rattle.sender.specs.Order.{InOrder}
use Rattle.sender.specs.Queue.{empty, Queue, queue, empty_bench, Event, submit, among, answering}
use Rattle.sender.specs.Reuse.{accepts}
use Rattle.sender.specs.Runs.{AnswersAsQueue, StartsEmpty, Ran, begun, asked, Follows, RunIsHistory, UsableInRun, Shown, WhatBecame}
use Rattle.sender.specs.Sends.{AllSent}
use Rattle.sender.specs.Told.{Beside, beside, queue_of, Happening, told_answer, told_bench, state_of, Answers, StartAnswer, ready, no_bench, Starts}
use Rattle.sender.specs.declared.bench.Bench.{Bench}
use Rattle.sender.specs.declared.bench.Answer.{Answer}
use Rattle.sender.specs.declared.refusal.Refusal.{Refusal}
use Rattle.sender.proofs.AccountLaws.{accounts}
use Rattle.sender.proofs.BoundLaws.{never_more}
use Rattle.sender.proofs.KeptLaws.{happening_queue}
use Rattle.sender.proofs.OrderLaws.{oldest_first}
use Rattle.sender.proofs.ReuseLaws.{usable_later}
use Rattle.sender.proofs.SendLaws.{sends_are_counted}

-- ---- one event more

pub history_end : (q : Queue) (es : List Event) (e : Event) → history q (es ++ (e ∷ [])) ≡ history q es ++ (line e (answering e (final q es)).reply ∷ [])
unfolding history final
history_end q [] e = refl
history_end q (d ∷ es) e = ap (λ (ls : List Line). line d (answering d q).reply ∷ ls) (history_end (answering d q).after es e)

pub final_end : (q : Queue) (es : List Event) (e : Event) → final q (es ++ (e ∷ [])) ≡ (answering e (final q es)).after
unfolding final
final_end q [] e = refl
final_end q (d ∷ es) e = final_end (answering d q).after es e

-- ---- one call

pub answers_as_queue : AnswersAsQueue
answers_as_queue e b entry r after exit p =
    (ap (λ (h : Happening). h.reply) p, ap (λ (h : Happening). queue_of h.state) p ∙ happening_queue e (state_of entry b))

-- ---- the start

beside_of : StartAnswer → Beside
beside_of (ready b) = b
beside_of (no_bench r) = beside 11 empty 0

-- a start that is not refused is the empty bench, with at most 10 resends
started : (n : ℕ) (b : Bench) → Starts n (Ok b) → (c : Bool) → ltb 10 n ≡ c → (told_bench b ≡ beside n empty 0) × (n ≤ 10)
unfolding beside_of
started n b p true e =
    let same : ready (told_bench b) ≡ no_bench (plainly 73) = p ∙ ap (λ (t : Bool). cond t (no_bench (plainly 73)) (ready (beside n empty 0))) e in
    let z : ◌≡◌ {A = ℕ} 0 1 = cc in
    absurd (omega arith)
started n b p false e =
    let same : ready (told_bench b) ≡ ready (beside n empty 0) = p ∙ ap (λ (t : Bool). cond t (no_bench (plainly 73)) (ready (beside n empty 0))) e in
    (ap beside_of same, ltb-false 10 n e)

pub starts_empty : StartsEmpty
starts_empty n b places p = ap (λ (x : Beside). queue x.resends x.slot (take x.count places)) (started n b p (ltb 10 n) refl).0

number-set : (n : ℕ) (ls : List Line) (b : Bench) (places : List ℕ) → Ran n ls b places → n ≤ 10
number-set n ls b places (begun d p s) = (started n d s (ltb 10 n) refl).1
number-set n ls b places (asked {ls = ks} {b = d} {entry = entry} run e r after exit p) = number-set n ks d entry run

-- ---- the run

one_more : (n : ℕ) (ls : List Line) (b : Bench) (entry : List ℕ) (e : Event) (r : Result Answer Refusal) (after : Bench) (exit : List ℕ)
    → Follows n ls (queue_of (state_of entry b)) → Answers e b entry r after exit
    → Follows n (ls ++ (line e (told_answer r) ∷ [])) (queue_of (state_of exit after))
one_more n ls b entry e r after exit f p =
    let asQueue = answers_as_queue e b entry r after exit p in
    let reply : told_answer r ≡ (answering e (final (empty_bench n) f.events)).reply =
    asQueue.0 ∙ ap (λ (q : Queue). (answering e q).reply) f.end in
    record {
      events = f.events ++ (e ∷ []);
      lines = (λ i. f.lines i ++ (line e (reply i) ∷ [])) ∙ sym (history_end (empty_bench n) f.events e);
      end = asQueue.1
          ∙ ap (λ (q : Queue). (answering e q).after) f.end
          ∙ sym (final_end (empty_bench n) f.events e);
    }

pub run_is_history : RunIsHistory
unfolding history final
run_is_history n ls b places (begun d p s) = record { events = []; lines = refl; end = starts_empty n d p s }
run_is_history n ls b places (asked {ls = ks} {b = d} {entry = entry} run e r after exit p) = one_more n ks d entry e r after exit (run_is_history n ks d entry run) p

pub accounted_by : (p q : Queue) (ks ls : List Line) → p ≡ q → ks ≡ ls → Accounted q ls → Accounted p ks
accounted_by p q ks ls e f a = rw (e, f) a

pub ordered_by : (p q : Queue) (ks ls : List Line) → p ≡ q → ks ≡ ls → InOrder q ls → InOrder p ks
ordered_by p q ks ls e f a = rw (e, f) a

shown_by : (n : ℕ) (ls : List Line) (b : Bench) (places : List ℕ) → n ≤ 10 → Follows n ls (queue_of (state_of places b)) → Shown n ls b places
shown_by n ls b places h f =
    let q = queue_of (state_of places b) in
    record {
      resends = h;
      few = subst (λ (x : Queue). length x.waiting ≤ 16) (sym f.end) (never_more n f.events);
      accounted = accounted_by q (final (empty_bench n) f.events) ls (history (empty_bench n) f.events) f.end f.lines (accounts n f.events);
      in_order = ordered_by q (final (empty_bench n) f.events) ls (history (empty_bench n) f.events) f.end f.lines (oldest_first n f.events);
      times_sent = subst (λ (ks : List Line). AllSent n ks) (sym f.lines) (sends_are_counted n f.events);
    }

pub what_became : WhatBecame
what_became n ls b places run = shown_by n ls b places (number-set n ls b places run) (run_is_history n ls b places run)

pub usable_in_run : UsableInRun
usable_in_run n ls b places x r after exit run w f few p =
    let h = run_is_history n ls b places run in
    let there : told_answer r ≡ (answering (submit x) (final (empty_bench n) h.events)).reply =
    (answers_as_queue (submit x) b places r after exit p).0 ∙ ap (λ (q : Queue). (answering (submit x) q).reply) h.end in
    ap accepts there
    ∙ usable_later n h.events x
    (sym (ap (λ (ks : List Line). among x (those waiting (submissions ks))) h.lines) ∙ w)
    (sym (ap (λ (ks : List Line). among x (those in_flight (submissions ks))) h.lines) ∙ f)
    (subst (λ (ks : List Line). length (those waiting (submissions ks)) < 16) h.lines few)
