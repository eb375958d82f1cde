-- A run of calls from C is a run of the plain queue: what a call leaves in the storage is the queue after it, since no number there is ever cut.
use mathlib.Core.Bool.{Bool, true, false, cond}
use mathlib.Core.List.{List, [], ◌∷◌, ◌++◌}
use mathlib.Core.Path.{◌≡◌, refl, ap, sym, subst, ◌∙◌}
use Prim.Native.Nat.{ℕ, zero, suc, ◌-◌, ◌%◌, ◌≤◌, ◌<◌}
use native.Mathlib.Omega.{arith}
use borrow.Author.Tests.{le-ltb}
use lib.Dec.{eqb, leb}
use lib.ListN.{length, get_or, take, replicate}
use Rattle.sender.specs.History.{Line, line, commid_of, history, final}
use Rattle.sender.specs.Queue.{Slot, empty, holds, Queue, queue, empty_bench, Event, submit, ack, nak, time_out, Reply, sent, waits, settles, again, fails, refused, Outcome, outcome, refusal, among, known, placed, next, freed, is_in_flight, left, submitting, acking, naking, answering}
use Rattle.sender.specs.Sends.{AllSent}
use Rattle.sender.specs.Told.{Beside, beside, State, queue_of, keeping, leaving, StartAnswer, ready, starting}
use Rattle.sender.proofs.AccountLaws.{accounts}
use Rattle.sender.proofs.BoundLaws.{never_more}
use Rattle.sender.proofs.KeptLaws.{happening_queue}
use Rattle.sender.proofs.OrderLaws.{oldest_first}
use Rattle.sender.proofs.RunLaws.{history_end, final_end, accounted_by, ordered_by}
use Rattle.sender.proofs.SendLaws.{sends_are_counted}
use Rattle.exports.specs.Senders.{beside_for, sender_for, beside_numbers, numbers_after, SenderLent, happening_for, AnswersForC, reply_in, start_numbers, FlightFits, AllCommids, RanForC, begun, asked, queue_for, RunForCIsHistory, WhatBecameForC, WhoForC}
use Rattle.exports.specs.Word.{slots, word, unword}
use Rattle.exports.proofs.ReplyLaws.{word_tells_reply}
use Rattle.exports.proofs.SenderLaws.{beside_kept}

-- ---- COMMIDs of 32 bits, and resends of eight

commids_end : (l : List ℕ) (x : ℕ) → AllCommids l → x < 4294967296 → AllCommids (l ++ (x ∷ []))
commids_end [] x h k = (k, tt)
commids_end (y ∷ l) x h k = (h.0, commids_end l x h.1 k)

commids_zeros : (k : ℕ) → AllCommids (replicate k 0)
commids_zeros zero = tt
commids_zeros (suc k) = (omega arith, commids_zeros k)

commids-append : (l m : List ℕ) → AllCommids l → AllCommids m → AllCommids (l ++ m)
commids-append [] m h k = k
commids-append (x ∷ l) m h k = (h.0, commids-append l m h.1 k)

commids-take : (n : ℕ) (l : List ℕ) → AllCommids l → AllCommids (take n l)
commids-take zero l h = tt
commids-take (suc n) [] h = tt
commids-take (suc n) (x ∷ l) h = (h.0, commids-take n l h.1)

record Fit (q : Queue) : Type 0 where
  resends : q.resends < 256
  slot : FlightFits q.slot
  waiting : AllCommids q.waiting

either_fit : (b : Bool) (o o' : Outcome) → Fit o.after → Fit o'.after → Fit (cond b o o').after
either_fit true o o' h k = h
either_fit false o o' h k = k

placed_fit : (x n : ℕ) (s : Slot) (ws : List ℕ) → x < 4294967296 → Fit (queue n s ws) → Fit (placed x n s ws).after
placed_fit x n empty ws h f = record { resends = f.resends; slot = (h, f.resends); waiting = f.waiting }
placed_fit x n (holds y k) ws h f = record { resends = f.resends; slot = f.slot; waiting = commids_end ws x f.waiting h }

freed_fit : (n : ℕ) (ws : List ℕ) → n < 256 → AllCommids ws → Fit (freed n ws)
freed_fit n [] h a = record { resends = h; slot = tt; waiting = tt }
freed_fit n (w ∷ ws) h a = record { resends = h; slot = (a.0, h); waiting = a.1 }

left_small : (s : Slot) → FlightFits s → left s - 1 < 256
left_small empty h = omega arith
left_small (holds y k) h = omega (arith, h.1)

submit_fit : (x : ℕ) (q : Queue) → x < 4294967296 → Fit q → Fit (submitting x q).after
unfolding submitting
submit_fit x q h f =
    either_fit (leb 16 (length q.waiting)) (refusal 70 q) _ f
    (either_fit (among x (known q.slot q.waiting)) (refusal 71 q) _ f (placed_fit x q.resends q.slot q.waiting h f))

ack_fit : (x : ℕ) (q : Queue) → Fit q → Fit (acking x q).after
unfolding acking
ack_fit x q f =
    either_fit (is_in_flight x q.slot) (outcome (settles (next q.waiting)) (freed q.resends q.waiting)) (refusal 72 q)
    (freed_fit q.resends q.waiting f.resends f.waiting) f

nak_fit : (x : ℕ) (q : Queue) → x < 4294967296 → Fit q → Fit (naking x q).after
unfolding naking
nak_fit x q h f =
    either_fit (is_in_flight x q.slot) _ (refusal 72 q)
    (either_fit (eqb (left q.slot) 0) (outcome (fails (next q.waiting)) (freed q.resends q.waiting))
    (outcome again (queue q.resends (holds x (left q.slot - 1)) q.waiting))
    (freed_fit q.resends q.waiting f.resends f.waiting)
    (record { resends = f.resends; slot = (h, left_small q.slot f.slot); waiting = f.waiting }))
    f

answer_fit : (e : Event) (q : Queue) → commid_of e < 4294967296 → Fit q → Fit (answering e q).after
answer_fit (submit x) q h f = submit_fit x q h f
answer_fit (ack x) q h f = ack_fit x q f
answer_fit (nak x) q h f = nak_fit x q h f
answer_fit (time_out x) q h f = nak_fit x q h f

-- ---- the state, whatever the storage holds

flight_for_fits : (commid number : ℕ) (b : Bool) → FlightFits (cond b empty (holds (commid % 4294967296) ((number - 1) % 256)))
flight_for_fits commid number true = tt
flight_for_fits commid number false = (omega arith, omega arith)

stored_fit : (waiting numbers : List ℕ) → AllCommids waiting → Fit (queue_of (sender_for waiting numbers))
stored_fit waiting numbers a =
    record {
      resends = omega arith;
      slot = flight_for_fits (get_or numbers 2 0) (get_or numbers 3 0) (eqb (get_or numbers 3 0) 0);
      waiting = commids-take (get_or numbers 1 0) waiting a;
    }

-- what a call leaves: the places are COMMIDs again, and the numbers hold what stands beside them
record Left (r : Reply) (q : Queue) (s : State) (numbers : List ℕ) : Type 0 where
  places : AllCommids (leaving r q s).places
  numbers_hold : beside_for (numbers_after r (leaving r q s).beside numbers) ≡ (leaving r q s).beside

kept_left : (q : Queue) → Fit q → AllCommids (keeping q).places × (beside_for (beside_numbers (keeping q).beside) ≡ (keeping q).beside)
kept_left q f = (commids-append q.waiting (replicate (16 - length q.waiting) 0) f.waiting (commids_zeros (16 - length q.waiting)), beside_kept (keeping q).beside (f.resends, f.slot))

leaves : (r : Reply) (q : Queue) (waiting numbers : List ℕ) → Fit q → AllCommids waiting → Left r q (sender_for waiting numbers) numbers
leaves sent q waiting numbers f a = record { places = (kept_left q f).0; numbers_hold = (kept_left q f).1 }
leaves waits q waiting numbers f a = record { places = (kept_left q f).0; numbers_hold = (kept_left q f).1 }
leaves (settles o) q waiting numbers f a = record { places = (kept_left q f).0; numbers_hold = (kept_left q f).1 }
leaves again q waiting numbers f a = record { places = (kept_left q f).0; numbers_hold = (kept_left q f).1 }
leaves (fails o) q waiting numbers f a = record { places = (kept_left q f).0; numbers_hold = (kept_left q f).1 }
leaves (refused k) q waiting numbers f a = record { places = a; numbers_hold = refl }

-- ---- the run

record FollowsForC (n : ℕ) (ls : List Line) (l : SenderLent) : Type 0 where
  places : AllCommids l.waiting
  events : List Event
  lines : ls ≡ history (empty_bench n) events
  end : queue_for l ≡ final (empty_bench n) events

one_more : (n : ℕ) (ls : List Line) (entry : SenderLent) (e : Event) (r : ℕ) (exit : SenderLent) → commid_of e < 4294967296 → FollowsForC n ls entry
    → AnswersForC e entry r exit
    → FollowsForC n (ls ++ (line e (reply_in (unword r)) ∷ [])) exit
one_more n ls entry e r exit h f p =
    let x = p.1 in
    let s = sender_for entry.waiting entry.numbers in
    let o = answering e (queue_of s) in
    let l = leaves o.reply o.after entry.waiting entry.numbers (answer_fit e (queue_of s) h (stored_fit entry.waiting entry.numbers f.places)) f.places in
    let there : queue_for exit ≡ o.after =
    ap queue_for x
    ∙ ap (λ (b : Beside). queue_of (record { places = (happening_for e entry).state.places; beside = b })) l.numbers_hold
    ∙ happening_queue e s in
    let told : reply_in (unword r) ≡ o.reply = ap (λ (w : ℕ). reply_in (unword w)) p.0 ∙ word_tells_reply e (queue_of s) (stored_fit entry.waiting entry.numbers f.places).waiting in
    record {
      places = subst (λ (y : SenderLent). AllCommids y.waiting) (sym x) l.places;
      events = f.events ++ (e ∷ []);
      lines = (λ i. f.lines i ++ (line e (told i) ∷ [])) ∙ (λ i. history (empty_bench n) f.events ++ (line e (answering e (f.end i)).reply ∷ [])) ∙ sym (history_end (empty_bench n) f.events e);
      end = there ∙ ap (λ (q : Queue). (answering e q).after) f.end ∙ sym (final_end (empty_bench n) f.events e);
    }

started : (n : ℕ) → n ≤ 10 → (entry exit : List ℕ) → exit ≡ start_numbers (starting n) entry → beside_for exit ≡ beside n empty 0
started n h entry exit x =
    let told : starting n ≡ ready (beside n empty 0) = rw (le-ltb 10 n h) in
    ap beside_for (x ∙ ap (λ (a : StartAnswer). start_numbers a entry) told) ∙ beside_kept (beside n empty 0) (omega arith, tt)

follows : (n : ℕ) (ls : List Line) (l : SenderLent) → RanForC n ls l → FollowsForC n ls l
unfolding history final
follows n ls l (begun waiting entry r exit h a p) =
    record {
      places = a;
      events = [];
      lines = refl;
      end = ap (λ (b : Beside). queue_of (record { places = waiting; beside = b })) (started n h entry exit p.1);
    }
follows n ls l (asked {ls = ks} {entry = entry} run e r exit h p) = one_more n ks entry e r exit h (follows n ks entry run) p

pub run_for_c_is_history : RunForCIsHistory
run_for_c_is_history n ls l run = let f = follows n ls l run in record { events = f.events; lines = f.lines; end = f.end }

pub what_became_for_c : WhatBecameForC
what_became_for_c n ls l run =
    let f = follows n ls l run in
    record {
      few = subst (λ (x : Queue). length x.waiting ≤ 16) (sym f.end) (never_more n f.events);
      accounted = accounted_by (queue_for l) (final (empty_bench n) f.events) ls (history (empty_bench n) f.events) f.end f.lines (accounts n f.events);
      in_order = ordered_by (queue_for l) (final (empty_bench n) f.events) ls (history (empty_bench n) f.events) f.end f.lines (oldest_first n f.events);
      times_sent = subst (λ (ks : List Line). AllSent n ks) (sym f.lines) (sends_are_counted n f.events);
    }

-- ---- who waits, and who is in flight

take_back : (n : ℕ) (l : List ℕ) → take (length (take n l)) l ≡ take n l
take_back zero l = refl
take_back (suc n) [] = refl
take_back (suc n) (x ∷ l) = ap (λ (k : List ℕ). x ∷ k) (take_back n l)

pub who_for_c : WhoForC
who_for_c n ls l run =
    let a = (what_became_for_c n ls l run).accounted in
    record {
      count = λ r p. p ∙ ap (λ (ws : List ℕ). word (slots 0 0 (length ws) 0)) (sym a.now_waiting);
      first = ap (λ (ws : List ℕ). take (length ws) l.waiting) a.now_waiting ∙ take_back (beside_for l.numbers).count l.waiting ∙ sym a.now_waiting;
      flight = λ r p. (p, sym a.now_in_flight);
    }
