-- No theorem about the sender is empty: for each a history or a run in which its hypotheses hold, computed, and what the theorem then says of it.
-- The history is that of the cases: 7 fails, 8 is acknowledged, 7 is used again and is in flight, 9 waits.
use Rattle.std.specs.Prelude.{Result, Ok, Err, Some, None}
use Prim.Native.Nat.{ℕ, zero, suc, ◌+◌, ◌≤◌, ◌<◌}
use mathlib.Core.Bool.{true, false}
use mathlib.Core.List.{List, [], ◌∷◌, ◌++◌}
use mathlib.Core.Option.{none, some}
use mathlib.Core.Path.{◌≡◌, refl, ap, sym, subst, ◌∙◌}
use lib.Dec.{lit<, lit≤}
use lib.ListN.{length, take, drop, replicate}
use Rattle.envelope.specs.Refusals.{plainly, Gives}
use Rattle.sender.specs.Accounts.{those, counted, numbers, in_slot}
use Rattle.sender.specs.History.{Line, line, waiting, in_flight, acknowledged, failed, fate, submission, submissions, history, final}
use Rattle.sender.specs.Order.{commids}
use Rattle.sender.specs.Queue.{Queue, empty_bench, Event, submit, ack, nak, time_out, sent, waits, settles, fails, refused, among, submitting, acking, naking, answering}
use Rattle.sender.specs.Reuse.{accepts, ends}
use Rattle.sender.specs.Runs.{Ran, begun, asked as call, Follows, Shown}
use Rattle.sender.specs.Sends.{sends, AllSent}
use Rattle.sender.specs.Told.{queue_of, stored, state_of, Starts, Answers}
use Rattle.sender.specs.declared.bench.Answer.TheVariants.{Sent, Waits, Settled, Failed}
use Rattle.sender.specs.declared.bench.Bench.{Bench}
use Rattle.sender.specs.declared.refusal.Refusal.{Refusal}
use Rattle.sender.specs.declared.refusal.Refusal.TheVariants.{Known, TooManyResends}
use Rattle.sheet.specs.SenderCases.{asked, told, nearly_full, full}
use Rattle.sheet.proofs.Apart.{apart}
use Rattle.sheet.proofs.SenderCases.{sender_cases}
use Rattle.sheet.proofs.Sending.{answers_as_queue, starts_empty, accounts, oldest_first, sends_are_counted, usable_at_once, usable_later, is_new, fates_stay, refusal_keeps, event_gives, full_first, then_known, not_in_flight, start_refuses, start_takes, what_became, event_for_c_is_event, event_leaves_the_bench, start_leaves_the_bench, storage_keeps_the_bench, run_is_history, usable_in_run, run_for_c_is_history, what_became_for_c, who_for_c}
use Rattle.sheet.proofs.Demand1.{refused_event_for_c_keeps, refused_start_for_c_keeps}
use Rattle.exports.specs.Senders.{reply_slots, SenderLent, sender_lent, queue_for, CountsWaitingForC, AnswersForC, StartsForC, StoresBench, AllCommids, RanForC, ShownForC, AskedForC}
use Rattle.exports.specs.Senders as c
use Rattle.exports.specs.Word.{slots, word}

-- ---- the history

pub nine_waits : those waiting (submissions told) ≡ 9 ∷ []
nine_waits = (accounts 2 asked).now_waiting ∙ ap (λ (q : Queue). q.waiting) sender_cases.held

-- the third submission is exactly one of the four
pub the_third_is_one_of_four : counted (among 2 (numbers waiting told)) + counted (among 2 (numbers in_flight told)) + counted (among 2 (numbers acknowledged told)) + counted (among 2 (numbers failed told)) ≡ 1
the_third_is_one_of_four = (accounts 2 asked).one_of_four 2 (more (sym (ap length sender_cases.became))) where
  more : ◌≡◌ {A = ℕ} 4 (length (submissions told)) → suc 2 ≤ length (submissions told)
  more e = subst (λ (n : ℕ). suc 2 ≤ n) e (lit≤ tt)

pub four_in_all : length (those waiting (submissions told)) + length (those in_flight (submissions told)) + length (those acknowledged (submissions told)) + length (those failed (submissions told)) ≡ 4
four_in_all = (accounts 2 asked).add_up ∙ ap length sender_cases.became

pub in_this_order : commids (submissions told) ≡ 7 ∷ 8 ∷ 7 ∷ 9 ∷ []
in_this_order =
    (oldest_first 2 asked).out_then_waiting ∙ (λ i. sender_cases.out i ++ (sender_cases.held i).waiting)

-- the first 7 failed: it was sent once and twice more
pub failed_after_three : suc (sends 7 (drop 1 told)) ≡ 3
unfolding history submitting acking naking among AllSent fate
failed_after_three = (sends_are_counted 2 asked).0

-- ---- a COMMID used again: 7, right after it failed; and 8, later

abbrev before_it_failed : List Event
before_it_failed = submit 7 ∷ submit 7 ∷ submit 8 ∷ nak 8 ∷ nak 7 ∷ time_out 7 ∷ []

seven_ends : ends (answering (nak 7) (final (empty_bench 2) before_it_failed)).reply ≡ true
unfolding final submitting acking naking among
seven_ends = refl

pub seven_at_once : accepts (answering (submit 7) (answering (nak 7) (final (empty_bench 2) before_it_failed)).after).reply ≡ true
seven_at_once = usable_at_once 2 before_it_failed (nak 7) seven_ends

none_waits : among 8 (those waiting (submissions told)) ≡ false
unfolding among
none_waits = ap (among 8) nine_waits

none_flies : among 8 (those in_flight (submissions told)) ≡ false
unfolding among
none_flies = ap (among 8) ((accounts 2 asked).now_in_flight ∙ ap (λ (q : Queue). in_slot q.slot) sender_cases.held)

few_wait : length (those waiting (submissions told)) < 16
few_wait = subst (λ (ws : List ℕ). length ws < 16) (sym nine_waits) (lit< tt)

pub eight_later : accepts (answering (submit 8) (final (empty_bench 2) asked)).reply ≡ true
eight_later = usable_later 2 asked 8 none_waits none_flies few_wait

pub one_more : submissions (told ++ (line (submit 8) waits ∷ [])) ≡ submissions told ++ (submission 8 waiting ∷ [])
one_more = is_new told 8 waits refl

-- the failed 7 stays failed, though 7 is in flight again
pub stays_failed : fate 7 true (drop 1 told) ≡ failed
unfolding history submitting acking naking among submissions fate
stays_failed = (fates_stay (take 7 told) (drop 7 told)).0.1 refl

-- ---- refusals

pub full_is_70 : (answering (submit 3) full).reply ≡ refused (plainly 70)
full_is_70 = full_first 3 full (lit≤ tt)

pub known_is_71 : (answering (submit 3) nearly_full).reply ≡ refused (plainly 71)
unfolding among
known_is_71 = then_known 3 nearly_full (lit< tt) refl

pub other_is_72 : (answering (time_out 3) full).reply ≡ refused (plainly 72)
other_is_72 = (not_in_flight 3 full refl).2

pub eleven_is_73 : ◌≡◌ {A = Result Bench Refusal} (Err TooManyResends) (Err TooManyResends)
eleven_is_73 = start_refuses 11 (Err TooManyResends) refl (lit< tt)

-- 10 is the most, and no refusal answers it
pub ten_meets_no_known : Starts 10 (Err Known) → ⊥
ten_meets_no_known = start_takes 10 Known (lit≤ tt)

-- ---- a run of the code with no resends: 7 goes out, and once more is refused; 8 waits; 7 times out and has failed, so 8 goes out; 8 is
-- acknowledged. The places held anything at the start.

abbrev anything : List ℕ
anything = replicate 16 5

abbrev start : Bench
start = record { resends = 0; flight = None; count = 0 }

abbrev flies : Bench
flies = record { resends = 0; flight = Some (record { commid = 7; left = 0 }); count = 0 }

abbrev beside_eight : Bench
beside_eight = record { resends = 0; flight = Some (record { commid = 7; left = 0 }); count = 1 }

abbrev eight_flies : Bench
eight_flies = record { resends = 0; flight = Some (record { commid = 8; left = 0 }); count = 0 }

went_out_lem : Answers (submit 7) start anything (Ok Sent) flies (stored [])
unfolding submitting among
went_out_lem = refl

turned_away : Answers (submit 7) flies (stored []) (Err Known) flies (stored [])
unfolding submitting among
turned_away = refl

waited_behind : Answers (submit 8) flies (stored []) (Ok Waits) beside_eight (stored (8 ∷ []))
unfolding submitting among
waited_behind = refl

timed_out : Answers (time_out 7) beside_eight (stored (8 ∷ [])) (Ok (Failed (Some 8))) eight_flies (stored [])
unfolding naking
timed_out = refl

was_settled : Answers (ack 8) eight_flies (stored []) (Ok (Settled None)) start (stored [])
unfolding acking
was_settled = refl

pub empty_at_the_start : queue_of (state_of anything start) ≡ empty_bench 0
empty_at_the_start = starts_empty 0 start anything refl

abbrev five_lines : List Line
five_lines =
    line (submit 7) sent ∷ line (submit 7) (refused (plainly 71)) ∷ line (submit 8) waits ∷ line (time_out 7) (fails (some 8)) ∷ line (ack 8) (settles none) ∷ []

pub this_run : Ran 0 five_lines start (stored [])
this_run =
    call
    (call
    (call
    (call (call (begun start anything refl) (submit 7) (Ok Sent) flies (stored []) went_out_lem) (submit 7) (Err Known) flies (stored []) turned_away)
    (submit 8) (Ok Waits) beside_eight (stored (8 ∷ [])) waited_behind)
    (time_out 7) (Ok (Failed (Some 8))) eight_flies (stored []) timed_out)
    (ack 8) (Ok (Settled None)) start (stored []) was_settled

pub shown : Shown 0 five_lines start (stored [])
shown = what_became 0 five_lines start (stored []) this_run

pub these_events : Follows 0 five_lines (queue_of (state_of (stored []) start))
these_events = run_is_history 0 five_lines start (stored []) this_run

-- 7 may be used again
seven_again : Answers (submit 7) start (stored []) (Ok Sent) flies (stored [])
unfolding submitting among
seven_again = refl

pub seven_in_the_run : accepts sent ≡ true
unfolding submissions fate among those
seven_in_the_run = usable_in_run 0 five_lines start (stored []) 7 (Ok Sent) flies (stored []) this_run refl refl (lit< tt) seven_again

pub kept_as_it_was : (◌≡◌ {A = List ℕ} (stored []) (stored [])) × (flies ≡ flies)
kept_as_it_was = refusal_keeps (submit 7) flies (stored []) (Err Known) flies (stored []) Known turned_away refl

pub gives_71 : Gives (70 ∷ 71 ∷ []) [] (plainly 71)
gives_71 = event_gives (submit 7) flies (stored []) (Err Known) flies (stored []) Known turned_away refl

pub the_queue_after : queue_of (state_of (stored []) flies) ≡ (answering (submit 7) (queue_of (state_of anything start))).after
the_queue_after = (answers_as_queue (submit 7) start anything (Ok Sent) flies (stored []) went_out_lem).1

-- ---- for C: the same two calls, and a start that is refused; numbers that no call leaves there are some bench too

abbrev lent_at_first : SenderLent
lent_at_first = sender_lent anything (0 ∷ 0 ∷ 5 ∷ 0 ∷ [])

abbrev lent_then : SenderLent
lent_then = sender_lent (stored []) (0 ∷ 0 ∷ 7 ∷ 1 ∷ [])

c_went_out : AnswersForC (submit 7) lent_at_first (word (slots 0 0 1 0)) lent_then
unfolding submitting among
c_went_out = (refl, refl)

pub c_says_so : word (slots 0 0 1 0) ≡ word (reply_slots sent)
c_says_so = (event_for_c_is_event (submit 7) start lent_at_first (word (slots 0 0 1 0)) lent_then (Ok Sent) flies (stored []) refl c_went_out went_out_lem).0

pub c_keeps_the_bench : StoresBench (0 ∷ 0 ∷ 7 ∷ 1 ∷ []) flies
c_keeps_the_bench = event_leaves_the_bench (submit 7) start lent_at_first (word (slots 0 0 1 0)) lent_then (Ok Sent) flies (stored []) refl c_went_out went_out_lem (lit< tt, (lit< tt, lit< tt))

c_turned_away : AnswersForC (submit 7) lent_then (word (slots 71 0 0 0)) lent_then
unfolding submitting among
c_turned_away = (refl, refl)

pub c_kept_as_it_was : lent_then ≡ lent_then
unfolding word
c_kept_as_it_was = refused_event_for_c_keeps (submit 7) lent_then (word (slots 71 0 0 0)) lent_then c_turned_away (apart 71 0 tt)

c_starts : StartsForC 0 (9 ∷ 9 ∷ 9 ∷ 9 ∷ []) (word (slots 0 0 0 0)) (0 ∷ 0 ∷ 0 ∷ 0 ∷ [])
c_starts = (refl, refl)

pub c_starts_with_the_bench : StoresBench (0 ∷ 0 ∷ 0 ∷ 0 ∷ []) start
c_starts_with_the_bench = start_leaves_the_bench 0 start (9 ∷ 9 ∷ 9 ∷ 9 ∷ []) (word (slots 0 0 0 0)) (0 ∷ 0 ∷ 0 ∷ 0 ∷ []) c_starts refl (lit< tt, tt)

-- 300 has more than eight bits, and is no smaller number for it
c_refuses_300 : StartsForC 300 (9 ∷ 9 ∷ 9 ∷ 9 ∷ []) (word (slots 73 0 0 0)) (9 ∷ 9 ∷ 9 ∷ 9 ∷ [])
c_refuses_300 = (refl, refl)

pub c_keeps_the_numbers : ◌≡◌ {A = List ℕ} (9 ∷ 9 ∷ 9 ∷ 9 ∷ []) (9 ∷ 9 ∷ 9 ∷ 9 ∷ [])
unfolding word
c_keeps_the_numbers = refused_start_for_c_keeps 300 (9 ∷ 9 ∷ 9 ∷ 9 ∷ []) (word (slots 73 0 0 0)) (9 ∷ 9 ∷ 9 ∷ 9 ∷ []) c_refuses_300 (apart 73 0 tt)

-- with the largest numbers that have room
pub c_stores_the_largest : StoresBench (255 ∷ 16 ∷ 4294967295 ∷ 256 ∷ []) (record { resends = 255; flight = Some (record { commid = 4294967295; left = 255 }); count = 16 })
c_stores_the_largest = storage_keeps_the_bench (record { resends = 255; flight = Some (record { commid = 4294967295; left = 255 }); count = 16 }) (lit< tt, (lit< tt, lit< tt))

-- ---- the same run from C

fives : (k : ℕ) → AllCommids (replicate k 5)
fives zero = tt
fives (suc k) = (lit< tt, fives k)

abbrev lent_empty : SenderLent
lent_empty = sender_lent anything (0 ∷ 0 ∷ 0 ∷ 0 ∷ [])

abbrev lent_beside_eight : SenderLent
lent_beside_eight = sender_lent (stored (8 ∷ [])) (0 ∷ 1 ∷ 7 ∷ 1 ∷ [])

abbrev lent_eight_flies : SenderLent
lent_eight_flies = sender_lent (stored []) (0 ∷ 0 ∷ 8 ∷ 1 ∷ [])

abbrev lent_at_the_end : SenderLent
lent_at_the_end = sender_lent (stored []) (0 ∷ 0 ∷ 0 ∷ 0 ∷ [])

c_went_out_then : AnswersForC (submit 7) lent_empty (word (slots 0 0 1 0)) lent_then
unfolding submitting among
c_went_out_then = (refl, refl)

c_waited_behind : AnswersForC (submit 8) lent_then (word (slots 0 0 2 0)) lent_beside_eight
unfolding submitting among
c_waited_behind = (refl, refl)

c_timed_out : AnswersForC (time_out 7) lent_beside_eight (word (slots 0 0 7 8)) lent_eight_flies
unfolding naking
c_timed_out = (refl, refl)

c_was_settled : AnswersForC (ack 8) lent_eight_flies (word (slots 0 0 3 0)) lent_at_the_end
unfolding acking
c_was_settled = (refl, refl)

pub this_run_from_c : RanForC 0 five_lines lent_at_the_end
unfolding submitting acking naking among word
this_run_from_c =
    c.asked
    (c.asked
    (c.asked
    (c.asked
    (c.asked (c.begun anything (9 ∷ 9 ∷ 9 ∷ 9 ∷ []) (word (slots 0 0 0 0)) (0 ∷ 0 ∷ 0 ∷ 0 ∷ []) (lit≤ tt) (fives 16) c_starts)
    (submit 7) (word (slots 0 0 1 0)) lent_then (lit< tt) c_went_out_then)
    (submit 7) (word (slots 71 0 0 0)) lent_then (lit< tt) c_turned_away)
    (submit 8) (word (slots 0 0 2 0)) lent_beside_eight (lit< tt) c_waited_behind)
    (time_out 7) (word (slots 0 0 7 8)) lent_eight_flies (lit< tt) c_timed_out)
    (ack 8) (word (slots 0 0 3 0)) lent_at_the_end (lit< tt) c_was_settled

pub shown_from_c : ShownForC 0 five_lines lent_at_the_end
shown_from_c = what_became_for_c 0 five_lines lent_at_the_end this_run_from_c

pub these_events_from_c : Follows 0 five_lines (queue_for lent_at_the_end)
these_events_from_c = run_for_c_is_history 0 five_lines lent_at_the_end this_run_from_c

-- and asked, it tells that none waits and that nothing is in flight, as the history does
pub asked_from_c : AskedForC five_lines lent_at_the_end
asked_from_c = who_for_c 0 five_lines lent_at_the_end this_run_from_c

pub none_waits_from_c : CountsWaitingForC lent_at_the_end (word (slots 0 0 0 0))
none_waits_from_c = refl

-- ---- all zeros is an empty sender with no resends

pub zeros_are_an_empty_sender : queue_for (sender_lent (replicate 16 0) (0 ∷ 0 ∷ 0 ∷ 0 ∷ [])) ≡ empty_bench 0
zeros_are_an_empty_sender = refl
