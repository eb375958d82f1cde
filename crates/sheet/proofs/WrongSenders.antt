-- For each public function of the sender answers that a careless program would give, each refuted by computing.
-- Whatever else such an answer says: what is refuted is one number or one case of it.
use Prim.Native.Nat.{ℕ, zero, suc}
use Rattle.std.specs.Prelude as prelude
use Rattle.std.specs.Prelude.{Result, Ok, Err}
use mathlib.Core.List.{List, [], ◌∷◌, ◌++◌, map}
use mathlib.Core.Option.{Option, none, some}
use mathlib.Core.Path.{◌≡◌, ap, sym, ◌∙◌}
use lib.ListN.{length, get_or}
use Rattle.envelope.specs.Refusals.{RefusalNumbers, numbers_of}
use Rattle.sender.specs.Accounts.{rank}
use Rattle.sender.specs.History.{Fate, waiting, in_flight, acknowledged, failed, Submission, submission, submissions}
use Rattle.sender.specs.Queue.{left, ack, nak, submit, time_out, Reply, sent, waits, settles, again, fails, refused, among, submitting, acking, naking}
use Rattle.sender.specs.Told.{stored, Happening, told_flight, told_answer, StartAnswer, ready, no_bench, NumbersSenderRefusal, Starts, Answers, CountsWaiting}
use Rattle.sender.specs.declared.bench.Answer.{Answer}
use Rattle.sender.specs.declared.bench.Answer.TheVariants.{Waits, Settled, Again, Failed}
use Rattle.sender.specs.declared.bench.Bench.{Bench}
use Rattle.sender.specs.declared.bench.Flight.{Flight}
use Rattle.sender.specs.declared.refusal.Refusal.{Refusal}
use Rattle.sender.specs.declared.refusal.Refusal.TheVariants.{Full, Known, NotInFlight, TooManyResends}
use Rattle.exports.specs.Senders.{SenderLent, sender_lent, AnswersForC, StartsForC, CountsWaitingForC, TellsFlightForC}
use Rattle.exports.specs.Word.{slots, word}
use Rattle.sheet.specs.SenderCases.{one_to15, told}
use Rattle.sheet.proofs.Apart.{apart}
use Rattle.sheet.proofs.SenderCases.{sender_cases}

-- an answer as two numbers: its case, or a refusal's own number; and the COMMID that goes out next
abbrev case_of : Reply → ℕ
case_of sent = 1
case_of waits = 2
case_of (settles o) = 3
case_of again = 4
case_of (fails o) = 5
case_of (refused r) = (numbers_of r).number

abbrev or_none : Option ℕ → ℕ
or_none none = 0
or_none (some x) = x

abbrev next_of : Reply → ℕ
next_of sent = 0
next_of waits = 0
next_of (settles o) = or_none o
next_of again = 0
next_of (fails o) = or_none o
next_of (refused r) = 0

-- ---- the benches: 7 in flight with so many resends left, while 8 and 9 wait; 15 wait; 16 wait

abbrev busy : ℕ → Bench
busy left = record { resends = 2; flight = prelude.Some (record { commid = 7; left = left }); count = 2 }

abbrev eight_nine : List ℕ
eight_nine = stored (8 ∷ 9 ∷ [])

abbrev beside15 : Bench
beside15 = record { resends = 2; flight = prelude.Some (record { commid = 70; left = 2 }); count = 15 }

abbrev beside16 : Bench
beside16 = record { resends = 2; flight = prelude.Some (record { commid = 70; left = 2 }); count = 16 }

abbrev sixteen : List ℕ
sixteen = one_to15 ++ (16 ∷ [])

-- ---- newest first; and not the next at all, after an ACK or after a failure

pub the_oldest_goes_out : (r : Result Answer Refusal) (after : Bench) (exit : List ℕ) → r ≡ Ok (Settled (prelude.Some 9)) → Answers (ack 7) (busy 0) eight_nine r after exit → ⊥
unfolding acking
the_oldest_goes_out r after exit wrong kept = apart 9 8 tt (ap next_of (ap told_answer (sym wrong)) ∙ ap (λ (h : Happening). next_of h.reply) kept)

pub the_next_goes_out_after_a_failure : (r : Result Answer Refusal) (after : Bench) (exit : List ℕ) → r ≡ Ok (Failed prelude.None) → Answers (nak 7) (busy 0) eight_nine r after exit → ⊥
unfolding naking
the_next_goes_out_after_a_failure r after exit wrong kept = apart 0 8 tt (ap next_of (ap told_answer (sym wrong)) ∙ ap (λ (h : Happening). next_of h.reply) kept)

pub a_submission_waits_behind_the_others : (r : Result Answer Refusal) (after : Bench) (exit : List ℕ) → get_or exit 0 0 ≡ 10 → Answers (submit 10) (busy 0) eight_nine r after exit → ⊥
unfolding submitting among
a_submission_waits_behind_the_others r after exit wrong kept = apart 10 8 tt (sym wrong ∙ ap (λ (h : Happening). get_or h.state.places 0 0) kept)

-- ---- the one in flight counted among the 16; a 17th taken

pub in_flight_does_not_count : (r : Result Answer Refusal) (after : Bench) (exit : List ℕ) → r ≡ Err Full → Answers (submit 16) beside15 (stored one_to15) r after exit → ⊥
unfolding submitting among
in_flight_does_not_count r after exit wrong kept = apart 70 2 tt (ap case_of (ap told_answer (sym wrong)) ∙ ap (λ (h : Happening). case_of h.reply) kept)

pub no_seventeenth : (r : Result Answer Refusal) (after : Bench) (exit : List ℕ) → r ≡ Ok Waits → Answers (submit 17) beside16 sixteen r after exit → ⊥
unfolding submitting
no_seventeenth r after exit wrong kept = apart 2 70 tt (ap case_of (ap told_answer (sym wrong)) ∙ ap (λ (h : Happening). case_of h.reply) kept)

-- ---- 71 before 70; 71 for a COMMID that was settled; none for the one in flight

pub full_before_known : (r : Result Answer Refusal) (after : Bench) (exit : List ℕ) → r ≡ Err Known → Answers (submit 3) beside16 sixteen r after exit → ⊥
unfolding submitting
full_before_known r after exit wrong kept = apart 71 70 tt (ap case_of (ap told_answer (sym wrong)) ∙ ap (λ (h : Happening). case_of h.reply) kept)

-- 8 went out and was settled, and still stands behind those that wait
abbrev idle : Bench
idle = record { resends = 2; flight = prelude.None; count = 0 }

pub a_settled_one_is_not_known : (r : Result Answer Refusal) (after : Bench) (exit : List ℕ) → r ≡ Err Known → Answers (submit 8) idle eight_nine r after exit → ⊥
unfolding submitting among
a_settled_one_is_not_known r after exit wrong kept = apart 71 1 tt (ap case_of (ap told_answer (sym wrong)) ∙ ap (λ (h : Happening). case_of h.reply) kept)

-- nothing is in flight, and yet it waits; or it goes out with a resend too few or too many
pub it_goes_out_at_once : (r : Result Answer Refusal) (after : Bench) (exit : List ℕ) → r ≡ Ok Waits → Answers (submit 8) idle eight_nine r after exit → ⊥
unfolding submitting among
it_goes_out_at_once r after exit wrong kept = apart 2 1 tt (ap case_of (ap told_answer (sym wrong)) ∙ ap (λ (h : Happening). case_of h.reply) kept)

pub it_goes_out_with_all_its_resends : (r : Result Answer Refusal) (after : Bench) (exit : List ℕ) → after.flight ≡ prelude.Some (record { commid = 8; left = 1 }) → Answers (submit 8) idle eight_nine r after exit → ⊥
unfolding submitting among
it_goes_out_with_all_its_resends r after exit wrong kept =
    apart 1 2 tt (ap (λ (f : prelude.Option Flight). left (told_flight f)) (sym wrong) ∙ ap (λ (h : Happening). left h.state.beside.slot) kept)

pub it_goes_out_with_no_more_resends : (r : Result Answer Refusal) (after : Bench) (exit : List ℕ) → after.flight ≡ prelude.Some (record { commid = 8; left = 3 }) → Answers (submit 8) idle eight_nine r after exit → ⊥
unfolding submitting among
it_goes_out_with_no_more_resends r after exit wrong kept =
    apart 3 2 tt (ap (λ (f : prelude.Option Flight). left (told_flight f)) (sym wrong) ∙ ap (λ (h : Happening). left h.state.beside.slot) kept)

pub the_one_in_flight_is_known : (r : Result Answer Refusal) (after : Bench) (exit : List ℕ) → r ≡ Ok Waits → Answers (submit 7) (busy 0) eight_nine r after exit → ⊥
unfolding submitting among
the_one_in_flight_is_known r after exit wrong kept = apart 2 71 tt (ap case_of (ap told_answer (sym wrong)) ∙ ap (λ (h : Happening). case_of h.reply) kept)

-- ---- one resend too many, one too few; the next starts with the resends that the last one left

pub no_resend_too_many : (r : Result Answer Refusal) (after : Bench) (exit : List ℕ) → r ≡ Ok Again → Answers (nak 7) (busy 0) eight_nine r after exit → ⊥
unfolding naking
no_resend_too_many r after exit wrong kept = apart 4 5 tt (ap case_of (ap told_answer (sym wrong)) ∙ ap (λ (h : Happening). case_of h.reply) kept)

pub no_resend_too_few : (r : Result Answer Refusal) (after : Bench) (exit : List ℕ) (o : prelude.Option ℕ) → r ≡ Ok (Failed o) → Answers (time_out 7) (busy 1) eight_nine r after exit → ⊥
unfolding naking
no_resend_too_few r after exit o wrong kept = apart 5 4 tt (ap case_of (ap told_answer (sym wrong)) ∙ ap (λ (h : Happening). case_of h.reply) kept)

pub each_has_all_its_resends : (r : Result Answer Refusal) (after : Bench) (exit : List ℕ) → after.flight ≡ prelude.Some (record { commid = 8; left = 0 }) → Answers (nak 7) (busy 0) eight_nine r after exit → ⊥
unfolding naking
each_has_all_its_resends r after exit wrong kept =
    apart 0 2 tt (ap (λ (f : prelude.Option Flight). left (told_flight f)) (sym wrong) ∙ ap (λ (h : Happening). left h.state.beside.slot) kept)

pub a_resend_is_counted : (r : Result Answer Refusal) (after : Bench) (exit : List ℕ) → after.flight ≡ prelude.Some (record { commid = 7; left = 2 }) → Answers (nak 7) (busy 2) eight_nine r after exit → ⊥
unfolding naking
a_resend_is_counted r after exit wrong kept =
    apart 2 1 tt (ap (λ (f : prelude.Option Flight). left (told_flight f)) (sym wrong) ∙ ap (λ (h : Happening). left h.state.beside.slot) kept)

-- ---- an ACK of another; a time-out that is nobody's

pub an_ack_of_another_settles_nothing : (r : Result Answer Refusal) (after : Bench) (exit : List ℕ) (o : prelude.Option ℕ) → r ≡ Ok (Settled o) → Answers (ack 8) (busy 0) eight_nine r after exit → ⊥
unfolding acking
an_ack_of_another_settles_nothing r after exit o wrong kept = apart 3 72 tt (ap case_of (ap told_answer (sym wrong)) ∙ ap (λ (h : Happening). case_of h.reply) kept)

pub a_time_out_has_a_commid : (r : Result Answer Refusal) (after : Bench) (exit : List ℕ) → r ≡ Ok Again → Answers (time_out 8) (busy 2) eight_nine r after exit → ⊥
unfolding naking
a_time_out_has_a_commid r after exit wrong kept = apart 4 72 tt (ap case_of (ap told_answer (sym wrong)) ∙ ap (λ (h : Happening). case_of h.reply) kept)

pub a_time_out_is_not_ignored : (r : Result Answer Refusal) (after : Bench) (exit : List ℕ) → after.flight ≡ prelude.Some (record { commid = 7; left = 2 }) → Answers (time_out 7) (busy 2) eight_nine r after exit → ⊥
unfolding naking
a_time_out_is_not_ignored r after exit wrong kept =
    apart 2 1 tt (ap (λ (f : prelude.Option Flight). left (told_flight f)) (sym wrong) ∙ ap (λ (h : Happening). left h.state.beside.slot) kept)

-- ---- the one in flight counted among those that wait

pub waiting_leaves_out_the_one_in_flight : CountsWaiting (busy 0) eight_nine 3 → ⊥
waiting_leaves_out_the_one_in_flight kept = apart 3 2 tt kept.0

-- ---- a refusal that changes what is lent; a COMMID left behind those that wait

pub a_refusal_writes_nothing : (r : Result Answer Refusal) (after : Bench) (exit : List ℕ) → get_or exit 0 0 ≡ 9 → Answers (ack 8) (busy 0) eight_nine r after exit → ⊥
unfolding acking
a_refusal_writes_nothing r after exit wrong kept = apart 9 8 tt (sym wrong ∙ ap (λ (h : Happening). get_or h.state.places 0 0) kept)

pub nothing_is_left_behind : (r : Result Answer Refusal) (after : Bench) (exit : List ℕ) → get_or exit 1 0 ≡ 9 → Answers (ack 7) (busy 0) eight_nine r after exit → ⊥
unfolding acking
nothing_is_left_behind r after exit wrong kept = apart 9 0 tt (sym wrong ∙ ap (λ (h : Happening). get_or h.state.places 1 0) kept)

-- ---- the start: 11 taken, 10 refused, fewer resends set than asked for

abbrev start_of : StartAnswer → ℕ
start_of (ready b) = b.resends
start_of (no_bench r) = (numbers_of r).number

pub eleven_is_refused : (b : Bench) → b.resends ≡ 11 → Starts 11 (Ok b) → ⊥
eleven_is_refused b wrong kept = apart 11 73 tt (sym wrong ∙ ap start_of kept)

pub ten_is_taken : Starts 10 (Err TooManyResends) → ⊥
ten_is_taken kept = apart 73 10 tt (ap start_of kept)

pub as_many_as_asked : (b : Bench) → b.resends ≡ 2 → Starts 3 (Ok b) → ⊥
as_many_as_asked b wrong kept = apart 2 3 tt (sym wrong ∙ ap start_of kept)

-- ---- numbers: a refusal told as its neighbour

pub full_is_not_71 : NumbersSenderRefusal Full (record { number = 71; reading = 0; place = 0 }) → ⊥
full_is_not_71 kept = apart 71 70 tt (ap (λ (n : RefusalNumbers). n.number) kept)

pub a_sender_refusal_is_not_of_reading : NumbersSenderRefusal NotInFlight (record { number = 72; reading = 1; place = 0 }) → ⊥
a_sender_refusal_is_not_of_reading kept = apart 1 0 tt (ap (λ (n : RefusalNumbers). n.reading) kept)

-- ---- a fate lost when a COMMID is used again: no function of the COMMID alone tells what became of each

abbrev four_of_them : List Submission
four_of_them = submission 7 failed ∷ submission 8 acknowledged ∷ submission 7 in_flight ∷ submission 9 waiting ∷ []

unfoldable rank_at : ℕ → List Submission → ℕ
rank_at n [] = 9
rank_at zero (m ∷ ms) = rank m.fate
rank_at (suc n) (m ∷ ms) = rank_at n ms

pub a_commid_is_not_a_submission : (f : ℕ → Fate) → submissions told ≡ map (λ (m : Submission). submission m.commid (f m.commid)) (submissions told) → ⊥
unfolding rank_at
a_commid_is_not_a_submission f wrong =
    let same : submissions told ≡ map (λ (m : Submission). submission m.commid (f m.commid)) four_of_them =
    wrong ∙ ap (map (λ (m : Submission). submission m.commid (f m.commid))) sender_cases.became in
    let first : 3 ≡ rank (f 7) = ap (rank_at 0) (sym sender_cases.became ∙ same) in
    let third : 1 ≡ rank (f 7) = ap (rank_at 2) (sym sender_cases.became ∙ same) in
    apart 3 1 tt (first ∙ sym third)

-- and no book that has one entry for a COMMID
pub three_are_too_few : length (submissions told) ≡ 3 → ⊥
three_are_too_few wrong = apart 3 4 tt (sym wrong ∙ ap length sender_cases.became)

-- ---- for C: a next one left out of the word; a refusal that writes; 300 resends taken for 44

abbrev lent7 : SenderLent
lent7 = sender_lent eight_nine (2 ∷ 2 ∷ 7 ∷ 1 ∷ [])

pub c_names_the_next : (exit : SenderLent) → AnswersForC (ack 7) lent7 (word (slots 0 0 3 0)) exit → ⊥
unfolding acking word
c_names_the_next exit kept = apart 196608 34360000512 tt kept.0

pub c_tells_failed_from_settled : (exit : SenderLent) → AnswersForC (nak 7) lent7 (word (slots 0 0 4 8)) exit → ⊥
unfolding naking word
c_tells_failed_from_settled exit kept = apart 34360000512 34360197120 tt kept.0

pub c_refusals_write_nothing : (r : ℕ) (exit : SenderLent) → get_or exit.numbers 1 0 ≡ 1 → AnswersForC (ack 8) lent7 r exit → ⊥
unfolding acking
c_refusals_write_nothing r exit wrong kept = apart 1 2 tt (sym wrong ∙ ap (λ (l : SenderLent). get_or l.numbers 1 0) kept.1)

pub c_counts_those_that_wait : (r : ℕ) (exit : SenderLent) → get_or exit.numbers 1 0 ≡ 2 → AnswersForC (ack 7) lent7 r exit → ⊥
unfolding acking
c_counts_those_that_wait r exit wrong kept = apart 2 1 tt (sym wrong ∙ ap (λ (l : SenderLent). get_or l.numbers 1 0) kept.1)

pub c_300_is_not_44 : (exit : List ℕ) → StartsForC 300 (0 ∷ 0 ∷ 0 ∷ 0 ∷ []) (word (slots 0 0 0 0)) exit → ⊥
unfolding word
c_300_is_not_44 exit kept = apart 0 73 tt kept.0

pub c_starts_empty : (r : ℕ) (exit : List ℕ) → get_or exit 1 0 ≡ 4 → StartsForC 2 (9 ∷ 4 ∷ 9 ∷ 9 ∷ []) r exit → ⊥
c_starts_empty r exit wrong kept = apart 4 0 tt (sym wrong ∙ ap (λ (l : List ℕ). get_or l 1 0) kept.1)

pub c_waiting_leaves_out_the_one_in_flight : CountsWaitingForC lent7 (word (slots 0 0 3 0)) → ⊥
unfolding word
c_waiting_leaves_out_the_one_in_flight kept = apart 196608 131072 tt kept

pub c_flight_without_a_resend_is_no_empty_slot : TellsFlightForC (2 ∷ 2 ∷ 7 ∷ 1 ∷ []) (word (slots 0 0 0 7)) → ⊥
unfolding word
c_flight_without_a_resend_is_no_empty_slot kept = apart 30064771072 30064836608 tt kept

pub c_submits_at_once : (exit : SenderLent) → AnswersForC (submit 7) (sender_lent eight_nine (2 ∷ 0 ∷ 0 ∷ 0 ∷ [])) (word (slots 0 0 2 0)) exit → ⊥
unfolding submitting among word
c_submits_at_once exit kept = apart 131072 65536 tt kept.0

pub c_times_out : (exit : SenderLent) → AnswersForC (time_out 7) lent7 (word (slots 0 0 5 0)) exit → ⊥
unfolding naking word
c_times_out exit kept = apart 327680 34360197120 tt kept.0
