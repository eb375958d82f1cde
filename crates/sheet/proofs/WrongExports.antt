-- For each promise of the C interface two answers that a careless program would give, each refuted by computing.
-- `morlewen_crc`, `morlewen_distance` and `morlewen_frame_first` promise what `crc`, `distance` and `first` do; their wrong answers stand in WrongAnswers and WrongFrames.
use mathlib.Core.List.{List, [], ◌∷◌}
use mathlib.Core.Path.{ap, ◌∙◌}
use Prim.Native.Nat.{ℕ, ◌+◌, ◌*◌, ◌-◌}
use lib.ListN.{take, set, get_or, replicate}
use Rattle.envelope.specs.Fields.{Answer}
use Rattle.envelope.specs.Lateness.{lateness_of}
use Rattle.envelope.specs.Qos.{splitting, joining}
use Rattle.envelope.specs.Sequence.{steps_on}
use Rattle.envelope.specs.Writing.{WriteOutcome, answer_to_writing, after_writing}
use Rattle.golden.specs.Checking.{CheckAnswer, checking}
use Rattle.golden.specs.Comparing.{comparing, after_comparing}
use Rattle.golden.specs.Comparing as compare
use Rattle.golden.specs.File.{bad_file}
use Rattle.golden.specs.Finding.{find_from, finding}
use Rattle.golden.specs.Listing.{CountAnswer, counting, counting_retired, EntryAnswer, entry_at}
use Rattle.golden.specs.Making.{making, record_of}
use Rattle.golden.specs.Retiring.{marked, retiring}
use Rattle.golden.specs.Stepping.{StepAnswer, step_at, next_after}
use Rattle.feed.specs.Feeding.{State, refused as refusedStand, FeedOutcome, ending}
use Rattle.feed.specs.Verdict.{too_long}
use Rattle.frame.specs.Unwrapping.{UnwrapAnswer}
use Rattle.frame.specs.Wrapping.{WrapOutcome}
use Rattle.frame.specs.Wrapping as frame
use Rattle.envelope.specs.Flags.{bad_flags}
use Rattle.judge.specs.Rules.{least_rule, version_rule, flags_rule, addresses_rule}
use Rattle.exports.specs.Envelopes.{read_slots, fields_after, ReadsForC, write_slots, WritesForC, RewritesForC, qos_for, SplitsForC, JoinsForC, JudgesLatenessForC, JudgesSequenceForC}
use Rattle.exports.specs.Feeds.{found_slots, Lent, lent, lent_after, TakesForC, EndsForC, RestartsForC, HoldsForC}
use Rattle.exports.specs.Frames.{unwrap_slots, commids_after, message_fields, FrameLent, lent_for, UnwrapsForC, wrap_slots, WrapsForC, AcknowledgesForC}
use Rattle.exports.specs.Goldens.{count_slots, CountsForC, CountsRetiredForC, check_slots, ChecksForC, name_for, FindsForC, line_slots, EntersForC, step_slots, StepsForC, ComparesForC, MakesForC, RetiresForC}
use Rattle.exports.specs.Verdicts.{JudgesForC, VerdictLent, verdict_lent, JudgesPlacesForC}
use Rattle.exports.specs.Word.{slots, word, sized}
use Rattle.sheet.specs.Cases.{M}
use Rattle.sheet.specs.SmallFiles.{withdrawn}
use Rattle.sheet.specs.FeedCases.{held_by, announcing511}
use Rattle.sheet.specs.FrameCases.{held, reply}
use Rattle.sheet.proofs.Apart.{apart}
use Rattle.sheet.proofs.RetiredCases.{retirings}
use Rattle.sheet.proofs.Cases.{starred}
use Rattle.sheet.proofs.FeedCases.{feed_cases}
use Rattle.sheet.proofs.FrameCases.{unwrap_cases, wrap_cases}
use Rattle.sheet.proofs.OneFeed.{new_feed}
use Rattle.sheet.proofs.WrongAnswers.{given_m, writes_M}
use Rattle.sheet.proofs.WrongGolden.{checks_M}

-- ---- read: all turned away; fields written on a refusal

pub read_for_c_does_not_turn_all_away : (entry exit : List ℕ) → ReadsForC M entry 1 exit → ⊥
unfolding word
read_for_c_does_not_turn_all_away entry exit kept =
    apart 1 0 tt (kept.0 ∙ ap (λ (a : Answer). word (read_slots a)) starred.a.0)

pub read_for_c_keeps_the_fields_on_a_refusal : ReadsForC (take 20 M) (9 ∷ []) 1 (0 ∷ []) → ⊥
read_for_c_keeps_the_fields_on_a_refusal kept =
    apart 0 9 tt (ap (λ (s : List ℕ). get_or s 0 0) (kept.1 ∙ ap (λ (a : Answer). fields_after a (9 ∷ [])) starred.b))

-- ---- write: nothing touched; done with no length

pub write_for_c_does_not_touch_nothing : (r : ℕ) → WritesForC given_m (replicate 21 0) r (replicate 21 0) → ⊥
write_for_c_does_not_touch_nothing r kept =
    apart 0 4 tt (ap (λ (s : List ℕ). get_or s 0 0) (kept.1 ∙ ap (λ (o : WriteOutcome). after_writing o (replicate 21 0)) writes_M))

pub write_for_c_tells_the_length : (exit : List ℕ) → WritesForC given_m (replicate 21 0) 0 exit → ⊥
unfolding word
write_for_c_tells_the_length exit kept =
    apart 0 (21 * 4294967296) tt (kept.0 ∙ ap (λ (o : WriteOutcome). word (write_slots (answer_to_writing o))) writes_M)

-- ---- rewrite: nothing touched; what reading refuses

pub rewrite_for_c_does_not_touch_nothing : (r : ℕ) → RewritesForC M (replicate 21 0) r (replicate 21 0) → ⊥
rewrite_for_c_does_not_touch_nothing r kept =
    apart 0 4 tt (ap (λ (s : List ℕ). get_or s 0 0) (rw starred.a.0 at kept.1))

pub rewrite_for_c_refuses_what_read_refuses : (exit : List ℕ) → RewritesForC (take 20 M) (replicate 21 0) 0 exit → ⊥
unfolding word
rewrite_for_c_refuses_what_read_refuses exit kept = apart 0 (1 + 20 * 4294967296) tt (rw starred.b at kept.0)

-- ---- QoS: nothing written; the priority as the class; a number that does not fit; 41 for all

pub split_for_c_does_not_touch_nothing : SplitsForC 8 (0 ∷ 0 ∷ 0 ∷ 0 ∷ 0 ∷ []) → ⊥
unfolding splitting
split_for_c_does_not_touch_nothing kept = apart 0 1 tt (ap (λ (s : List ℕ). get_or s 3 0) kept)

pub split_for_c_tells_priority_from_class : SplitsForC 8 (0 ∷ 0 ∷ 0 ∷ 0 ∷ 1 ∷ []) → ⊥
unfolding splitting
split_for_c_tells_priority_from_class kept = apart 1 0 tt (ap (λ (s : List ℕ). get_or s 4 0) kept)

pub join_for_c_refuses_what_does_not_fit : JoinsForC (qos_for 8 0 0 0 0) 0 → ⊥
unfolding joining word
join_for_c_refuses_what_does_not_fit kept = apart 0 41 tt kept

pub join_for_c_does_not_refuse_all : JoinsForC (qos_for 0 0 0 1 0) 41 → ⊥
unfolding joining word
join_for_c_does_not_refuse_all kept = apart 41 (8 * 4294967296) tt kept

-- ---- lateness and sequence: never late; a clock that is not there; a blank TTL that is late; a sum that runs round; a repeat for the next; ahead for behind

pub lateness_for_c_tells_late : JudgesLatenessForC 1 10 100 111 0 → ⊥
unfolding lateness_of
lateness_for_c_tells_late kept = apart 0 1 tt kept

pub lateness_for_c_needs_a_variable_header : JudgesLatenessForC 0 10 100 0 0 → ⊥
unfolding lateness_of
lateness_for_c_needs_a_variable_header kept = apart 0 2 tt kept

pub lateness_for_c_needs_a_ttl : JudgesLatenessForC 1 0 100 101 1 → ⊥
unfolding lateness_of
lateness_for_c_needs_a_ttl kept = apart 1 2 tt kept

pub lateness_for_c_does_not_run_round : JudgesLatenessForC 1 1 18446744073709551615 1 1 → ⊥
unfolding lateness_of
lateness_for_c_does_not_run_round kept = apart 1 0 tt kept

pub sequence_for_c_tells_the_next : JudgesSequenceForC 4294967295 0 0 → ⊥
unfolding steps_on word
sequence_for_c_tells_the_next kept = apart 0 (65536 + 4294967296) tt kept

pub sequence_for_c_tells_behind_from_ahead : JudgesSequenceForC 0 2147483648 (word (slots 0 0 2 2147483648)) → ⊥
unfolding steps_on word
sequence_for_c_tells_behind_from_ahead kept =
    apart (2 * 65536 + 2147483648 * 4294967296) (3 * 65536 + 2147483648 * 4294967296) tt kept

-- ---- count and check: one byte told as no records; the empty file refused; a good file told as none

pub count_for_c_refuses_one_byte : CountsForC (7 ∷ []) 0 → ⊥
unfolding counting bad_file word
count_for_c_refuses_one_byte kept = apart 0 21 tt kept

pub count_for_c_takes_the_empty_file : CountsForC [] 21 → ⊥
unfolding counting bad_file word
count_for_c_takes_the_empty_file kept = apart 21 0 tt kept

pub check_for_c_refuses_one_byte : ChecksForC (7 ∷ []) 0 → ⊥
unfolding checking bad_file word
check_for_c_refuses_one_byte kept = apart 0 21 tt kept

pub check_for_c_counts_its_records : ChecksForC (record_of M) 0 → ⊥
unfolding word
check_for_c_counts_its_records kept =
    apart 0 65536 tt (kept ∙ ap (λ (a : CheckAnswer). word (check_slots a)) checks_M)

-- ---- find: a record invented; an opened record invented

pub find_for_c_invents_no_record : FindsForC [] (name_for 6000 1) 0 → ⊥
unfolding finding find_from bad_file word
find_for_c_invents_no_record kept = apart 0 27 tt kept

pub find_for_c_invents_no_opened_record : FindsForC [] (name_for 6000 1) (word (slots 27 0 1 0)) → ⊥
unfolding finding find_from bad_file word
find_for_c_invents_no_opened_record kept = apart (27 + 65536) 27 tt kept

-- ---- a line: the file's refusal passed over; numbers written on a refusal

pub line_for_c_refuses_the_file_first : (exit : List ℕ) → EntersForC (7 ∷ []) 0 (9 ∷ []) 22 exit → ⊥
unfolding entry_at bad_file word
line_for_c_refuses_the_file_first exit kept = apart 22 21 tt kept.0

pub line_for_c_keeps_the_numbers_on_a_refusal : EntersForC [] 0 (9 ∷ []) 22 (0 ∷ []) → ⊥
unfolding entry_at bad_file
line_for_c_keeps_the_numbers_on_a_refusal kept = apart 0 9 tt (ap (λ (s : List ℕ). get_or s 0 0) kept.1)

-- ---- step: on past the end; a part written at the end

pub step_for_c_stays_at_the_end : (exit : List ℕ) → StepsForC [] 0 (9 ∷ []) (word (slots 0 0 1 0)) exit → ⊥
unfolding step_at next_after bad_file word
step_for_c_stays_at_the_end exit kept = apart 65536 0 tt kept.0

pub step_for_c_keeps_the_part_at_the_end : StepsForC [] 0 (9 ∷ []) 0 (0 ∷ []) → ⊥
unfolding step_at bad_file
step_for_c_keeps_the_part_at_the_end kept = apart 0 9 tt (ap (λ (s : List ℕ). get_or s 0 0) kept.1)

-- ---- compare: a record that is not there told as same; a place listed on a refusal

pub compare_for_c_refuses_no_record : (exit : List ℕ) → ComparesForC [] 0 M (9 ∷ []) 0 exit → ⊥
unfolding comparing compare.answer_to_comparing bad_file word
compare_for_c_refuses_no_record exit kept = apart 0 22 tt kept.0

pub compare_for_c_lists_nothing_on_a_refusal : ComparesForC [] 0 M (9 ∷ []) 22 (0 ∷ []) → ⊥
unfolding comparing after_comparing bad_file
compare_for_c_lists_nothing_on_a_refusal kept = apart 0 9 tt (ap (λ (s : List ℕ). get_or s 0 0) kept.1)

-- ---- make: a buffer that is too short told as made; a message that reading refuses

pub make_for_c_refuses_a_short_buffer : (exit : List ℕ) → MakesForC M [] 0 exit → ⊥
unfolding making word
make_for_c_refuses_a_short_buffer exit kept = apart 0 35 tt (rw starred.a.0 at kept.0)

pub make_for_c_tells_what_reading_said : (exit : List ℕ) → MakesForC (take 20 M) [] (34 + 20 * 4294967296) exit → ⊥
unfolding making word
make_for_c_tells_what_reading_said exit kept = apart (34 + 20 * 4294967296) (34 + 256 + 20 * 4294967296) tt (rw starred.b at kept.0)

-- ---- retire: one byte told as retired; the buffer written on a refusal

pub retire_for_c_refuses_one_byte : (entry exit : List ℕ) → RetiresForC (7 ∷ []) 0 entry 0 exit → ⊥
unfolding retiring bad_file word
retire_for_c_refuses_one_byte entry exit kept = apart 0 21 tt kept.0

pub retire_for_c_writes_nothing_on_a_refusal : RetiresForC [] 0 (9 ∷ []) 22 (0 ∷ []) → ⊥
unfolding retiring bad_file
retire_for_c_writes_nothing_on_a_refusal kept = apart 0 9 tt (ap (λ (s : List ℕ). get_or s 0 0) kept.1)

-- ---- the count of the retired: one byte told as a file; a retired record told as live

pub retired_records_for_c_refuses_one_byte : CountsRetiredForC (7 ∷ []) 0 → ⊥
unfolding counting_retired bad_file word
retired_records_for_c_refuses_one_byte kept = apart 0 21 tt kept

pub retired_records_for_c_tells_how_many : CountsRetiredForC withdrawn 0 → ⊥
unfolding word
retired_records_for_c_tells_how_many kept = apart 0 65536 tt (kept ∙ ap (λ (a : CountAnswer). word (count_slots a)) retirings.counts_retired)

-- ---- line and step: a retired record told as a live one

pub line_for_c_tells_that_it_is_retired : (entry exit : List ℕ) → EntersForC withdrawn 0 entry 0 exit → ⊥
unfolding word
line_for_c_tells_that_it_is_retired entry exit kept = apart 0 256 tt (kept.0 ∙ ap (λ (a : EntryAnswer). word (line_slots a)) retirings.lists_retired)

pub step_for_c_tells_that_it_is_retired : (entry exit : List ℕ) → StepsForC withdrawn 0 entry (65536 + 21 * 4294967296) exit → ⊥
unfolding word next_after bad_file record_of marked
step_for_c_tells_that_it_is_retired entry exit kept =
    apart (65536 + 21 * 4294967296) (256 + 65536 + 21 * 4294967296) tt (kept.0 ∙ ap (λ (a : StepAnswer). word (step_slots a (next_after withdrawn 0 - 0))) retirings.steps_retired)

-- 17 bytes that announce 511 are in, and 51 stands
abbrev refused_feed : State
refused_feed = held_by (take 17 announcing511) (refusedStand too_long)

-- ---- the judge: the number of reading told as a refusal; a rule that was not judged told as kept; a broken one told as kept

pub judge_for_c_is_no_refusal : (exit : List ℕ) → JudgesForC (3 ∷ []) (1 + 4294967296) exit → ⊥
unfolding least_rule word
judge_for_c_is_no_refusal exit kept = apart (1 + 4294967296) (256 + 4294967296) tt kept.0

pub judge_for_c_tells_not_judged_from_kept : (r : ℕ) → JudgesForC M r (0 ∷ 0 ∷ 0 ∷ 0 ∷ 0 ∷ 0 ∷ 0 ∷ []) → ⊥
unfolding addresses_rule
judge_for_c_tells_not_judged_from_kept r kept = apart 0 2 tt (ap (λ (s : List ℕ). get_or s 5 0) kept.1)

pub judge_for_c_tells_what_is_broken : (r : ℕ) → JudgesForC (3 ∷ []) r (1 ∷ 0 ∷ 2 ∷ 2 ∷ 2 ∷ 2 ∷ 2 ∷ []) → ⊥
unfolding version_rule
judge_for_c_tells_what_is_broken r kept = apart 0 1 tt (ap (λ (s : List ℕ). get_or s 1 0) kept.1)

-- ---- the judge with places: verdicts in the place of places; a broken rule's place left out; a place for a rule that is not broken

pub judge_places_for_c_tells_places : (r : ℕ) (verdicts : List ℕ) → JudgesPlacesForC (set M 4 0x20) r (verdict_lent verdicts (0 ∷ 0 ∷ 1 ∷ 0 ∷ 0 ∷ 2 ∷ 0 ∷ [])) → ⊥
unfolding flags_rule bad_flags
judge_places_for_c_tells_places r verdicts kept = apart 1 4 tt (ap (λ (l : VerdictLent). get_or l.places 2 0) kept.1)

pub judge_places_for_c_leaves_no_place_out : (r : ℕ) (verdicts : List ℕ) → JudgesPlacesForC (set M 4 0x20) r (verdict_lent verdicts (0 ∷ 0 ∷ 0 ∷ 0 ∷ 0 ∷ 0 ∷ 0 ∷ [])) → ⊥
unfolding flags_rule bad_flags
judge_places_for_c_leaves_no_place_out r verdicts kept = apart 0 4 tt (ap (λ (l : VerdictLent). get_or l.places 2 0) kept.1)

pub judge_places_for_c_has_none_for_a_kept_rule : (r : ℕ) (verdicts : List ℕ) → JudgesPlacesForC M r (verdict_lent verdicts (0 ∷ 0 ∷ 4 ∷ 16 ∷ 5 ∷ 21 ∷ 17 ∷ [])) → ⊥
unfolding flags_rule bad_flags
judge_places_for_c_has_none_for_a_kept_rule r verdicts kept = apart 4 0 tt (ap (λ (l : VerdictLent). get_or l.places 2 0) kept.1)

-- ---- a feed's piece: half a message told as none used; a refusal that stands passed over; fields written where none is found

pub feed-take_for_c_tells_what_it_used : (fields : List ℕ) (exit : Lent) → TakesForC (lent new_feed.kept (0 ∷ 0 ∷ []) fields) (take 20 M) 0 exit → ⊥
unfolding word
feed-take_for_c_tells_what_it_used fields exit kept =
    apart 0 (20 * 65536) tt (kept.0 ∙ ap (λ (o : FeedOutcome). word (found_slots o.finding o.used)) feed_cases.missing)

pub feed-take_for_c_does_not_resume : (fields : List ℕ) (exit : Lent) → TakesForC (lent refused_feed.kept (17 ∷ 51 ∷ []) fields) M 0 exit → ⊥
unfolding word
feed-take_for_c_does_not_resume fields exit kept =
    apart 0 51 tt (kept.0 ∙ ap (λ (o : FeedOutcome). word (found_slots o.finding o.used)) feed_cases.not_resumed)

pub feed-take_for_c_keeps_the_fields : (r : ℕ) (kept numbers : List ℕ) → TakesForC (lent new_feed.kept (0 ∷ 0 ∷ []) (9 ∷ [])) (take 20 M) r (lent kept numbers (0 ∷ [])) → ⊥
feed-take_for_c_keeps_the_fields r kept numbers promise =
    apart 0 9 tt (ap (λ (l : Lent). get_or l.fields 0 0) (promise.1 ∙ ap (λ (o : FeedOutcome). lent_after o (9 ∷ [])) feed_cases.missing))

-- ---- a feed's end: inside a message told as done; after one told as cut

pub feed_end_for_c_tells_52 : (exit : List ℕ) → EndsForC (5 ∷ 0 ∷ []) 0 exit → ⊥
unfolding ending word
feed_end_for_c_tells_52 exit kept = apart 0 52 tt (kept []).0

pub feed_end_for_c_is_done_after_a_message : (exit : List ℕ) → EndsForC (21 ∷ 255 ∷ []) 52 exit → ⊥
unfolding ending word
feed_end_for_c_is_done_after_a_message exit kept = apart 52 0 tt (kept []).0

-- ---- a restart: a refusal left standing; the bytes left as they were

pub feed_restart_for_c_clears_the_refusal : (kept : List ℕ) → RestartsForC kept (0 ∷ 51 ∷ []) → ⊥
feed_restart_for_c_clears_the_refusal kept promise = apart 51 0 tt (ap (λ (s : List ℕ). get_or s 1 0) promise.1)

pub feed_restart_for_c_clears_the_bytes : (rest numbers : List ℕ) → RestartsForC (4 ∷ rest) numbers → ⊥
feed_restart_for_c_clears_the_bytes rest numbers promise = apart 4 0 tt (ap (λ (s : List ℕ). get_or s 0 0) promise.0)

-- ---- the message found: half of one; none where there is one

pub feed_message_for_c_is_no_half_message : HoldsForC M (20 ∷ 0 ∷ []) (word (sized 20)) → ⊥
unfolding word
feed_message_for_c_is_no_half_message kept = apart (20 * 4294967296) 0 tt kept

pub feed_message_for_c_is_the_message : HoldsForC M (21 ∷ 255 ∷ []) 0 → ⊥
unfolding word
feed_message_for_c_is_the_message kept = apart 0 (21 * 4294967296) tt kept

-- ---- a frame unwrapped: an acknowledgment told as a data message; fields written of one; COMMIDs written on a refusal

pub unwrap_for_c_tells_the_type : (entry exit : FrameLent) → UnwrapsForC reply entry (word (slots 0 0 1 0)) exit → ⊥
unfolding word
unwrap_for_c_tells_the_type entry exit kept = apart 65536 131072 tt (kept.0 ∙ ap (λ (a : UnwrapAnswer). word (unwrap_slots a)) unwrap_cases.acknowledged)

pub unwrap_for_c_keeps_the_fields : (commids after : List ℕ) (r : ℕ) → UnwrapsForC reply (lent_for commids (9 ∷ [])) r (lent_for after (0 ∷ [])) → ⊥
unwrap_for_c_keeps_the_fields commids after r kept =
    apart 0 9 tt
    (ap (λ (l : FrameLent). get_or l.fields 0 0) kept.1
    ∙ ap (λ (a : UnwrapAnswer). get_or (message_fields a (9 ∷ [])) 0 0) unwrap_cases.acknowledged)

pub unwrap_for_c_keeps_the_commids_on_a_refusal : (fields after : List ℕ) (r : ℕ) → UnwrapsForC [] (lent_for (9 ∷ []) fields) r (lent_for (0 ∷ []) after) → ⊥
unwrap_for_c_keeps_the_commids_on_a_refusal fields after r kept =
    apart 0 9 tt
    (ap (λ (l : FrameLent). get_or l.commids 0 0) kept.1
    ∙ ap (λ (a : UnwrapAnswer). get_or (commids_after a (9 ∷ [])) 0 0) unwrap_cases.nothing)

-- ---- a message wrapped: reading's number lost; the message's length for the frame's. An acknowledgment: no length told; 16 bytes for room enough

pub wrap_for_c_passes_reading_on : (exit : List ℕ) → WrapsForC (set held 0 5) 0x01020304 [] 67 exit → ⊥
unfolding word
wrap_for_c_passes_reading_on exit kept =
    apart 67 (67 + 2 * 256) tt (kept.0 ∙ ap (λ (o : WrapOutcome). word (wrap_slots (frame.answer_to_wrapping o))) wrap_cases.message_refused_first)

pub wrap_for_c_tells_the_frames_length : (exit : List ℕ) → WrapsForC held 0x01020304 (replicate 37 0) (word (sized 24)) exit → ⊥
unfolding word
wrap_for_c_tells_the_frames_length exit kept =
    apart (24 * 4294967296) (37 * 4294967296) tt (kept.0 ∙ ap (λ (o : WrapOutcome). word (wrap_slots (frame.answer_to_wrapping o))) wrap_cases.just_room)

pub acknowledge_for_c_tells_the_length : (exit : List ℕ) → AcknowledgesForC 9 0x01020304 (replicate 17 0) 0 exit → ⊥
unfolding word
acknowledge_for_c_tells_the_length exit kept =
    apart 0 (17 * 4294967296) tt (kept.0 ∙ ap (λ (o : WrapOutcome). word (wrap_slots (frame.answer_to_wrapping o))) wrap_cases.acknowledges)

pub acknowledge_for_c_refuses_16_bytes : (exit : List ℕ) → AcknowledgesForC 9 0x01020304 (replicate 16 0) (word (sized 17)) exit → ⊥
unfolding word
acknowledge_for_c_refuses_16_bytes exit kept =
    apart (17 * 4294967296) 68 tt (kept.0 ∙ ap (λ (o : WrapOutcome). word (wrap_slots (frame.answer_to_wrapping o))) wrap_cases.no_room_acknowledged)
