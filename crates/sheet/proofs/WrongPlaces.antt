-- A place that is lost or changed where it is told or passed on: by reading, by 25, 31, 34 and 67, by rewrite, by a feed and for C. Each is refuted by computing.
-- The judge's stand in WrongJudges, and the numbers' own in WrongAnswers and WrongFeeds.
use Rattle.std.specs.Prelude.{Err, Option, Result}
use mathlib.Core.List.{List, [], ◌∷◌, ◌++◌}
use mathlib.Core.Path.{◌≡◌, refl, ap, sym, ◌∙◌}
use Prim.Native.Nat.{ℕ, ◌+◌, ◌*◌}
use lib.ListN.{take, set, replicate}
use Rattle.envelope.specs.Fields.{refusal_by}
use Rattle.envelope.specs.Flags.{bad_flags}
use Rattle.envelope.specs.Heading.{heading}
use Rattle.envelope.specs.Numbers.{two_at}
use Rattle.envelope.specs.Places.{place_for}
use Rattle.envelope.specs.Reading.{reading}
use Rattle.envelope.specs.Refusals.{passing_on}
use Rattle.envelope.specs.Rewriting.{rewrite_place, Rewrites}
use Rattle.envelope.specs.Told.{Reads}
use Rattle.envelope.specs.declared.reader.Fault.TheVariants.{TooShort, BadFlags, BadVariableSize, BadIntegrity}
use Rattle.feed.specs.Feeding.{refused, FeedOutcome, ending}
use Rattle.feed.specs.Places.{found_place}
use Rattle.feed.specs.Told.{told_found, Takes, Ends}
use Rattle.envelope.specs.declared.rewriter.RewriteFault.TheVariants.{Refused as RewriteRefused}
use Rattle.feed.specs.declared.feeder.Ended.{Ended}
use Rattle.feed.specs.declared.feeder.Feed.{Feed}
use Rattle.feed.specs.declared.feeder.Taken.{Taken}
use Rattle.feed.specs.declared.refusal.Refusal.{Refusal as FeedRefusal}
use Rattle.feed.specs.declared.refusal.Refusal.TheVariants.{MessageRefused as FeedRefuses}
use Rattle.feed.specs.declared.step.Message.{Message}
use Rattle.feed.specs.declared.step.Standing.TheVariants.{Refused as Stands}
use Rattle.frame.specs.Sizes.{unwrap_place, wrap_place}
use Rattle.frame.specs.Unwrapping.{UnwrapAnswer, Unwraps}
use Rattle.frame.specs.Wrapping.{wrapping, Wraps}
use Rattle.frame.specs.declared.refusal.Refusal.TheVariants.{MessageRefused as FrameRefuses}
use Rattle.frame.specs.declared.unwrapper.Unwrapped.TheVariants as unwrapped
use Rattle.golden.specs.Checking.{check_from, checking, Checks}
use Rattle.golden.specs.Checking as check
use Rattle.golden.specs.Comparing.{CompareOutcome, comparing, answer_to_comparing, Compares}
use Rattle.golden.specs.Comparing as compare
use Rattle.golden.specs.File.{bad_file, judged_at}
use Rattle.golden.specs.Finding.{Finds}
use Rattle.golden.specs.Finding as find
use Rattle.golden.specs.Listing.{Enters}
use Rattle.golden.specs.Listing as listing
use Rattle.golden.specs.Making.{making, record_of, Makes}
use Rattle.golden.specs.Record.{stored_word, stored_length, all_zero, bad_length, judging}
use Rattle.golden.specs.Stepping.{Steps}
use Rattle.golden.specs.Stepping as step
use Rattle.golden.specs.Theorems.{check_place, find_place, step_place, entry_place, compare_place, make_place}
use Rattle.golden.specs.declared.refusal.Refusal.{Refusal as GoldenRefusal}
use Rattle.golden.specs.declared.refusal.Refusal.TheVariants.{RecordRefused, RadioRefused, MessageRefused}
use Rattle.judge.specs.Rules.{least_rule}
use Rattle.exports.specs.Envelopes.{ReadsForC, RewritesForC}
use Rattle.exports.specs.Feeds.{found_slots, Lent, lent, TakesForC, EndsForC}
use Rattle.exports.specs.Frames.{unwrap_slots, FrameLent, UnwrapsForC, WrapsForC}
use Rattle.exports.specs.Goldens.{check_slots, ChecksForC, compare_slots, ComparesForC, MakesForC}
use Rattle.exports.specs.Verdicts.{JudgesForC}
use Rattle.exports.specs.Word.{word, slots}
use Rattle.sheet.specs.Cases.{M}
use Rattle.sheet.specs.FeedCases.{held_by, number}
use Rattle.sheet.specs.FrameCases.{carrier}
use Rattle.sheet.proofs.Apart.{apart, refusal_place}
use Rattle.sheet.proofs.Cases.{starred}
use Rattle.sheet.proofs.FeedCases.{feed_cases}
use Rattle.sheet.proofs.FrameCases.{unwrap_cases}
use Rattle.sheet.proofs.OneFeed.{new_feed}
use Rattle.sheet.proofs.WrongRules.{refused_radio}

-- ---- read: no place; the least length for that of the bytes; the last byte for the field's first

pub read_does_not_lose_its_place : Reads (set M 16 5) (Err (record { fault = BadVariableSize; place = 0 })) → ⊥
read_does_not_lose_its_place kept = apart 0 16 tt (refusal_place 4 0 4 16 (kept ∙ starred.d.0))

pub read_points_to_where_short_bytes_end : Reads (take 20 M) (Err (record { fault = TooShort; place = 21 })) → ⊥
read_points_to_where_short_bytes_end kept = apart 21 20 tt (refusal_place 1 21 1 20 (kept ∙ starred.b))

pub read_points_to_the_first_byte_of_the_field : Reads (set M 20 1) (Err (record { fault = BadIntegrity; place = 20 })) → ⊥
read_points_to_the_first_byte_of_the_field kept = apart 20 17 tt (refusal_place 7 20 7 17 (kept ∙ starred.f))

-- ---- 25: lost, and counted from the record's first byte in the place of the message's

-- a record of M with an unassigned flag
abbrev pub other_flags : List ℕ
other_flags = 0 ∷ 21 ∷ set M 4 0x20 ++ replicate 489 0

pub checks_other_flags : checking other_flags ≡ check.refused 0 (passing_on 25 (refusal_by 3 4))
unfolding checking check_from bad_file judged_at judging bad_length stored_length stored_word all_zero two_at reading heading bad_flags
checks_other_flags = refl

pub check_does_not_lose_the_place : Checks other_flags (Err (record { «record» = 0; refusal = (RecordRefused (record { fault = BadFlags; place = 0 })) })) → ⊥
check_does_not_lose_the_place kept = apart 0 4 tt (ap check_place (kept ∙ checks_other_flags))

pub check_counts_from_the_message : Checks other_flags (Err (record { «record» = 0; refusal = (RecordRefused (record { fault = BadFlags; place = 6 })) })) → ⊥
check_counts_from_the_message kept = apart 6 4 tt (ap check_place (kept ∙ checks_other_flags))

-- and by the others that open a record
abbrev pub name_of_m : find.NameFields
name_of_m = record { message_type = 6000; number = 1 }

pub finds_other_flags : find.finding other_flags name_of_m ≡ find.refused (passing_on 25 (refusal_by 3 4)) 1
unfolding find.finding find.find_from bad_file judged_at judging bad_length stored_length stored_word all_zero two_at reading heading bad_flags
finds_other_flags = refl

pub steps_on_other_flags : step.step_at other_flags 0 ≡ step.refused (passing_on 25 (refusal_by 3 4))
unfolding step.step_at bad_file judged_at judging bad_length stored_length stored_word all_zero two_at reading heading bad_flags
steps_on_other_flags = refl

pub enters_other_flags : listing.entry_at other_flags 0 ≡ listing.refused (passing_on 25 (refusal_by 3 4))
unfolding listing.entry_at bad_file judged_at judging bad_length stored_length stored_word all_zero two_at reading heading bad_flags
enters_other_flags = refl

pub compares_other_flags : comparing other_flags 0 M ≡ compare.refused (passing_on 25 (refusal_by 3 4))
unfolding comparing bad_file judged_at judging bad_length stored_length stored_word all_zero two_at reading heading bad_flags
compares_other_flags = refl

abbrev record_at0 : GoldenRefusal
record_at0 = RecordRefused (record { fault = BadFlags; place = 0 })

pub find_does_not_lose_the_place : Finds other_flags (record { message_type = 6000; number = 1 }) (Err (record { refusal = record_at0; opened = 1 })) → ⊥
find_does_not_lose_the_place kept = apart 0 4 tt (ap find_place (kept ∙ finds_other_flags))

pub step_does_not_lose_the_place : (next : ℕ) → Steps other_flags 0 (record { answer = Err record_at0; next = next }) → ⊥
step_does_not_lose_the_place next kept = apart 0 4 tt (ap step_place (kept.0 ∙ steps_on_other_flags))

pub entry_does_not_lose_the_place : Enters other_flags 0 (Err record_at0) → ⊥
entry_does_not_lose_the_place kept = apart 0 4 tt (ap entry_place (kept ∙ enters_other_flags))

pub compare_does_not_lose_the_place_of_the_record : (entry exit : List ℕ) → Compares other_flags 0 M entry (Err record_at0) exit → ⊥
unfolding answer_to_comparing
compare_does_not_lose_the_place_of_the_record entry exit kept =
    apart 0 4 tt (ap compare_place (kept.0 ∙ ap (λ (o : CompareOutcome). answer_to_comparing o) compares_other_flags))

-- ---- 31 and 34

pub compare_does_not_lose_the_place : (entry exit : List ℕ) → Compares (record_of M) 0 (take 20 M) entry (Err (RadioRefused (record { fault = TooShort; place = 0 }))) exit → ⊥
unfolding answer_to_comparing
compare_does_not_lose_the_place entry exit kept =
    apart 0 20 tt (ap compare_place (kept.0 ∙ ap (λ (o : CompareOutcome). answer_to_comparing o) refused_radio))

pub make_does_not_lose_the_place : (entry exit : List ℕ) → Makes (take 20 M) entry (Err (MessageRefused (record { fault = TooShort; place = 0 }))) exit → ⊥
unfolding making
make_does_not_lose_the_place entry exit kept = apart 0 20 tt (ap make_place (rw starred.b at kept.0))

-- ---- 67: lost, and counted from the frame's first byte; lost where a message is wrapped

pub unwrap_does_not_lose_the_place : Unwraps (set carrier 35 1) (Err (FrameRefuses (record { fault = BadIntegrity; place = 0 }))) → ⊥
unwrap_does_not_lose_the_place kept = apart 0 20 tt (ap unwrap_place (kept ∙ unwrap_cases.message_integrity))

pub unwrap_counts_from_the_message : Unwraps (set carrier 35 1) (Err (FrameRefuses (record { fault = BadIntegrity; place = 32 }))) → ⊥
unwrap_counts_from_the_message kept = apart 32 20 tt (ap unwrap_place (kept ∙ unwrap_cases.message_integrity))

pub wrap_does_not_lose_the_place : (commid : ℕ) (entry exit : List ℕ) → Wraps (take 20 M) commid entry (Err (FrameRefuses (record { fault = TooShort; place = 0 }))) exit → ⊥
unfolding wrapping
wrap_does_not_lose_the_place commid entry exit kept = apart 0 20 tt (ap wrap_place (rw starred.b at kept.0))

-- ---- rewrite

pub rewrite_does_not_lose_the_place : (entry exit : List ℕ) → Rewrites (take 20 M) entry (Err (RewriteRefused (record { fault = TooShort; place = 0 }))) exit → ⊥
rewrite_does_not_lose_the_place entry exit kept = apart 0 20 tt (ap rewrite_place (rw starred.b at kept.0))

-- ---- a feed: lost where it is told, and where it is repeated

pub take_does_not_lose_the_place : (t : Taken) → t.found ≡ Err (FeedRefuses (record { fault = BadFlags; place = 0 }))
    → Takes new_feed (set (set M 4 0x20) 16 5) t → ⊥
take_does_not_lose_the_place t wrong kept =
    apart 0 4 tt (ap (λ (x : Result (Option Message) FeedRefusal). found_place (told_found x)) (sym wrong) ∙ ap (λ (o : FeedOutcome). found_place o.finding) (kept ∙ feed_cases.no_3_first))

-- 17 bytes with an unassigned flag are in, and 3 stands
abbrev refused_flags : Feed
refused_flags = record { kept = (held_by (take 17 (set M 4 0x20)) (refused (number 3 4))).kept; beside = record { count = 17; standing = Stands (FeedRefuses (record { fault = BadFlags; place = 4 })) } }

pub a_repeated_refusal_does_not_lose_the_place : (e : Ended) → e.found ≡ Err (FeedRefuses (record { fault = BadFlags; place = 0 })) → Ends refused_flags e → ⊥
unfolding ending
a_repeated_refusal_does_not_lose_the_place e wrong kept =
    apart 0 4 tt (ap (λ (x : Result (Option Message) FeedRefusal). found_place (told_found x)) (sym wrong) ∙ ap (λ (o : FeedOutcome). found_place o.finding) kept)

-- ---- for C: a refusal of reading, one passed on, and one that a feed repeats from its number and count, each with no place

pub read_for_c_does_not_lose_the_place : (entry exit : List ℕ) → ReadsForC (take 20 M) entry 1 exit → ⊥
unfolding word
read_for_c_does_not_lose_the_place entry exit kept = apart 1 (1 + 20 * 4294967296) tt (rw starred.b at kept.0)

pub check_for_c_does_not_lose_the_place : ChecksForC other_flags (word (slots 25 3 0 0)) → ⊥
unfolding word
check_for_c_does_not_lose_the_place kept =
    apart (25 + 3 * 256) (25 + 3 * 256 + 4 * 4294967296) tt (kept ∙ ap (λ (a : check.CheckAnswer). word (check_slots a)) checks_other_flags)

pub rewrite_for_c_does_not_lose_the_place : (entry exit : List ℕ) → RewritesForC (take 20 M) entry 1 exit → ⊥
unfolding word
rewrite_for_c_does_not_lose_the_place entry exit kept = apart 1 (1 + 20 * 4294967296) tt (rw starred.b at kept.0)

pub compare_for_c_does_not_lose_the_place : (entry exit : List ℕ) → ComparesForC (record_of M) 0 (take 20 M) entry (word (slots 31 1 0 0)) exit → ⊥
unfolding word answer_to_comparing
compare_for_c_does_not_lose_the_place entry exit kept =
    apart (31 + 256) (31 + 256 + 20 * 4294967296) tt (kept.0 ∙ ap (λ (o : CompareOutcome). word (compare_slots (answer_to_comparing o))) refused_radio)

pub make_for_c_does_not_lose_the_place : (exit : List ℕ) → MakesForC (take 20 M) [] (word (slots 34 1 0 0)) exit → ⊥
unfolding making word
make_for_c_does_not_lose_the_place exit kept = apart (34 + 256) (34 + 256 + 20 * 4294967296) tt (rw starred.b at kept.0)

pub unwrap_for_c_does_not_lose_the_place : (entry exit : FrameLent) → UnwrapsForC (set carrier 35 1) entry (word (slots 67 7 0 0)) exit → ⊥
unfolding word
unwrap_for_c_does_not_lose_the_place entry exit kept =
    apart (67 + 7 * 256) (67 + 7 * 256 + 20 * 4294967296) tt (kept.0 ∙ ap (λ (a : UnwrapAnswer). word (unwrap_slots a)) unwrap_cases.message_integrity)

pub wrap_for_c_does_not_lose_the_place : (commid : ℕ) (entry exit : List ℕ) → WrapsForC (take 20 M) commid entry (word (slots 67 1 0 0)) exit → ⊥
unfolding wrapping word
wrap_for_c_does_not_lose_the_place commid entry exit kept = apart (67 + 256) (67 + 256 + 20 * 4294967296) tt (rw starred.b at kept.0)

pub judge_for_c_does_not_lose_the_place : (exit : List ℕ) → JudgesForC (3 ∷ []) 256 exit → ⊥
unfolding least_rule word
judge_for_c_does_not_lose_the_place exit kept = apart 256 (256 + 4294967296) tt kept.0

pub feed-take_for_c_does_not_lose_the_place : (fields : List ℕ) (exit : Lent) → TakesForC (lent new_feed.kept (0 ∷ 0 ∷ []) fields) (set (set M 4 0x20) 16 5) (word (slots 3 0 17 0)) exit → ⊥
unfolding word
feed-take_for_c_does_not_lose_the_place fields exit kept =
    apart (3 + 17 * 65536) (3 + 17 * 65536 + 4 * 4294967296) tt
    (kept.0 ∙ ap (λ (o : FeedOutcome). word (found_slots o.finding o.used)) feed_cases.no_3_first)

pub feed_end_for_c_does_not_lose_the_place : (exit : List ℕ) → EndsForC (17 ∷ 3 ∷ []) 3 exit → ⊥
unfolding ending word place_for
feed_end_for_c_does_not_lose_the_place exit kept = apart 3 (3 + 4 * 4294967296) tt (kept []).0

-- of a message of 23 bytes refused as 7: the field's first byte, and not the last that is in
pub feed_end_for_c_points_to_the_field : (exit : List ℕ) → EndsForC (23 ∷ 7 ∷ []) (7 + 22 * 4294967296) exit → ⊥
unfolding ending word place_for
feed_end_for_c_points_to_the_field exit kept = apart (7 + 22 * 4294967296) (7 + 19 * 4294967296) tt (kept []).0
