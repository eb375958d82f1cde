-- No theorem of the sheet is empty: for each that has hypotheses, a case in which they hold, computed, and what it then says.
-- Message M of document 01, the CRC message C, a file that make wrote, the empty file, and a file of one byte.
use Rattle.std.specs.Prelude.{Ok, Err, Some, None, Option, Result}
use mathlib.Core.Bool.{false, cond, not}
use mathlib.Core.List.{List, [], ◌∷◌, ◌++◌}
use mathlib.Core.Logic.{◌⊎◌, inl, inr}
use mathlib.Core.Path.{◌≡◌, refl, ap, sym, ◌∙◌}
use Prim.Native.Nat.{ℕ, zero, suc, ◌+◌, ◌*◌}
use native.Mathlib.Omega.{arith}
use denote.Ref.{Bor}
use lib.Dec.{eqb, lit≤}
use lib.ListN.{take, drop, replicate}
use Rattle.sum.specs.Crc.{crc32}
use Rattle.sum.specs.Detection.{Bytes, bits_of}
use Rattle.sum.specs.Edge.{TwoAndTwo}
use Rattle.sum.specs.Flips.{low_bits}
use Rattle.sum.proofs.Computed.{literals}
use Rattle.sum.proofs.Flips.{bits_apart_same, places_apart_same}
use Rattle.envelope.specs.AnyWindow.{OneDifference}
use Rattle.envelope.specs.Demand3.{DeclaresCrc, before, field}
use Rattle.envelope.specs.Fields.{absent}
use Rattle.envelope.specs.Flags.{bad_flags}
use Rattle.envelope.specs.Numbers.{two_at}
use Rattle.envelope.specs.Message.{before_field, field_number, message}
use Rattle.envelope.specs.Qos.{joined, splitting, joining}
use Rattle.envelope.specs.Refusals.{plainly, Gives}
use Rattle.envelope.specs.Rewriting.{Rewrites}
use Rattle.envelope.specs.RoundTrips.{ReadsAs, HandsOut}
use Rattle.envelope.specs.Told.{Reads}
use Rattle.envelope.specs.Writing.{WriteOutcome, written, refused, writing, answer_to_writing, after_writing, wrote, told_writing, Writes, has_zero, bad_end, stray_integrity}
use Rattle.envelope.specs.declared.rewriter.RewriteFault.TheVariants.{Refused as RewriteRefused}
use Rattle.envelope.specs.declared.reader.Fault.TheVariants.{TooShort}
use Rattle.envelope.specs.declared.writer.WriteFault.TheVariants.{NoRoom}
use Rattle.golden.specs.Beginning.{is_proper_beginning}
use Rattle.golden.specs.Checking.{counted, checking}
use Rattle.golden.specs.Checking as check
use Rattle.golden.specs.Comparing.{comparing, after_comparing}
use Rattle.golden.specs.Comparing as compare
use Rattle.golden.specs.File.{bad_file, record_at, judged_at}
use Rattle.golden.specs.Finding.{finding}
use Rattle.golden.specs.Finding as find
use Rattle.golden.specs.Listing.{counting, entry_at}
use Rattle.golden.specs.Making.{making, record_of}
use Rattle.golden.specs.Making as make
use Rattle.golden.specs.Record.{stored_word, is_retired, stored_length, bad_length, all_zero, judging, message_of}
use Rattle.golden.specs.Stepping.{end, step_at, next_after, told_reached}
use Rattle.golden.specs.Stepping as step
use Rattle.golden.specs.Retiring.{marked, done, retiring}
use Rattle.golden.specs.Theorems.{Passed, FirstRefused, FirstNamed, no_file, MadeGood, InOrder}
use Rattle.golden.specs.Walking.{Walks}
use Rattle.golden.specs.declared.refusal.Refusal.{Refusal as GoldenRefusal}
use Rattle.golden.specs.declared.stepper.Stored.{Stored}
use Rattle.golden.specs.declared.refusal.Refusal.TheVariants.{NotAGoldenFile, NoRecord, BadLength, WrongBuffer}
use Rattle.golden.specs.declared.walker.Walk.{Walk}
use Rattle.exports.specs.Envelopes.{ReadsForC}
use Rattle.exports.specs.Word.{slots, word, unword}
use Rattle.sheet.specs.Cases.{M, like_m, C, fields_of_c}
use Rattle.sheet.specs.Limits.{across_the_edge}
use Rattle.sheet.proofs.Cases.{starred}
use Rattle.sheet.proofs.Demand1.{a_word_tells_its_slots, count_gives, check_gives, find_gives, step_gives, entry_gives, compare_gives, make_gives, a_refusal_writes_nothing, a_refused_rewrite_writes_nothing, refused_read_for_c_keeps, a_refused_comparison_keeps_the_list, a_refused_making_keeps_the_buffer}
use Rattle.sheet.proofs.Demand2.{written_then_read, written_buffer_then_read, written_then_handed_out, read_then_written, handed_out_then_written, same_fields_same_bytes, qos_joins_what_was_split, qos_splits_what_was_joined, file_walks_in_order, other_file_stays, checked_are_sound, sound_are_checked, check_names_the_first, first_refused_is_named, finds_the_first, reason_settles_find, same_is_equal, made_is_good, never_a_beginning}
use Rattle.sheet.proofs.Apart.{apart}
use Rattle.sheet.proofs.Demand3.{four_bytes_show, thirty_two_bits_show, three_bits_show, bytes_at_the_edge_show, two_and_two_show, demand_3, demand_3_bits, golden_demand_3, three_bits_anywhere, golden_three_bits_anywhere, any_window, golden_any_window, middle_window, golden_middle_window}
use Rattle.sheet.proofs.Limits.{limits, bytes_of_pair, pair-length, pair_outside}
use Rattle.sheet.proofs.OneFeed.{envelope_m}
use Rattle.golden.proofs.MadeLaws.{retires}
use Rattle.golden.proofs.RetiredLaws.{retire_marks_one, retired_still_passes, retired_are_bytes}
use Rattle.sheet.proofs.OneRecord.{one_checks, one_holds, one_declares}
use Rattle.sheet.proofs.WrongAnswers.{given_m, writes_M}
use Rattle.sheet.proofs.WrongGolden.{checks_M}
use Rattle.sheet.proofs.WrongRules.{short_length, bad_records}

-- ---- the round trips, at M

bytes_M : Bytes M
bytes_M = literals M tt

pub M_written_then_read : ReadsAs M given_m
M_written_then_read = written_then_read given_m 21 M writes_M

pub M_written_buffer_then_read : ReadsAs M given_m
M_written_buffer_then_read =
    written_buffer_then_read given_m (replicate 21 0) M (Ok 21) 21
    (ap answer_to_writing (sym writes_M), ap (λ (o : WriteOutcome). after_writing o (replicate 21 0)) (sym writes_M)) refl

writes_in_buffer : Writes given_m (replicate 21 0) (Ok 21) M
writes_in_buffer = (ap answer_to_writing (sym writes_M), ap (λ (o : WriteOutcome). after_writing o (replicate 21 0)) (sym writes_M))

reads_M : Reads M (Ok envelope_m)
reads_M = sym starred.a.0

pub M_written_then_handed_out : HandsOut (Ok envelope_m) M given_m
M_written_then_handed_out = written_then_handed_out given_m (replicate 21 0) M (Ok 21) 21 (Ok envelope_m) writes_in_buffer refl reads_M

pub M_handed_out_then_written : (told_writing (Ok 21) ≡ wrote 21) × (M ≡ M ++ [])
M_handed_out_then_written = handed_out_then_written M envelope_m (replicate 21 0) M (Ok 21) bytes_M reads_M (omega arith) writes_in_buffer

pub M_read_then_written : writing given_m 21 ≡ written M
M_read_then_written = read_then_written M (like_m absent 17 0) 21 bytes_M starred.a.0 (omega arith)

pub M_same_fields_same_bytes : M ≡ M
M_same_fields_same_bytes = same_fields_same_bytes M M (like_m absent 17 0) bytes_M bytes_M starred.a.0 starred.a.0 refl

pub qos_8_joins : joining (splitting 8) ≡ joined 8
qos_8_joins = qos_joins_what_was_split 8 (omega arith)

pub qos_8_splits : splitting 8 ≡ splitting 8
qos_8_splits = qos_splits_what_was_joined (splitting 8) 8 qos_8_joins

-- ---- a refusal leaves what was lent: no room for M, no record to compare with, a buffer that is no record

M_finds_no_room : writing given_m 0 ≡ refused 15
unfolding writing message before_field field_number bad_flags bad_end has_zero stray_integrity
M_finds_no_room = refl

pub no_room_writes_nothing : ◌≡◌ {A = List ℕ} [] []
no_room_writes_nothing =
    a_refusal_writes_nothing given_m [] [] (Err NoRoom) 15
    (ap answer_to_writing (sym M_finds_no_room), ap (λ (o : WriteOutcome). after_writing o []) (sym M_finds_no_room)) refl

pub no_record_keeps_the_list : ◌≡◌ {A = List ℕ} (9 ∷ []) (9 ∷ [])
unfolding comparing compare.answer_to_comparing after_comparing bad_file
no_record_keeps_the_list = a_refused_comparison_keeps_the_list [] 0 M (9 ∷ []) (9 ∷ []) (Err NoRecord) (plainly 22) (refl, refl) refl

made_in : (room : ℕ) → making M room ≡ cond (not (eqb room 512)) (make.refused (plainly 35)) make.made
unfolding making
made_in room = rw starred.a.0

pub wrong_buffer_keeps_it : ◌≡◌ {A = List ℕ} (9 ∷ []) (9 ∷ [])
wrong_buffer_keeps_it =
    a_refused_making_keeps_the_buffer M (9 ∷ []) (9 ∷ []) (Err WrongBuffer) (plainly 35)
    (sym (made_in 1), ap (λ (a : make.MakeAnswer). make.after_making a M (9 ∷ [])) (sym (made_in 1))) refl

-- ---- golden files: one that make wrote, the empty one, and one byte

abbrev file : List ℕ
file = record_of M

pub made_file_is_good : MadeGood M file
made_file_is_good =
    made_is_good M (replicate 512 0) file (Ok tt)
    (sym (made_in 512), ap (λ (a : make.MakeAnswer). make.after_making a M (replicate 512 0)) (sym (made_in 512))) refl

pub made_file_is_the_message : message_of (record_at file 0) ≡ M
made_file_is_the_message = same_is_equal file 0 M made_file_is_good.compares

pub a_short_length_is_the_first : FirstRefused short_length 0 (plainly 23)
a_short_length_is_the_first = check_names_the_first short_length 0 (plainly 23) bad_records.0

pub a_short_length_is_refused : checking short_length ≡ check.refused 0 (plainly 23)
a_short_length_is_refused = first_refused_is_named short_length 0 (plainly 23) a_short_length_is_the_first

pub one_byte_is_no_file : FirstRefused (7 ∷ []) 0 (plainly 21)
unfolding checking bad_file
one_byte_is_no_file = check_names_the_first (7 ∷ []) 0 (plainly 21) refl

pub made_file_is_sound : Passed file 1
made_file_is_sound = checked_are_sound file 1 checks_M

pub made_file_passes : checking file ≡ counted 1
made_file_passes = sound_are_checked file 1 made_file_is_sound

pub made_file_is_searched : FirstNamed file (record { message_type = 6000; number = 1 }) 1 (finding file (record { message_type = 6000; number = 1 }))
made_file_is_searched = finds_the_first file (record { message_type = 6000; number = 1 }) 1 checks_M

pub one_byte_is_not_searched : finding (7 ∷ []) (record { message_type = 6000; number = 1 }) ≡ find.refused (plainly 21) 0
unfolding bad_file
one_byte_is_not_searched = reason_settles_find (7 ∷ []) (record { message_type = 6000; number = 1 }) (find.refused (plainly 21) 0) (no_file refl)

pub M_and_C_no_beginning : is_proper_beginning M C ≡ false
M_and_C_no_beginning = never_a_beginning M C (like_m absent 17 0) fields_of_c starred.a.0 starred.kind_crc_lem

-- ---- walks

-- any reference to the empty file: the walk is at its end from the first step on
pub empty_file_walks : (lent : Bor (List ℕ)) → lent.now ≡ [] → InOrder lent.now (λ k. Ok None)
unfolding step_at next_after bad_file
empty_file_walks lent e =
    file_walks_in_order lent (λ k. record { file = lent; next = 0 }) (λ k. Ok None)
    (record { fresh = (refl, refl); steps = λ k. (rw e, (refl, rw e)) }) (rw e)

-- ---- a walk over a good record, that of M, and a bad one, of zeros

abbrev two_records : List ℕ
two_records = record_of M ++ replicate 512 0

good_step : step_at two_records 0 ≡ step.message false (record { place = 2; size = 21 })
unfolding step_at bad_file judged_at judging bad_length is_retired stored_length stored_word all_zero record_of two_at
good_step = rw starred.a.0

bad_step : step_at two_records 1 ≡ step.refused (plainly 23)
unfolding step_at bad_file judged_at judging bad_length stored_length stored_word record_of two_at
bad_step = refl

last_step : step_at two_records 2 ≡ end
unfolding step_at bad_file record_of
last_step = refl

goes_on : (next_after two_records 0 ≡ 1) × ((next_after two_records 1 ≡ 2) × (next_after two_records 2 ≡ 2))
unfolding next_after bad_file record_of
goes_on = (refl, (refl, refl))

whole_file : bad_file two_records ≡ false
unfolding bad_file record_of
whole_file = refl

abbrev walk_at : Bor (List ℕ) → ℕ → Walk
walk_at lent zero = record { file = lent; next = 0 }
walk_at lent (suc zero) = record { file = lent; next = 1 }
walk_at lent (suc (suc k)) = record { file = lent; next = 2 }

abbrev reached_at : ℕ → Result (Option Stored) GoldenRefusal
reached_at zero = Ok (Some (record { part = (record { place = 2; size = 21 }); retired = false }))
reached_at (suc zero) = Err BadLength
reached_at (suc (suc k)) = Ok None

walks_on : (lent : Bor (List ℕ)) → lent.now ≡ two_records → (k : ℕ) → Walks (walk_at lent k) (reached_at k) (walk_at lent (suc k))
walks_on lent e zero = rw e (sym good_step, (refl, sym goes_on.0))
walks_on lent e (suc zero) = rw e (sym bad_step, (refl, sym goes_on.1.0))
walks_on lent e (suc (suc k)) = rw e (sym last_step, (refl, sym goes_on.1.1))

pub two_records_walk : (lent : Bor (List ℕ)) → lent.now ≡ two_records → InOrder lent.now reached_at
two_records_walk lent e =
    file_walks_in_order lent (walk_at lent) reached_at (record { fresh = (refl, refl); steps = walks_on lent e }) (rw e whole_file)

pub one_byte_stays : (lent : Bor (List ℕ)) → lent.now ≡ 7 ∷ [] → (k : ℕ) → told_reached (Err NotAGoldenFile) ≡ step.refused (plainly 21)
unfolding step_at next_after bad_file
one_byte_stays lent e k =
    other_file_stays lent (λ k. record { file = lent; next = 0 }) (λ k. Err NotAGoldenFile)
    (record { fresh = (refl, refl); steps = λ k. (rw e, (refl, rw e)) }) (rw e) k

-- ---- which refusals: one of each operation

pub count_gave_21 : Gives (21 ∷ []) [] (plainly 21)
unfolding counting bad_file
count_gave_21 = count_gives (7 ∷ []) (plainly 21) refl

pub check_gave_23 : Gives (21 ∷ 23 ∷ 24 ∷ 26 ∷ []) (25 ∷ []) (plainly 23)
check_gave_23 = check_gives short_length 0 (plainly 23) bad_records.0

pub find_gave_21 : Gives (21 ∷ 23 ∷ 24 ∷ 27 ∷ []) (25 ∷ []) (plainly 21)
find_gave_21 = find_gives (7 ∷ []) (record { message_type = 6000; number = 1 }) (plainly 21) 0 one_byte_is_not_searched

pub step_gave_23 : Gives (21 ∷ 23 ∷ 24 ∷ []) (25 ∷ []) (plainly 23)
step_gave_23 = step_gives two_records 1 (plainly 23) bad_step

pub entry_gave_22 : Gives (21 ∷ 22 ∷ 23 ∷ 24 ∷ []) (25 ∷ []) (plainly 22)
unfolding entry_at bad_file
entry_gave_22 = entry_gives [] 0 (plainly 22) refl

pub compare_gave_22 : Gives (21 ∷ 22 ∷ 23 ∷ 24 ∷ 38 ∷ []) (25 ∷ 31 ∷ []) (plainly 22)
unfolding comparing compare.answer_to_comparing bad_file
compare_gave_22 = compare_gives [] 0 M (plainly 22) refl

pub make_gave_35 : Gives (33 ∷ 35 ∷ []) (34 ∷ []) (plainly 35)
make_gave_35 = make_gives M 1 (plainly 35) (made_in 1)

-- ---- demand 3, at C: both windows, and the sum's own laws

bytes_C : Bytes C
bytes_C = literals C tt

declares_C : DeclaresCrc C
declares_C = record { fields = fields_of_c; accepts = starred.kind_crc_lem; declares = refl }

pub C_before_the_field : C ≡ C
C_before_the_field =
    demand_3 C C 0 bytes_C bytes_C refl declares_C declares_C (before (omega arith)) (λ i h. refl, λ i h. refl)

pub C_the_field : C ≡ C
C_the_field = demand_3 C C 19 bytes_C bytes_C refl declares_C declares_C (field refl) (λ i h. refl, λ i h. refl)

pub C_in_bits : C ≡ C
unfolding bits_of
C_in_bits =
    demand_3_bits C C [] (take 32 (bits_of C)) (take 32 (bits_of C)) (drop 32 (bits_of (take 19 C))) bytes_C bytes_C refl declares_C declares_C refl refl refl (omega arith) refl

pub four_bytes_show_themselves : take 4 M ≡ take 4 M
four_bytes_show_themselves =
    four_bytes_show [] (take 4 M) (take 4 M) (drop 4 M) (literals [] tt) (literals (take 4 M) tt) (literals (take 4 M) tt) (literals (drop 4 M) tt) refl (omega arith) refl

pub bits_show_themselves : take 4 M ≡ take 4 M
unfolding bits_of
bits_show_themselves =
    thirty_two_bits_show (take 4 M) (take 4 M) [] (bits_of (take 4 M)) (bits_of (take 4 M)) [] (literals (take 4 M) tt) (literals (take 4 M) tt) refl refl refl (omega arith) refl

-- ---- K11 and what lies beyond: C, and the pair that differs across the field's edge

pub three_bits_show_themselves : take 4 M ≡ take 4 M
three_bits_show_themselves =
    three_bits_show (take 4 M) (take 4 M) (literals (take 4 M) tt) (literals (take 4 M) tt) refl (lit≤ tt)
    (rw (bits_apart_same (take 4 M), places_apart_same (low_bits 32 (crc32 (take 4 M)))) (lit≤ tt))

pub three_at_the_edge_show : take 3 M ≡ take 3 M
three_at_the_edge_show =
    bytes_at_the_edge_show [] (take 3 M) (take 3 M) (literals [] tt) (literals (take 3 M) tt) (literals (take 3 M) tt) refl (lit≤ tt) (apart 3 2 tt) refl

pub two_at_the_edge_show : TwoAndTwo 4 23 4 23 (crc32 (4 ∷ 23 ∷ [])) (crc32 (4 ∷ 23 ∷ []))
two_at_the_edge_show = two_and_two_show [] 4 23 4 23 (literals [] tt) (literals (4 ∷ 23 ∷ []) tt) (literals (4 ∷ 23 ∷ []) tt) refl

pub C_in_three_bits : C ≡ C
C_in_three_bits = three_bits_anywhere C C bytes_C bytes_C refl (lit≤ tt) declares_C declares_C (rw (bits_apart_same C) (lit≤ tt))

pub C_across_the_edge : C ≡ C
C_across_the_edge = any_window C C 16 bytes_C bytes_C refl declares_C declares_C (apart 18 19 tt) (λ i h. refl, λ i h. refl)

-- the pair across the edge differs by the one difference that there is
abbrev differing_so : {k : ℕ} {s t : List ℕ} → (s ≡ t → ⊥) → (s ≡ t) ⊎ OneDifference k s t → OneDifference k s t
differing_so other (inl e) = absurd (other e)
differing_so other (inr d) = d

pub the_pair_is_the_one : OneDifference 17 C across_the_edge
the_pair_is_the_one =
    differing_so limits.they_differ
    (middle_window C across_the_edge 17 bytes_C (literals across_the_edge tt) refl limits.first limits.second refl limits.same_outside)

-- ---- the same of files: that of the one record of C, and that of the pair

abbrev file_c : List ℕ
file_c = record_of C

checks_C : checking file_c ≡ counted 1
checks_C = one_checks C declares_C (lit≤ tt)

holds_C : message_of (record_at file_c 0) ≡ C
holds_C = one_holds C declares_C (lit≤ tt)

declares_in_file : DeclaresCrc (message_of (record_at file_c 0))
declares_in_file = one_declares C declares_C (lit≤ tt)

pub file_of_C : file_c ≡ file_c
file_of_C =
    golden_demand_3 file_c file_c 1 1 0 0 bytes_of_pair.0 bytes_of_pair.0 checks_C checks_C (omega arith) declares_in_file declares_in_file
    (rw holds_C (before (omega arith))) refl (λ i h. refl, λ i h. refl)

pub file_of_C_in_three_bits : file_c ≡ file_c
file_of_C_in_three_bits =
    golden_three_bits_anywhere file_c file_c 1 1 0 bytes_of_pair.0 bytes_of_pair.0 checks_C checks_C (omega arith) declares_in_file declares_in_file refl
    (λ i h. refl, λ i h. refl) (rw (bits_apart_same (message_of (record_at file_c 0))) (lit≤ tt))

-- and of that record retired
abbrev retired_c : List ℕ
retired_c = marked file_c 0

retires_C : retiring file_c 0 512 ≡ done
retires_C = retires C declares_C.fields (lit≤ tt) declares_C.accepts

checks_retired : checking retired_c ≡ counted 1
checks_retired = retired_still_passes file_c 0 512 1 retires_C checks_C

holds_retired : message_of (record_at retired_c 0) ≡ message_of (record_at file_c 0)
holds_retired = (retire_marks_one file_c 0 512 retires_C).same_message

declares_retired : DeclaresCrc (message_of (record_at retired_c 0))
declares_retired = rw holds_retired declares_in_file

bytes_retired : Bytes retired_c
bytes_retired = retired_are_bytes file_c 0 512 retires_C bytes_of_pair.0

pub retired_file_of_C : retired_c ≡ retired_c
retired_file_of_C =
    golden_demand_3 retired_c retired_c 1 1 0 0 bytes_retired bytes_retired checks_retired checks_retired (omega arith) declares_retired declares_retired
    (rw (holds_retired, holds_C) (before (omega arith))) refl (λ i h. refl, λ i h. refl)

-- three bytes before the field and one in it; and the last two of the message with the first two zeros behind it
pub file_of_C_across_the_edge : file_c ≡ file_c
file_of_C_across_the_edge =
    golden_any_window file_c file_c 1 1 0 16 bytes_of_pair.0 bytes_of_pair.0 checks_C checks_C (omega arith) declares_in_file declares_in_file
    (lit≤ tt) (rw holds_C (apart 18 19 tt)) refl (λ i h. refl, λ i h. refl)

pub file_of_C_into_the_zeros : file_c ≡ file_c
file_of_C_into_the_zeros =
    golden_any_window file_c file_c 1 1 0 21 bytes_of_pair.0 bytes_of_pair.0 checks_C checks_C (omega arith) declares_in_file declares_in_file
    (lit≤ tt) (rw holds_C (apart 23 19 tt)) refl (λ i h. refl, λ i h. refl)

pub the_files_of_the_pair : OneDifference 19 file_c (record_of across_the_edge)
the_files_of_the_pair =
    differing_so
    (λ e. limits.they_differ (sym holds_C ∙ ap (λ (f : List ℕ). message_of (record_at f 0)) e ∙ one_holds across_the_edge limits.second (lit≤ tt)))
    (golden_middle_window file_c (record_of across_the_edge) 1 1 0 17 bytes_of_pair.0 bytes_of_pair.1 checks_C
    (one_checks across_the_edge limits.second (lit≤ tt)) (omega arith) declares_in_file (one_declares across_the_edge limits.second (lit≤ tt))
    (rw holds_C refl) pair-length pair_outside)

-- ---- the answer word: 25 with 7 at place 65, of record 3

pub a_word_comes_back : unword (word (slots 25 7 3 65)) ≡ slots 25 7 3 65
a_word_comes_back =
    a_word_tells_its_slots (slots 25 7 3 65) (record { number = omega arith; reading = omega arith; count = omega arith; value = omega arith })

-- ---- what a refusal leaves: 20 bytes of M, read and rewritten for C and by `rewrite`

short_M : ReadsForC (take 20 M) (9 ∷ []) (1 + 20 * 4294967296) (9 ∷ [])
unfolding word
short_M = rw starred.b (refl, refl)

pub the_fields_stayed : ◌≡◌ {A = List ℕ} (9 ∷ []) (9 ∷ [])
the_fields_stayed = refused_read_for_c_keeps (take 20 M) (9 ∷ []) (1 + 20 * 4294967296) (9 ∷ []) short_M (λ e. apart 1 0 tt e)

rewrites_short_M : Rewrites (take 20 M) (9 ∷ []) (Err (RewriteRefused (record { fault = TooShort; place = 20 }))) (9 ∷ [])
rewrites_short_M = rw starred.b (refl, refl)

pub the_buffer_stayed : ◌≡◌ {A = List ℕ} (9 ∷ []) (9 ∷ [])
the_buffer_stayed =
    a_refused_rewrite_writes_nothing (take 20 M) (9 ∷ []) (9 ∷ []) (Err (RewriteRefused (record { fault = TooShort; place = 20 }))) rewrites_short_M
    (λ n e. let z : ◌≡◌ {A = ℕ} 0 1 = cc in omega arith)
