-- For each promise about golden files two answers that a careless program would give, each refuted by computing.
-- `M` is a message of document 01, and `record_of M` a file of its one record.
use Rattle.std.specs.Prelude.{Ok, Err, None, Option, Result}
use mathlib.Core.Bool.{false}
use mathlib.Core.List.{List, [], ◌∷◌, ◌++◌}
use mathlib.Core.Path.{◌≡◌, refl, sym, ap, ◌∙◌}
use Prim.Native.Nat.{ℕ}
use denote.Ref.{Bor}
use native.Mathlib.Omega.{arith}
use lib.ListN.{length, get_or, set, replicate}
use Rattle.envelope.specs.Fields.{Span, absent}
use Rattle.envelope.specs.Numbers.{two_at}
use Rattle.envelope.specs.declared.reader.Fault.TheVariants.{TooShort, BadFlags}
use Rattle.golden.specs.Checking.{counted, checking, Checks}
use Rattle.golden.specs.Comparing.{CompareOutcome, positions, same, different, after_comparing, comparing, answer_to_comparing, Compares}
use Rattle.golden.specs.File.{bad_file, judged_at}
use Rattle.golden.specs.Finding.{found, find_from, finding, Finds}
use Rattle.golden.specs.Listing.{counting, entry_at, Counts, Enters}
use Rattle.golden.specs.Making.{making, record_of, after_making, MakeAnswer, made, refused, Makes}
use Rattle.golden.specs.Positions.{noted}
use Rattle.golden.specs.Record.{stored_word, stored_length, bad_length, judging}
use Rattle.golden.specs.Retiring.{marked, RetireAnswer, done, retiring, after_retiring, Retires}
use Rattle.golden.specs.Retiring as retire
use Rattle.envelope.specs.Refusals.{Refused, plainly, RefusalNumbers, numbers_of}
use Rattle.golden.specs.Refusal.{NumbersGoldenRefusal}
use Rattle.golden.specs.Stepping.{step_at, next_after, Steps, stored_message, Stores}
use Rattle.golden.specs.Theorems.{opened_number}
use Rattle.golden.specs.Walking.{Begins, Walks}
use Rattle.golden.specs.declared.finder.Name.{Name}
use Rattle.golden.specs.declared.refusal.Refusal.{Refusal}
use Rattle.golden.specs.declared.stepper.Stored.{Stored}
use Rattle.golden.specs.declared.refusal.Refusal.TheVariants.{NotAGoldenFile, NoRecord, BadLength, RecordRefused, NotFound}
use Rattle.golden.proofs.MadeLaws.{checks, compared, compares, finds, retires}
use Rattle.golden.proofs.RetiredLaws.{retired_twice}
use Rattle.sheet.specs.Cases.{M, like_m}
use Rattle.sheet.proofs.Apart.{apart}
use Rattle.sheet.proofs.Cases.{starred}

-- ---- the file of M's record

pub checks_M : checking (record_of M) ≡ counted 1
checks_M = checks M (like_m absent 17 0) (omega arith) starred.a.0

finds_M : finding (record_of M) (record { message_type = 6000; number = 1 }) ≡ found 0 1
finds_M = finds M (like_m absent 17 0) (omega arith) starred.a.0

compares_M : answer_to_comparing (comparing (record_of M) 0 M) ≡ same
compares_M = compares M (like_m absent 17 0) (omega arith) starred.a.0

compared_M : comparing (record_of M) 0 M ≡ positions []
compared_M = compared M (like_m absent 17 0) (omega arith) starred.a.0

-- ---- check: one byte told as no records; a good file told as none

pub check_refuses_one_byte : Checks (7 ∷ []) (Ok 0) → ⊥
unfolding checking bad_file
check_refuses_one_byte kept = let z : ◌≡◌ {A = ℕ} 0 1 = cc in omega arith

pub check_counts_its_records : Checks (record_of M) (Ok 0) → ⊥
check_counts_its_records kept = let z : counted 0 ≡ counted 1 = kept ∙ checks_M in let y : ◌≡◌ {A = ℕ} 0 1 = cc in omega arith

-- ---- find: a record invented; an opened record invented, with 27, with a record found and with a bad one; on past a bad record

pub find_invents_no_record : (name : Name) → Finds [] name (Ok (record { «record» = 0; opened = 1 })) → ⊥
unfolding finding find_from bad_file
find_invents_no_record name kept = let z : ◌≡◌ {A = ℕ} 0 1 = cc in omega arith

pub find_invents_no_opened_record : (name : Name) → Finds [] name (Err (record { refusal = NotFound; opened = 1 })) → ⊥
unfolding finding find_from bad_file
find_invents_no_opened_record name kept = let z : ◌≡◌ {A = ℕ} 1 0 = cc in omega arith

-- a record of zeros is bad, and M stands behind it
pub find_stops_at_a_bad_record : Finds (replicate 512 0 ++ record_of M) (record { message_type = 6000; number = 1 }) (Ok (record { «record» = 1; opened = 2 })) → ⊥
unfolding finding find_from bad_file judged_at judging bad_length stored_length stored_word two_at record_of
find_stops_at_a_bad_record kept = let z : ◌≡◌ {A = ℕ} 0 1 = cc in omega arith

-- counts that are invented where a record is found, and where one is bad
pub find_opens_no_more_than_it_must : Finds (record_of M) (record { message_type = 6000; number = 1 }) (Ok (record { «record» = 0; opened = 2 })) → ⊥
find_opens_no_more_than_it_must kept = apart 2 1 tt (ap opened_number (kept ∙ finds_M))

pub find_counts_the_bad_record : (refusal : Refusal) → Finds (replicate 512 0) (record { message_type = 6000; number = 1 }) (Err (record { refusal = refusal; opened = 0 })) → ⊥
unfolding finding find_from bad_file judged_at judging bad_length stored_length stored_word two_at
find_counts_the_bad_record refusal kept = apart 0 1 tt (ap opened_number kept)

-- ---- step and walk: on past the end; the end of what is no file; a walk that begins later, or on another file; one that stays

pub step_stays_at_the_end : Steps [] 0 (record { answer = Ok None; next = 1 }) → ⊥
unfolding next_after bad_file
step_stays_at_the_end kept = apart 1 0 tt kept.1

pub step_refuses_one_byte : Steps (7 ∷ []) 0 (record { answer = Ok None; next = 0 }) → ⊥
unfolding step_at bad_file
step_refuses_one_byte kept = let z : ◌≡◌ {A = ℕ} 0 1 = cc in omega arith

pub walk_begins_at_the_first : (file : Bor (List ℕ)) → Begins file (record { file = file; next = 1 }) → ⊥
walk_begins_at_the_first file kept = apart 1 0 tt kept.1

pub walk_begins_on_its_file : (file other : Bor (List ℕ)) → file.now ≡ [] → other.now ≡ 7 ∷ [] → Begins file (record { file = other; next = 0 }) → ⊥
walk_begins_on_its_file file other e o kept = apart 1 0 tt (ap length (sym o ∙ ap (λ x. x.now) kept.0 ∙ e))

none_on : next_after [] 0 ≡ 0
unfolding next_after bad_file
none_on = refl

pub walk_stays_at_the_end : (file : Bor (List ℕ)) (r : Result (Option Stored) Refusal) → file.now ≡ [] → Walks (record { file = file; next = 0 }) r (record { file = file; next = 1 }) → ⊥
walk_stays_at_the_end file r e kept = apart 1 0 tt (kept.1.1 ∙ ap (λ (f : List ℕ). next_after f 0) e ∙ none_on)

one_on : next_after (record_of M) 0 ≡ 1
unfolding next_after bad_file record_of
one_on = refl

pub walk_moves_on : (file : Bor (List ℕ)) (r : Result (Option Stored) Refusal) → file.now ≡ record_of M → Walks (record { file = file; next = 0 }) r (record { file = file; next = 0 }) → ⊥
walk_moves_on file r e kept = apart 0 1 tt (kept.1.1 ∙ ap (λ (f : List ℕ). next_after f 0) e ∙ one_on)

-- ---- the stored message: a place past the end invented; a bad record, 257 bytes by its stored length, told as not there

pub stored_message_invents_no_place : Stores [] 0 (record { place = 2; size = 0 }) → ⊥
unfolding stored_message bad_file
stored_message_invents_no_place kept = apart 2 0 tt (ap (λ (p : Span). p.place) kept)

pub stored_message_tells_of_a_bad_record : Stores (replicate 512 1) 0 (record { place = 0; size = 0 }) → ⊥
unfolding stored_message bad_file stored_length stored_word two_at
stored_message_tells_of_a_bad_record kept = apart 0 257 tt (ap (λ (p : Span). p.size) kept)

-- ---- count and entry: one byte told as no records; a file told as none; 22 before 21; a line invented

pub count_refuses_one_byte : Counts (7 ∷ []) (Ok 0) → ⊥
unfolding counting bad_file
count_refuses_one_byte kept = let z : ◌≡◌ {A = ℕ} 0 1 = cc in omega arith

pub count_takes_the_empty_file : Counts [] (Err NotAGoldenFile) → ⊥
unfolding counting bad_file
count_takes_the_empty_file kept = let z : ◌≡◌ {A = ℕ} 0 1 = cc in omega arith

pub entry_refuses_the_file_first : Enters (7 ∷ []) 9 (Err NoRecord) → ⊥
unfolding entry_at bad_file
entry_refuses_the_file_first kept =
    let same : ◌≡◌ {A = Refused} (plainly 22) (plainly 21) = cc in
    apart 22 21 tt (ap (λ (r : Refused). (numbers_of r).number) same)

pub entry_invents_no_line : Enters [] 0 (Ok (record { name = record { message_type = 0; number = 0 }; size = 0; retired = false })) → ⊥
unfolding entry_at bad_file
entry_invents_no_line kept = let z : ◌≡◌ {A = ℕ} 0 1 = cc in omega arith

-- ---- compare: a difference invented; a place beyond the differences written; a list entry written on a refusal

pub compare_invents_no_difference : (entry exit : List ℕ) → Compares (record_of M) 0 M entry (Ok 1) exit → ⊥
compare_invents_no_difference entry exit kept =
    let z : different 1 ≡ same = kept.0 ∙ compares_M in
    let y : ◌≡◌ {A = ℕ} 0 1 = cc in
    omega arith

pub compare_keeps_the_places_beyond : Compares (record_of M) 0 M (9 ∷ []) (Ok 0) (0 ∷ []) → ⊥
unfolding after_comparing noted
compare_keeps_the_places_beyond kept =
    apart 0 9 tt
    (ap (λ (s : List ℕ). get_or s 0 0) (kept.1 ∙ ap (λ (o : CompareOutcome). after_comparing o (9 ∷ [])) (compared_M)))

pub compare_lists_nothing_on_a_refusal : Compares [] 0 M (9 ∷ []) (Err NoRecord) (0 ∷ []) → ⊥
unfolding comparing after_comparing bad_file
compare_lists_nothing_on_a_refusal kept = apart 0 9 tt (ap (λ (s : List ℕ). get_or s 0 0) kept.1)

-- ---- make: into any buffer; nothing touched; a byte behind the message

pub make_refuses_a_short_buffer : (exit : List ℕ) → Makes M (replicate 511 0) (Ok tt) exit → ⊥
unfolding making
make_refuses_a_short_buffer exit kept = told (rw starred.a.0 at kept.0)
  where
    told : made ≡ refused (plainly 35) → ⊥
    told e = let z : ◌≡◌ {A = ℕ} 0 1 = cc in omega arith

makes_M : making M 512 ≡ made
unfolding making
makes_M = rw starred.a.0 refl

pub make_does_not_touch_nothing : Makes M (replicate 512 0) (Ok tt) (replicate 512 0) → ⊥
unfolding record_of
make_does_not_touch_nothing kept =
    apart 0 21 tt (ap (λ (s : List ℕ). get_or s 1 0) (kept.1 ∙ ap (λ (a : MakeAnswer). after_making a M (replicate 512 0)) makes_M))

pub make_puts_zeros_behind : Makes M (replicate 512 0) (Ok tt) (set (record_of M) 511 1) → ⊥
unfolding record_of
make_puts_zeros_behind kept =
    apart 1 0 tt (ap (λ (s : List ℕ). get_or s 511 0) (kept.1 ∙ ap (λ (a : MakeAnswer). after_making a M (replicate 512 0)) makes_M))

-- ---- retire: one byte for a file; nothing marked; a record retired twice

pub retire_refuses_one_byte : (entry exit : List ℕ) → Retires (7 ∷ []) 0 entry (Ok tt) exit → ⊥
unfolding retiring bad_file
retire_refuses_one_byte entry exit kept = let z : ◌≡◌ {A = ℕ} 0 1 = cc in omega arith

retires_M : retiring (record_of M) 0 512 ≡ done
retires_M = retires M (like_m absent 17 0) (omega arith) starred.a.0

pub retire_marks_the_record : Retires (record_of M) 0 (replicate 512 0) (Ok tt) (record_of M) → ⊥
unfolding marked record_of
retire_marks_the_record kept =
    apart 0 128 tt (ap (λ (s : List ℕ). get_or s 0 0) (kept.1 ∙ ap (λ (a : RetireAnswer). after_retiring a (record_of M) 0 (replicate 512 0)) retires_M))

pub retire_refuses_a_retired_record : (exit : List ℕ) → Retires (marked (record_of M) 0) 0 (replicate 512 0) (Ok tt) exit → ⊥
retire_refuses_a_retired_record exit kept =
    let z : done ≡ retire.refused (plainly 36) = kept.0 ∙ retired_twice (record_of M) 0 512 512 retires_M in
    let y : ◌≡◌ {A = ℕ} 0 1 = cc in
    omega arith

-- ---- the numbers of a refusal: another rule's; reading's own left out

pub a_golden_refusal_keeps_its_number : NumbersGoldenRefusal BadLength (record { number = 24; reading = 0; place = 0 }) → ⊥
a_golden_refusal_keeps_its_number kept = apart 24 23 tt (ap (λ (r : RefusalNumbers). r.number) kept)

pub a_golden_refusal_passes_reading_on : NumbersGoldenRefusal (RecordRefused (record { fault = TooShort; place = 9 })) (record { number = 25; reading = 0; place = 9 }) → ⊥
a_golden_refusal_passes_reading_on kept = apart 0 1 tt (ap (λ (r : RefusalNumbers). r.reading) kept)

pub a_golden_refusal_passes_the_place_on : NumbersGoldenRefusal (RecordRefused (record { fault = BadFlags; place = 4 })) (record { number = 25; reading = 3; place = 0 }) → ⊥
a_golden_refusal_passes_the_place_on kept = apart 0 4 tt (ap (λ (n : RefusalNumbers). n.place) kept)
