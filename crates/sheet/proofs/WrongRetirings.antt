-- Answers that a careless program would give of retired records, each refuted by computing.
-- The files are those of specs/SmallFiles and specs/RetiredCases.
use Rattle.std.specs.Prelude.{Ok, Err, Some}
use mathlib.Core.Bool.{true, false}
use mathlib.Core.List.{List, [], ◌∷◌}
use mathlib.Core.Path.{◌≡◌, ap, ◌∙◌}
use Prim.Native.Nat.{ℕ}
use native.Mathlib.Omega.{arith}
use lib.ListN.{take, get_or, set, replicate}
use Rattle.envelope.specs.Fields.{refusal_by}
use Rattle.envelope.specs.Refusals.{Refused, plainly, passing_on, numbers_of}
use Rattle.envelope.specs.declared.reader.Fault.TheVariants.{TooShort}
use Rattle.golden.specs.Checking.{Checks}
use Rattle.golden.specs.Comparing.{CompareAnswer, answer_to_comparing, Compares}
use Rattle.golden.specs.Comparing as compare
use Rattle.golden.specs.Finding.{Finds}
use Rattle.golden.specs.Listing.{line, CountsRetired, Enters}
use Rattle.golden.specs.Making.{record_of}
use Rattle.golden.specs.Retiring.{marked, RetireAnswer, after_retiring, Retires}
use Rattle.golden.specs.Retiring as retire
use Rattle.golden.specs.Stepping.{message, Steps}
use Rattle.golden.specs.Theorems.{opened_number, counted_number}
use Rattle.golden.specs.declared.refusal.Refusal.TheVariants.{BadLength, NotFound, RadioRefused, AlreadyRetired, WrongCopy, RecordRetired}
use Rattle.sheet.specs.RetiredCases.{broken_marked}
use Rattle.sheet.specs.SmallFiles.{numbered, two, withdrawn, by25}
use Rattle.sheet.proofs.Apart.{apart}
use Rattle.sheet.proofs.RetiredCases.{retirings}

-- the number of a refusal
number : Refused → ℕ
number r = (numbers_of r).number

-- ---- check: the mark taken for a part of the length; retired records left out of the count

pub check_does_not_judge_the_mark : Checks withdrawn (Err (record { «record» = 0; refusal = BadLength })) → ⊥
check_does_not_judge_the_mark kept = let e = kept ∙ retirings.withdrawn_passes in let z : ◌≡◌ {A = ℕ} 0 1 = cc in omega arith

pub check_counts_retired_records : Checks withdrawn (Ok 1) → ⊥
check_counts_retired_records kept = let e = kept ∙ retirings.withdrawn_passes in let z : ◌≡◌ {A = ℕ} 1 2 = cc in omega arith

-- ---- find: a retired record given; the search ended at it; it not counted as opened

pub find_gives_no_retired_record : Finds withdrawn (record { message_type = 6000; number = 1 }) (Ok (record { «record» = 0; opened = 1 })) → ⊥
find_gives_no_retired_record kept = apart 1 2 tt (ap opened_number (kept ∙ retirings.withdrawn_name))

pub find_does_not_stop_at_a_retired_record : Finds withdrawn (record { message_type = 6000; number = 1 }) (Err (record { refusal = NotFound; opened = 1 })) → ⊥
find_does_not_stop_at_a_retired_record kept = apart 1 2 tt (ap opened_number (kept ∙ retirings.withdrawn_name))

pub find_counts_retired_records : Finds withdrawn (record { message_type = 6000; number = 2 }) (Ok (record { «record» = 1; opened = 1 })) → ⊥
find_counts_retired_records kept = apart 1 2 tt (ap opened_number (kept ∙ retirings.other_name))

-- ---- step, entry and the count: a retired record told as live; none counted; a bad one counted

pub step_tells_that_it_is_retired : Steps withdrawn 0 (record { answer = Ok (Some (record { part = (record { place = 2; size = 21 }); retired = false })); next = 1 }) → ⊥
step_tells_that_it_is_retired kept =
    let e : message false _ ≡ message true _ = kept.0 ∙ retirings.steps_retired in
    let z : false ≡ true = cc in
    let y : ◌≡◌ {A = ℕ} 0 1 = cc in
    omega arith

pub entry_tells_that_it_is_retired : Enters withdrawn 0 (Ok (record { name = record { message_type = 6000; number = 1 }; size = 21; retired = false })) → ⊥
entry_tells_that_it_is_retired kept =
    let e : line 6000 1 21 false ≡ line 6000 1 21 true = kept ∙ retirings.lists_retired in
    let z : false ≡ true = cc in
    let y : ◌≡◌ {A = ℕ} 0 1 = cc in
    omega arith

pub retired_records_are_counted : CountsRetired withdrawn (Ok 0) → ⊥
retired_records_are_counted kept = apart 0 1 tt (ap counted_number (kept ∙ retirings.counts_retired))

pub a_bad_record_is_not_retired : CountsRetired broken_marked (Ok 1) → ⊥
a_bad_record_is_not_retired kept = apart 1 0 tt (ap counted_number (kept ∙ retirings.counts_no_bad))

-- ---- compare: a retired record compared; 38 told of a bad one; 31 told of a retired one

pub compare_refuses_a_retired_record : (entry exit : List ℕ) → Compares withdrawn 0 (numbered 1) entry (Ok 0) exit → ⊥
unfolding answer_to_comparing
compare_refuses_a_retired_record entry exit kept =
    let e : ◌≡◌ {A = CompareAnswer} compare.same (compare.refused (plainly 38)) = kept.0 ∙ ap answer_to_comparing retirings.compares_retired in
    let z : ◌≡◌ {A = ℕ} 0 1 = cc in
    omega arith

pub compare_tells_25_before_38 : (entry exit : List ℕ) → Compares broken_marked 0 (numbered 1) entry (Err RecordRetired) exit → ⊥
unfolding answer_to_comparing number
compare_tells_25_before_38 entry exit kept =
    let e : ◌≡◌ {A = CompareAnswer} (compare.refused (plainly 38)) (compare.refused by25) = kept.0 ∙ ap answer_to_comparing retirings.after_25 in
    let same : plainly 38 ≡ by25 = cc in
    apart 38 25 tt (ap number same)

pub compare_tells_38_before_31 : (entry exit : List ℕ) → Compares withdrawn 0 (take 20 (numbered 1)) entry (Err (RadioRefused (record { fault = TooShort; place = 20 }))) exit → ⊥
unfolding answer_to_comparing number
compare_tells_38_before_31 entry exit kept =
    let e : ◌≡◌ {A = CompareAnswer} (compare.refused (passing_on 31 (refusal_by 1 20))) (compare.refused (plainly 38)) = kept.0 ∙ ap answer_to_comparing retirings.before_31 in
    let same : passing_on 31 (refusal_by 1 20) ≡ plainly 38 = cc in
    apart 31 38 tt (ap number same)

-- ---- retire: 37 before 36; a longer buffer taken; the buffer written on a refusal; another bit set; another byte changed

retire_number : RetireAnswer → ℕ
retire_number retire.done = 0
retire_number (retire.refused r) = number r

pub retire_tells_36_before_37 : (exit : List ℕ) → Retires withdrawn 0 (0 ∷ []) (Err WrongCopy) exit → ⊥
unfolding retire_number number
retire_tells_36_before_37 exit kept = apart 37 36 tt (ap retire_number (kept.0 ∙ retirings.already))

pub retire_takes_no_longer_buffer : (exit : List ℕ) → Retires two 0 (replicate 1025 0) (Ok tt) exit → ⊥
unfolding retire_number number
retire_takes_no_longer_buffer exit kept = apart 0 37 tt (ap retire_number (kept.0 ∙ retirings.too_long))

pub retire_writes_nothing_on_a_refusal : Retires withdrawn 0 (0 ∷ []) (Err AlreadyRetired) (1 ∷ []) → ⊥
retire_writes_nothing_on_a_refusal kept =
    apart 1 0 tt (ap (λ (s : List ℕ). get_or s 0 0) (kept.1 ∙ ap (λ (a : RetireAnswer). after_retiring a withdrawn 0 (0 ∷ [])) retirings.already))

-- what the buffer holds after record 0 of `two` was retired
written : (exit : List ℕ) → Retires two 0 (replicate 1024 0) (Ok tt) exit → exit ≡ withdrawn
written exit kept = kept.1 ∙ ap (λ (a : RetireAnswer). after_retiring a two 0 (replicate 1024 0)) retirings.retires

pub retire_sets_no_other_bit : Retires two 0 (replicate 1024 0) (Ok tt) (set two 0 64) → ⊥
unfolding marked record_of
retire_sets_no_other_bit kept = apart 64 128 tt (ap (λ (s : List ℕ). get_or s 0 0) (written (set two 0 64) kept))

pub retire_changes_no_other_byte : Retires two 0 (replicate 1024 0) (Ok tt) (set withdrawn 512 128) → ⊥
unfolding marked record_of
retire_changes_no_other_byte kept = apart 128 0 tt (ap (λ (s : List ℕ). get_or s 512 0) (written (set withdrawn 512 128) kept))
