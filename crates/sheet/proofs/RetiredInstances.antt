-- No theorem of K7 is empty: for each that has hypotheses a case in which they hold, computed, and what it then says.
-- The files are those of specs/SmallFiles; `two` is without marks, and `withdrawn` is what retiring its first record writes.
use Rattle.std.specs.Prelude.{Ok, Err}
use mathlib.Core.Bool.{false}
use mathlib.Core.List.{List, [], ◌∷◌}
use mathlib.Core.Path.{◌≡◌, refl, sym, ap, ◌∙◌}
use Prim.Native.Nat.{ℕ, zero, suc, ◌<◌}
use native.Mathlib.Omega.{arith}
use lib.Dec.{lit<}
use lib.ListN.{length, replicate}
use Rattle.envelope.specs.Fields.{refusal_by}
use Rattle.envelope.specs.Fields as envelope
use Rattle.envelope.specs.Numbers.{two_at}
use Rattle.envelope.specs.Reading.{reading}
use Rattle.envelope.specs.Refusals.{plainly, Gives}
use Rattle.golden.specs.Checking.{counted, checking}
use Rattle.golden.specs.File.{bad_file, count_of, record_at}
use Rattle.golden.specs.Finding.{found, finding}
use Rattle.golden.specs.Finding as find
use Rattle.golden.specs.Listing.{counting_retired}
use Rattle.golden.specs.Listing as listing
use Rattle.golden.specs.Making.{record_of}
use Rattle.golden.specs.Record.{stored_word, retired_mark, message_of}
use Rattle.golden.specs.Retired.{RetiredOne}
use Rattle.golden.specs.Retiring.{RetireAnswer, done, refused, retiring, after_retiring}
use Rattle.golden.specs.WithoutMark.{MeansTheSame}
use Rattle.golden.specs.declared.refusal.Refusal.TheVariants.{AlreadyRetired}
use Rattle.sheet.specs.SmallFiles.{name, two, withdrawn, broken}
use Rattle.sheet.proofs.Demand1.{count_retired_gives, retire_gives, a_refused_retiring_keeps_the_buffer}
use Rattle.sheet.proofs.Retiring.{unmarked_means_the_same, none_retired, retire_marks_one, retired_still_passes, retire_counts_one, others_are_found, name_is_withdrawn, retired_twice, passed_still_passes, retired_is_written, retire_passes_on}
use Rattle.sheet.proofs.RetiredCases.{retirings}
use Rattle.sheet.proofs.SmallFiles.{small}

whole : (bad_file two ≡ false) × (count_of two ≡ 2)
unfolding bad_file record_of
whole = (refl, refl)

first_unmarked : stored_word (record_at two 0) ≡ 21
unfolding stored_word two_at record_of
first_unmarked = refl

second_unmarked : stored_word (record_at two 1) ≡ 21
unfolding stored_word two_at record_of
second_unmarked = refl

unmarked : (k : ℕ) → k < count_of two → stored_word (record_at two k) < retired_mark
unmarked zero l = rw first_unmarked (lit< tt)
unmarked (suc zero) l = rw second_unmarked (lit< tt)
unmarked (suc (suc k)) l = let c = whole.1 in absurd (omega arith)

pub two_means_the_same : MeansTheSame two
two_means_the_same = unmarked_means_the_same two unmarked

pub none_of_two_is_retired : counting_retired two ≡ listing.counted 0
none_of_two_is_retired = none_retired two whole.0 unmarked

pub first_of_two_retired : RetiredOne two 0 withdrawn
first_of_two_retired = retire_marks_one two 0 1024 retirings.retires

pub withdrawn_still_passes : checking withdrawn ≡ counted 2
withdrawn_still_passes = retired_still_passes two 0 1024 2 retirings.retires small.two_pass

pub one_of_withdrawn_is_retired : counting_retired withdrawn ≡ listing.counted 1
one_of_withdrawn_is_retired = retire_counts_one two 0 1024 0 retirings.retires none_of_two_is_retired

not_first : (opened : ℕ) → finding two (name 2) ≡ found 0 opened → ⊥
not_first opened e = let z : found 1 2 ≡ found 0 opened = sym small.finds_second ∙ e in let y : ◌≡◌ {A = ℕ} 1 0 = cc in omega arith

pub the_second_is_found_as_before : finding withdrawn (name 2) ≡ finding two (name 2)
the_second_is_found_as_before = others_are_found two 0 1024 (name 2) retirings.retires not_first

pub the_first_is_withdrawn : finding withdrawn (name 1) ≡ find.refused (plainly 27) 2
the_first_is_withdrawn = name_is_withdrawn two 0 1024 2 1 (name 1) retirings.retires small.two_pass small.finds_first

pub two_passed_and_passes : (checking two ≡ counted 2) × MeansTheSame two
two_passed_and_passes = passed_still_passes two 2 (sym two_means_the_same.checks ∙ small.two_pass)

pub withdrawn_twice : retiring withdrawn 0 7 ≡ refused (plainly 36)
withdrawn_twice = retired_twice two 0 1024 7 retirings.retires

abbrev room : List ℕ
room = replicate 1024 0

retires_in : retiring two 0 (length room) ≡ done
retires_in = retirings.retires

pub withdrawn_is_written : RetiredOne two 0 withdrawn
withdrawn_is_written =
    retired_is_written two 0 room withdrawn (Ok tt)
    (sym retires_in, ap (λ (a : RetireAnswer). after_retiring a two 0 room) (sym retires_in)) refl

pub a_refused_one_keeps_its_buffer : ◌≡◌ {A = List ℕ} (0 ∷ []) (0 ∷ [])
a_refused_one_keeps_its_buffer =
    a_refused_retiring_keeps_the_buffer withdrawn 0 (0 ∷ []) (0 ∷ []) (Err AlreadyRetired) (plainly 36)
    (sym retirings.already, ap (λ (a : RetireAnswer). after_retiring a withdrawn 0 (0 ∷ [])) (sym retirings.already)) refl

pub retire_passed_7_on : reading (message_of (record_at broken 0)) ≡ envelope.refused (refusal_by 7 17)
retire_passed_7_on = retire_passes_on broken 0 512 25 (refusal_by 7 17) retirings.bad_record

pub retire_gave_22 : Gives (21 ∷ 22 ∷ 23 ∷ 24 ∷ 36 ∷ 37 ∷ []) (25 ∷ []) (plainly 22)
retire_gave_22 = retire_gives two 2 1024 (plainly 22) retirings.no_record

pub count_retired_gave_21 : Gives (21 ∷ []) [] (plainly 21)
unfolding counting_retired bad_file
count_retired_gave_21 = count_retired_gives (7 ∷ []) (plainly 21) refl
