-- No theorem of K4 is empty: for each that has hypotheses a case in which they hold, computed, and what it then says.
-- The files are those of specs/SmallFiles and specs/NameCases.
use mathlib.Core.Bool.{false}
use mathlib.Core.List.{List, [], ◌∷◌, ◌++◌}
use mathlib.Core.Path.{◌≡◌, refl}
use Prim.Native.Nat.{ℕ, zero, suc, ◌+◌, ◌*◌, ◌<◌}
use native.Mathlib.Omega.{arith}
use Rattle.envelope.specs.Addresses.{bad_addresses}
use Rattle.envelope.specs.Flags.{bad_flags}
use Rattle.envelope.specs.Heading.{heading, announced, bad_variable_size}
use Rattle.envelope.specs.IntegrityField.{bad_integrity}
use Rattle.envelope.specs.Numbers.{two_at, three_at, four_at}
use Rattle.envelope.specs.Reading.{reading, reading_whole, fields_of, header_of, addressing_of, integrity_of}
use Rattle.envelope.specs.Refusals.{plainly, Gives}
use Rattle.golden.specs.Checking.{counted, refused, repeats, check_from, checking}
use Rattle.golden.specs.File.{bad_file, count_of, record_at, judged_at}
use Rattle.golden.specs.Finding.{name_of, found, finding}
use Rattle.golden.specs.Making.{record_of}
use Rattle.golden.specs.Pairing.{any_below}
use Rattle.golden.specs.Record.{stored_word, is_retired, stored_length, all_zero, bad_length, judging}
use Rattle.golden.specs.Theorems.{GoodAt, OneName, Later, NamedBy, TakenOut, TheOne}
use Rattle.golden.specs.Without26.{checking_without26}
use Rattle.golden.proofs.FileLaws.{one_more}
use Rattle.sheet.specs.SmallFiles.{numbered, name, two, twice}
use Rattle.sheet.proofs.Demand1.{check_gives}
use Rattle.sheet.proofs.Demand2.{no_two_of_one_name, refuses_the_later, later_is_refused, any_two_are_refused, earlier_is_found, fewer_still_pass, finds_the_one, passed_without_26}
use Rattle.sheet.proofs.NameCases.{names}
use Rattle.sheet.proofs.SmallFiles.{small}

pub two_have_names_apart : OneName two 0 1 → ⊥
two_have_names_apart = no_two_of_one_name two 2 0 1 small.two_pass (omega arith) (omega arith)

pub twice_has_a_later : Later twice 1
twice_has_a_later = refuses_the_later twice 1 names.the_later

-- the records up to the later one are good: those before it are sound, and so is it
all_good : (m : ℕ) → m < 2 → GoodAt twice m
all_good = one_more (GoodAt twice) 1 twice_has_a_later.sound.records (record { retired = _; fields = _; judged = twice_has_a_later.one_name.second_lives })

whole : bad_file twice ≡ false
unfolding bad_file record_of
whole = refl

pub twice_is_refused : checking twice ≡ refused 1 (plainly 26)
twice_is_refused = later_is_refused twice 1 whole twice_has_a_later

pub twice_is_named : NamedBy twice 1
twice_is_named =
    let w = twice_has_a_later in
    any_two_are_refused twice w.earlier 1 whole w.before w.there all_good w.one_name

pub the_earlier_is_found :
    finding twice (name_of twice_has_a_later.one_name.second) ≡ found twice_has_a_later.earlier (twice_has_a_later.earlier + 1)
the_earlier_is_found = earlier_is_found twice 1 whole twice_has_a_later

pub two_has_one_second : TheOne two (name 2) 2 (finding two (name 2))
two_has_one_second = finds_the_one two (name 2) 2 small.two_pass

pub two_passed_before : checking_without26 two ≡ counted 2
two_passed_before = passed_without_26 two 2 small.two_pass

pub check_gave_26 : Gives (21 ∷ 23 ∷ 24 ∷ 26 ∷ []) (25 ∷ []) (plainly 26)
check_gave_26 = check_gives twice 1 (plainly 26) names.the_later

-- ---- three records, and the same without the one in the middle

abbrev three : List ℕ
three = two ++ record_of (numbered 3)

abbrev without_middle : List ℕ
without_middle = record_of (numbered 1) ++ record_of (numbered 3)

three_pass : checking three ≡ counted 3
unfolding reading reading_whole fields_of header_of addressing_of integrity_of heading announced bad_flags bad_variable_size bad_addresses bad_integrity two_at three_at four_at bad_file record_of stored_word is_retired stored_length all_zero bad_length judging judged_at any_below repeats check_from checking
three_pass = refl

counts : (count_of three ≡ 3) × ((count_of without_middle ≡ 2) × (bad_file without_middle ≡ false))
unfolding bad_file record_of
counts = (refl, (refl, refl))

first_stays : record_at without_middle 0 ≡ record_at three 0
unfolding record_of
first_stays = refl

last_moves : record_at without_middle 1 ≡ record_at three 2
unfolding record_of
last_moves = refl

middle_taken_out : TakenOut three without_middle
middle_taken_out =
    record { whole = counts.1.1; from = λ k. 2 * k; there = there; in_order = λ i k a l. omega arith; records = records }
  where
    there : (k : ℕ) → k < count_of without_middle → 2 * k < count_of three
    there k l =
        let a = counts.0 in
        let b = counts.1.0 in
        omega arith

    records : (k : ℕ) → k < count_of without_middle → record_at without_middle k ≡ record_at three (2 * k)
    records zero l = first_stays
    records (suc zero) l = last_moves
    records (suc (suc k)) l = let b = counts.1.0 in absurd (omega arith)

pub without_the_middle_it_passes : checking without_middle ≡ counted (count_of without_middle)
without_the_middle_it_passes = fewer_still_pass three without_middle 3 three_pass middle_taken_out
