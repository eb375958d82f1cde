-- A file of 128 records in which find by halving opens eight: the first is sought, and the records at 64, 32, 16, 8, 4, 2, 1 and 0 are opened.
-- Each record of that file is the one that its number says; the eight that are opened are computed.
use mathlib.Core.Bool.{false}
use mathlib.Core.List.{List, [], ◌∷◌, ◌++◌}
use mathlib.Core.Path.{◌≡◌, refl, ap, ◌∙◌}
use Prim.Native.Nat.{ℕ, zero, suc, ◌+◌, ◌*◌, ◌-◌, ◌/◌, ◌<◌}
use native.Mathlib.Omega.{arith}
use lib.ListN.{length, take, drop, length-append}
use Rattle.envelope.specs.Addresses.{bad_addresses}
use Rattle.envelope.specs.Fields.{Fields}
use Rattle.envelope.specs.Flags.{bad_flags}
use Rattle.envelope.specs.Heading.{heading, announced, bad_variable_size}
use Rattle.envelope.specs.IntegrityField.{bad_integrity}
use Rattle.envelope.specs.Numbers.{two_at, three_at, four_at}
use Rattle.envelope.specs.Reading.{reading, reading_whole, fields_of, header_of, addressing_of, integrity_of}
use Rattle.golden.specs.File.{bad_file, count_of, record_at, judged_at}
use Rattle.golden.specs.Finding.{FindAnswer, found}
use Rattle.golden.specs.Halving.{precedes, half, decides_half, halving_from}
use Rattle.golden.specs.Making.{record_of}
use Rattle.golden.specs.Record.{record_size, stored_word, is_retired, stored_length, all_zero, bad_length, Judged, good, judging}
use Rattle.golden.proofs.FileLaws.{file_whole}
use Rattle.golden.proofs.HalvingLaws.{halving_start, halving_on}
use Rattle.sheet.specs.HalvingCases.{records_from, EightAreNeeded}
use Rattle.sheet.specs.SmallFiles.{numbered, name}

-- ---- the records of the file

behind : (a b : List ℕ) (j : ℕ) → drop (length a + j) (a ++ b) ≡ drop j b
behind [] b j = let q : length {A = ℕ} [] + j ≡ j = omega arith in rw q
behind (x ∷ a) b j = let q : length (x ∷ a) + j ≡ suc (length a + j) = omega arith in rw q (behind a b j)

in_front : (a b : List ℕ) → take (length a) (a ++ b) ≡ a
in_front [] b = refl
in_front (x ∷ a) b = ap (λ (s : List ℕ). x ∷ s) (in_front a b)

record_long : (n : ℕ) → length (record_of (numbered n)) ≡ record_size
unfolding record_of
record_long n = refl

record_at_lem : (k n left : ℕ) → k < left → record_at (records_from n left) k ≡ record_of (numbered (n + k))
unfolding records_from
record_at_lem k n zero l = absurd (omega arith)
record_at_lem zero n (suc left) l =
    let r = record_of (numbered n) in
    let here : n + 0 ≡ n = omega arith in
    rw (here, ← record_long n) (in_front r (records_from (n + 1) left))
record_at_lem (suc k) n (suc left) l =
    let r = record_of (numbered n) in
    let on : n + suc k ≡ n + 1 + k = omega arith in
    let past : suc k * record_size ≡ length r + k * record_size = omega (arith, record_long n) in
    rw on
    (ap (λ (j : ℕ). take record_size (drop j (r ++ records_from (n + 1) left))) past
    ∙ ap (take record_size) (behind r (records_from (n + 1) left) (k * record_size))
    ∙ record_at_lem k (n + 1) left (omega arith))

file_long : (n left : ℕ) → length (records_from n left) ≡ left * record_size
unfolding records_from
file_long n zero = refl
file_long n (suc left) =
    length-append (record_of (numbered n)) (records_from (n + 1) left) ∙ omega (arith, record_long n, file_long (n + 1) left)

abbrev file : List ℕ
file = records_from 0 128

count : count_of file ≡ 128
count = ap (λ (k : ℕ). k / record_size) (file_long 0 128)

whole : bad_file file ≡ false
whole = let l = file_long 0 128 in let c = count in file_whole file (record { full = omega (arith, l, c); few = omega (arith, c) })

-- ---- one opening: the record at half of the range comes behind the first, and the search goes on before it

record Later (k : ℕ) : Type 0 where
  fields : Fields
  judged : judging (record_of (numbered k)) ≡ good false fields
  goes_down : (n opened : ℕ) (up down : FindAnswer) → decides_half (name 0) n opened (good false fields) up down ≡ down

judged_at_lem : (k : ℕ) → k < 128 → (j : Judged) → judging (record_of (numbered k)) ≡ j → judged_at file k ≡ j
unfolding judged_at
judged_at_lem k l j e = ap judging (record_at_lem k 0 128 l ∙ ap (λ (n : ℕ). record_of (numbered n)) (omega arith)) ∙ e

down : (end opened : ℕ) → 0 < end → half 0 end < 128 → Later (half 0 end)
    → halving_from file (name 0) (end - 0) 0 end opened ≡ halving_from file (name 0) (half 0 end - 0) 0 (half 0 end) (opened + 1)
down end opened l m later =
    halving_on file (name 0) 0 end opened l (good false later.fields) (judged_at_lem (half 0 end) m _ later.judged)
    ∙ later.goes_down (half 0 end) (opened + 1) _ _

record Opened : Type 0 where
  at_64 : Later 64
  at_32 : Later 32
  at_16 : Later 16
  at_8 : Later 8
  at_4 : Later 4
  at_2 : Later 2
  at_1 : Later 1

opened_ones : Opened
unfolding reading reading_whole fields_of header_of addressing_of integrity_of heading announced bad_flags bad_variable_size bad_addresses bad_integrity two_at three_at four_at record_of stored_word is_retired stored_length all_zero bad_length judging precedes
opened_ones =
    record {
      at_64 = record { fields = _; judged = refl; goes_down = λ n opened up down. refl };
      at_32 = record { fields = _; judged = refl; goes_down = λ n opened up down. refl };
      at_16 = record { fields = _; judged = refl; goes_down = λ n opened up down. refl };
      at_8 = record { fields = _; judged = refl; goes_down = λ n opened up down. refl };
      at_4 = record { fields = _; judged = refl; goes_down = λ n opened up down. refl };
      at_2 = record { fields = _; judged = refl; goes_down = λ n opened up down. refl };
      at_1 = record { fields = _; judged = refl; goes_down = λ n opened up down. refl };
    }

-- the first record is the one sought
record Sought : Type 0 where
  fields : Fields
  judged : judging (record_of (numbered 0)) ≡ good false fields
  is_found : (up down : FindAnswer) → decides_half (name 0) 0 8 (good false fields) up down ≡ found 0 8

first : Sought
unfolding reading reading_whole fields_of header_of addressing_of integrity_of heading announced bad_flags bad_variable_size bad_addresses bad_integrity two_at three_at four_at record_of stored_word is_retired stored_length all_zero bad_length judging
first = record { fields = _; judged = refl; is_found = λ up down. refl }

pub eight_are_needed : EightAreNeeded
eight_are_needed =
    let o = opened_ones in
    halving_start file (name 0) whole
    ∙ ap (λ (end : ℕ). halving_from file (name 0) (end - 0) 0 end 0) count
    ∙ down 128 0 (omega arith) (omega arith) o.at_64
    ∙ down 64 1 (omega arith) (omega arith) o.at_32
    ∙ down 32 2 (omega arith) (omega arith) o.at_16
    ∙ down 16 3 (omega arith) (omega arith) o.at_8
    ∙ down 8 4 (omega arith) (omega arith) o.at_4
    ∙ down 4 5 (omega arith) (omega arith) o.at_2
    ∙ down 2 6 (omega arith) (omega arith) o.at_1
    ∙ halving_on file (name 0) 0 1 7 (omega arith) (good false first.fields) (judged_at_lem 0 (omega arith) _ first.judged)
    ∙ first.is_found _ _
