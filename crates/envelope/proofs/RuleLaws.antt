-- Each rule of reading by itself, and reading as the table of them: what a second reader cites.
-- So it opens none of these definitions.
use Rattle.std.proofs.Common.{◌≡◌, ℕ, ◌+◌, ◌/◌, ◌<◌, ◌≤◌, Bool, true, false, cond, not, eqb, ltb, List, length, take, refl, ap, arith, le-ltb, lt-ltb, eq-eqb, ne_eqb, le-leb}
use Rattle.sum.specs.Crc.{crc32}
use Rattle.envelope.specs.Addresses.{bad_addresses}
use Rattle.envelope.specs.Fields.{Answer, accepted, refusal_by, refused_by}
use Rattle.envelope.specs.Flags.{kind_of, kind_none, kind_crc, kind_unassigned, bad_flags}
use Rattle.envelope.specs.Heading.{flags_of, variable_size, field_place, wrong_version, bad_variable_size, passed, heading}
use Rattle.envelope.specs.Heading as judged
use Rattle.envelope.specs.IntegrityField.{bad_integrity}
use Rattle.envelope.specs.Layout.{version_place, flags_place, data_length_place, variable_size_place, addresses_place, smallest_variable, largest_variable}
use Rattle.envelope.specs.Numbers.{byte_at, two_bytes, three_bytes, four_bytes, two_at, three_at, four_at}
use Rattle.envelope.specs.Reading.{too_short, wrong_length, fields_of, reading_whole, after, reading}

-- ---- the numbers at a place

pub two_at_is : (s : List ℕ) (i : ℕ) → two_at s i ≡ two_bytes (byte_at s i) (byte_at s (i + 1))
unfolding two_at
two_at_is s i = refl

pub three_at_is : (s : List ℕ) (i : ℕ) → three_at s i ≡ three_bytes (byte_at s i) (byte_at s (i + 1)) (byte_at s (i + 2))
unfolding three_at
three_at_is s i = refl

pub four_at_is : (s : List ℕ) (i : ℕ) → four_at s i ≡ four_bytes (byte_at s i) (byte_at s (i + 1)) (byte_at s (i + 2)) (byte_at s (i + 3))
unfolding four_at
four_at_is s i = refl

-- ---- rule 3

pub flags_unassigned : (flags : ℕ) → (flags / 32 ≡ 0 → ⊥) → bad_flags flags ≡ true
unfolding bad_flags
flags_unassigned flags h = rw (ne_eqb (flags / 32) 0 h)

pub flags_assigned : (flags : ℕ) → flags / 32 ≡ 0 → bad_flags flags ≡ eqb (kind_of flags) kind_unassigned
unfolding bad_flags
flags_assigned flags h = rw (eq-eqb (flags / 32) 0 h)

-- ---- rule 4

pub size_absent : (v : ℕ) → v ≡ 0 → bad_variable_size v ≡ false
unfolding bad_variable_size
size_absent v e = rw e

pub size_small : (v : ℕ) → 1 ≤ v → v < smallest_variable → bad_variable_size v ≡ true
unfolding bad_variable_size
size_small v h k = rw (le-leb 1 v h, lt-ltb v smallest_variable k)

pub size_large : (v : ℕ) → smallest_variable ≤ v → bad_variable_size v ≡ ltb largest_variable v
unfolding bad_variable_size
size_large v h = rw (le-leb 1 v (omega arith), le-ltb v smallest_variable h)

-- ---- rule 6; where there are addresses, AddressLaws has it

pub addresses_absent : (s : List ℕ) (v : ℕ) → v ≡ 0 → bad_addresses s v ≡ false
unfolding bad_addresses
addresses_absent s v e = rw (eq-eqb v 0 e)

-- ---- rule 7

module _ (s : List ℕ) (kind place : ℕ) where
  pub integrity_none : kind ≡ kind_none → bad_integrity s kind place ≡ not (eqb (four_at s place) 0)
  unfolding bad_integrity
  integrity_none e = rw (eq-eqb kind kind_none e)

  pub integrity_crc : kind ≡ kind_crc → bad_integrity s kind place ≡ not (eqb (four_at s place) (crc32 (take place s)))
  unfolding bad_integrity
  integrity_crc e = rw e

  pub integrity_other : (kind ≡ kind_none → ⊥) → (kind ≡ kind_crc → ⊥) → bad_integrity s kind place ≡ false
  unfolding bad_integrity
  integrity_other n c = rw (ne_eqb kind kind_none n, ne_eqb kind kind_crc c)

-- ---- the table

after_heading : (a b c : Bool) (rest : Answer)
    → after (cond a (judged.refused (refusal_by 2 version_place)) (cond b (judged.refused (refusal_by 3 flags_place)) (cond c (judged.refused (refusal_by 4 variable_size_place)) passed))) rest
    ≡ cond a (refused_by 2 version_place) (cond b (refused_by 3 flags_place) (cond c (refused_by 4 variable_size_place) rest))
after_heading true b c rest = refl
after_heading false true c rest = refl
after_heading false false true rest = refl
after_heading false false false rest = refl

pub reading_by_rules : (s : List ℕ) → reading s
    ≡ cond (too_short s) (refused_by 1 (length s))
    (cond (wrong_version s) (refused_by 2 version_place)
    (cond (bad_flags (flags_of s)) (refused_by 3 flags_place)
    (cond (bad_variable_size (variable_size s)) (refused_by 4 variable_size_place)
    (cond (wrong_length s) (refused_by 5 data_length_place)
    (cond (bad_addresses s (variable_size s)) (refused_by 6 addresses_place)
    (cond (bad_integrity s (kind_of (flags_of s)) (field_place s)) (refused_by 7 (field_place s))
    (accepted (fields_of s))))))))
unfolding reading reading_whole heading
reading_by_rules s =
    ap (cond (too_short s) (refused_by 1 (length s)))
    (after_heading (wrong_version s) (bad_flags (flags_of s)) (bad_variable_size (variable_size s)) _)
