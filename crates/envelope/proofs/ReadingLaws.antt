-- What acceptance says, for the layers above: they cite these laws and never open the definition of reading.
-- `Good` has everything that an accepted message keeps; the laws below are its parts in 01's words.
use Rattle.std.proofs.Common.{◌≡◌, ℕ, ◌-◌, ◌<◌, ◌≤◌, Bool, true, false, eqb, List, length, take, sym, refl, ap, ◌∙◌, arith, ltb-false, le-ltb, eq-eqb, eqb-true}
use borrow.Author.Tests.{eqb-false, not-false}
use Rattle.sum.specs.Crc.{crc32}
use Rattle.sum.specs.Detection.{Bytes}
use Rattle.envelope.specs.Addresses.{bad_addresses}
use Rattle.envelope.specs.Fields.{IntegrityFields, none, crc, application, Fields, Refusal, Answer, accepted, refused, refused_by}
use Rattle.envelope.specs.Flags.{kind_of, kind_none, kind_crc, kind_application, kind_unassigned}
use Rattle.envelope.specs.Heading.{flags_of, variable_size, data_length, field_place, announced, HeadingAnswer, passed, heading}
use Rattle.envelope.specs.Heading as judged
use Rattle.envelope.specs.IntegrityField.{bad_integrity}
use Rattle.envelope.specs.Layout.{type_place, number_place, addresses_place, least_size, field_size, largest_body, largest_message}
use Rattle.envelope.specs.Numbers.{two_at, three_at, four_at}
use Rattle.envelope.specs.Reading.{too_short, wrong_length, header_of, integrity_of, fields_of, reading_whole, after, reading}
use Rattle.envelope.proofs.BoolLaws.{past}
use Rattle.envelope.proofs.HeadingLaws.{Passed, announced_is, heading_passed, passed_heading, kind_assigned, size_most}

-- ---- accepted: no rule is broken, and the fields are the definition's

pub record Good (s : List ℕ) (f : Fields) : Type 0 where
  pub long : least_size ≤ length s
  pub heading : Passed s
  pub size : announced s ≡ length s
  pub addresses : bad_addresses s (variable_size s) ≡ false
  pub integrity : bad_integrity s (kind_of (flags_of s)) (field_place s) ≡ false
  pub fields : f ≡ fields_of s

refused_is_not_accepted : {r : Refusal} {f : Fields} → refused r ≡ accepted f → ⊥
refused_is_not_accepted e = let z : ◌≡◌ {A = ℕ} 0 1 = cc in omega arith

past_heading : (j : HeadingAnswer) (rest : Answer) (f : Fields) → after j rest ≡ accepted f → (j ≡ passed) × (rest ≡ accepted f)
past_heading (judged.refused r) rest f e = (cc, cc)
past_heading passed rest f e = (refl, e)

same_fields : (f g : Fields) → accepted f ≡ accepted g → g ≡ f
same_fields f g e = cc

pub good : (s : List ℕ) (f : Fields) → reading s ≡ accepted f → Good s f
unfolding reading reading_whole
good s f e =
    let p1 = past (too_short s) refused_is_not_accepted e in
    let ph = past_heading (heading s) _ f p1.1 in
    let p5 = past (wrong_length s) refused_is_not_accepted ph.1 in
    let p6 = past (bad_addresses s (variable_size s)) refused_is_not_accepted p5.1 in
    let p7 = past (bad_integrity s (kind_of (flags_of s)) (field_place s)) refused_is_not_accepted p6.1 in
    record {
      long = ltb-false (length s) least_size p1.0;
      heading = heading_passed s ph.0;
      size = eqb-true (announced s) (length s) (not-false _ p5.0);
      addresses = p6.0;
      integrity = p7.0;
      fields = same_fields (fields_of s) f p7.1;
    }

pub reading_past_heading : (s : List ℕ) → least_size ≤ length s → heading s ≡ passed → reading s ≡ reading_whole s
unfolding reading
reading_past_heading s l h = rw (le-ltb (length s) least_size l, h)

pub accepts : (s : List ℕ) → least_size ≤ length s → Passed s → announced s ≡ length s → bad_addresses s (variable_size s) ≡ false
    → bad_integrity s (kind_of (flags_of s)) (field_place s) ≡ false → reading s ≡ accepted (fields_of s)
unfolding reading reading_whole
accepts s l h n a i = rw (le-ltb (length s) least_size l, passed_heading s h, eq-eqb (announced s) (length s) n, a, i)

-- ---- lengths

pub accepted-length : (s : List ℕ) (f : Fields) → reading s ≡ accepted f → length s ≡ announced s
accepted-length s f e = sym (good s f e).size

pub accepted_least : (s : List ℕ) (f : Fields) → reading s ≡ accepted f → least_size ≤ length s
accepted_least s f e = (good s f e).long

pub data_length_most : (s : List ℕ) → Bytes s → data_length s ≤ largest_body
unfolding three_at
data_length_most s bytes = omega (arith, bytes 5, bytes 6, bytes 7)

-- 17 + 132 + 16,777,215 + 4
pub accepted_most : (s : List ℕ) (f : Fields) → Bytes s → reading s ≡ accepted f → length s ≤ largest_message
accepted_most s f bytes e =
    let g = good s f e in
    omega (arith, g.size, announced_is s, size_most (variable_size s) g.heading.size, data_length_most s bytes)

-- a heading that passed and the announced length: accepted, or refused as 6 or 7
pub data Completed (s : List ℕ) : Type 0 where
  accepts_it : (f : Fields) → reading s ≡ accepted f → Completed s
  refuses_6 : reading s ≡ refused_by 6 addresses_place → Completed s
  refuses_7 : reading s ≡ refused_by 7 (field_place s) → Completed s

pub completed : (s : List ℕ) → heading s ≡ passed → announced s ≡ length s → Completed s
unfolding reading reading_whole
completed s h n = go (bad_addresses s (variable_size s)) refl (bad_integrity s (kind_of (flags_of s)) (field_place s)) refl
  where
    long : too_short s ≡ false
    long = le-ltb (length s) least_size (omega (arith, announced_is s))

    go : (a : Bool) → bad_addresses s (variable_size s) ≡ a → (i : Bool) → bad_integrity s (kind_of (flags_of s)) (field_place s) ≡ i → Completed s
    go true ea i ei = refuses_6 (rw (long, h, eq-eqb (announced s) (length s) n, ea))
    go false ea true ei = refuses_7 (rw (long, h, eq-eqb (announced s) (length s) n, ea, ei))
    go false ea false ei = accepts_it (fields_of s) (rw (long, h, eq-eqb (announced s) (length s) n, ea, ei))

-- ---- fields by their places

pub accepted_type : (s : List ℕ) (f : Fields) → reading s ≡ accepted f → f.header.message_type ≡ two_at s type_place
unfolding fields_of header_of
accepted_type s f e = ap (λ (x : Fields). x.header.message_type) (good s f e).fields

pub accepted_number : (s : List ℕ) (f : Fields) → reading s ≡ accepted f → f.header.number ≡ four_at s number_place
unfolding fields_of header_of
accepted_number s f e = ap (λ (x : Fields). x.header.number) (good s f e).fields

pub accepted_flags : (s : List ℕ) (f : Fields) → reading s ≡ accepted f → f.header.flags ≡ flags_of s
unfolding fields_of header_of
accepted_flags s f e = ap (λ (x : Fields). x.header.flags) (good s f e).fields

-- ---- integrity

-- the field is the last four bytes
pub field_place_lem : (s : List ℕ) (f : Fields) → reading s ≡ accepted f → field_place s ≡ length s - field_size
field_place_lem s f e = omega (arith, (good s f e).size, announced_is s)

-- the flags' kind is the case of the integrity
abbrev pub kind_of_case : IntegrityFields → ℕ
kind_of_case none = kind_none
kind_of_case (crc held) = kind_crc
kind_of_case (application held) = kind_application

case_of_kind : (kind held : ℕ) → kind < kind_unassigned → kind_of_case (integrity_of kind held) ≡ kind
unfolding integrity_of
case_of_kind kind held h = go (eqb kind kind_none) refl (eqb kind kind_crc) refl
  where
    go : (a : Bool) → eqb kind kind_none ≡ a → (b : Bool) → eqb kind kind_crc ≡ b → kind_of_case (integrity_of kind held) ≡ kind
    go true ea b eb = rw ea (sym (eqb-true kind kind_none ea))
    go false ea true eb = rw (ea, eb) (sym (eqb-true kind kind_crc eb))
    go false ea false eb = rw (ea, eb) (omega (arith, eqb-false kind kind_none ea, eqb-false kind kind_crc eb))

pub accepted_kind : (s : List ℕ) (f : Fields) → reading s ≡ accepted f → kind_of_case f.integrity ≡ kind_of f.header.flags
unfolding fields_of header_of
accepted_kind s f e =
    let g = good s f e in
    rw g.fields (case_of_kind (kind_of (flags_of s)) (four_at s (field_place s)) (kind_assigned (flags_of s) g.heading.flags))

-- kind CRC: the last four bytes are the sum of all before them
sum_held : (s : List ℕ) (kind place : ℕ) → kind ≡ kind_crc → bad_integrity s kind place ≡ false → four_at s place ≡ crc32 (take place s)
unfolding bad_integrity
sum_held s kind place k e = eqb-true _ _ (not-false _ (rw k at e))

pub accepted_crc : (s : List ℕ) (f : Fields) → reading s ≡ accepted f → kind_of f.header.flags ≡ kind_crc
    → four_at s (length s - field_size) ≡ crc32 (take (length s - field_size) s)
accepted_crc s f e k =
    let g = good s f e in
    rw (← field_place_lem s f e)
    (sum_held s (kind_of (flags_of s)) (field_place s) (ap kind_of (sym (accepted_flags s f e)) ∙ k) g.integrity)
