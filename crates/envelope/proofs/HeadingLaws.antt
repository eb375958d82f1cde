-- What a heading that passed says, and that heading and announced length look at the first 17 bytes alone.
-- The layers above cite these laws and not the definitions.
use Rattle.std.proofs.Common.{◌≡◌, ℕ, ◌+◌, ◌/◌, ◌<◌, ◌≤◌, Bool, true, false, not, ◌&&◌, eqb, ltb, leb, List, take, refl, ap, ◌∙◌, arith, get_or-take, ltb-false, le-leb}
use Rattle.std.specs.Array.{IsFirstChunk}
use borrow.Author.Tests.{eqb-false}
use Rattle.envelope.specs.Fields.{Refusal}
use Rattle.envelope.specs.Flags.{kind_of, kind_unassigned, bad_flags}
use Rattle.envelope.specs.Heading.{flags_of, variable_size, data_length, announced, wrong_version, bad_variable_size, passed, refused, heading}
use Rattle.envelope.specs.Layout.{flags_place, data_length_place, variable_size_place, header_size, field_size, smallest_variable, largest_variable}
use Rattle.envelope.specs.Numbers.{byte_at, two_at, three_at, four_at}
use Rattle.envelope.specs.Reading.{header_of}
use Rattle.envelope.proofs.BoolLaws.{neither, true_is_not_false, past}

pub announced_is : (s : List ℕ) → announced s ≡ header_size + variable_size s + data_length s + field_size
unfolding announced
announced_is s = refl

-- ---- a heading that passed

pub record Passed (s : List ℕ) : Type 0 where
  pub version : wrong_version s ≡ false
  pub flags : bad_flags (flags_of s) ≡ false
  pub size : bad_variable_size (variable_size s) ≡ false

refused_is_not_passed : {r : Refusal} → refused r ≡ passed → ⊥
refused_is_not_passed e = let z : ◌≡◌ {A = ℕ} 0 1 = cc in omega arith

pub heading_passed : (s : List ℕ) → heading s ≡ passed → Passed s
unfolding heading
heading_passed s e =
    let p2 = past (wrong_version s) refused_is_not_passed e in
    let p3 = past (bad_flags (flags_of s)) refused_is_not_passed p2.1 in
    let p4 = past (bad_variable_size (variable_size s)) refused_is_not_passed p3.1 in
    record { version = p2.0; flags = p3.0; size = p4.0 }

pub passed_heading : (s : List ℕ) → Passed s → heading s ≡ passed
unfolding heading
passed_heading s h = rw (h.version, h.flags, h.size)

-- flags that are not refused have an assigned kind
pub kind_assigned : (flags : ℕ) → bad_flags flags ≡ false → kind_of flags < kind_unassigned
unfolding bad_flags
kind_assigned flags e =
    let n = eqb-false (kind_of flags) kind_unassigned (neither (not (eqb (flags / 32) 0)) (eqb (kind_of flags) kind_unassigned) e).1 in
    omega arith

-- a size that is not refused is 0, or 6 to 132
pub size_least : (v : ℕ) → bad_variable_size v ≡ false → (v ≡ 0 → ⊥) → smallest_variable ≤ v
unfolding bad_variable_size
size_least v e n = go (ltb v smallest_variable) refl
  where
    go : (b : Bool) → ltb v smallest_variable ≡ b → smallest_variable ≤ v
    go true q = absurd (true_is_not_false refl (rw (le-leb 1 v (omega arith), q) at e))
    go false q = omega (arith, ltb-false v smallest_variable q)

pub size_most : (v : ℕ) → bad_variable_size v ≡ false → v ≤ largest_variable
unfolding bad_variable_size
size_most v e = ltb-false largest_variable v (neither (leb 1 v && ltb v smallest_variable) (ltb largest_variable v) e).1

-- ---- the first 17 bytes alone

byte_of_front : (s : List ℕ) (n i : ℕ) → i < n → byte_at (take n s) i ≡ byte_at s i
byte_of_front s n i h = get_or-take n s i 0 h

-- the four bytes that state D and V decide the announced length
pub announced_by_bytes : (s t : List ℕ) → byte_at s data_length_place ≡ byte_at t data_length_place
    → byte_at s (data_length_place + 1) ≡ byte_at t (data_length_place + 1) → byte_at s (data_length_place + 2) ≡ byte_at t (data_length_place + 2)
    → byte_at s variable_size_place ≡ byte_at t variable_size_place → announced s ≡ announced t
unfolding announced three_at
announced_by_bytes s t a b c d = rw (a, b, c, d)

pub announced_by_heading : (s : List ℕ) → announced (take header_size s) ≡ announced s
unfolding announced three_at
announced_by_heading s =
    rw (byte_of_front s header_size 16 (omega arith), byte_of_front s header_size 5 (omega arith), byte_of_front s header_size 6 (omega arith), byte_of_front s header_size 7 (omega arith))

pub heading_by_heading : (s : List ℕ) → heading (take header_size s) ≡ heading s
unfolding heading
heading_by_heading s =
    rw (byte_of_front s header_size 0 (omega arith), byte_of_front s header_size 4 (omega arith), byte_of_front s header_size 16 (omega arith))

header_by_heading : (s : List ℕ) → header_of (take header_size s) ≡ header_of s
unfolding header_of two_at four_at
header_by_heading s =
    rw (byte_of_front s header_size 1 (omega arith), byte_of_front s header_size 2 (omega arith), byte_of_front s header_size 3 (omega arith), byte_of_front s header_size 4 (omega arith), byte_of_front s header_size 8 (omega arith), byte_of_front s header_size 9 (omega arith), byte_of_front s header_size 10 (omega arith), byte_of_front s header_size 11 (omega arith), byte_of_front s header_size 12 (omega arith), byte_of_front s header_size 13 (omega arith), byte_of_front s header_size 14 (omega arith), byte_of_front s header_size 15 (omega arith))

-- a header that was cut off says what the whole message says
pub record Header (s h : List ℕ) : Type 0 where
  pub heading : heading h ≡ heading s
  pub announced : announced h ≡ announced s
  pub size : variable_size h ≡ variable_size s
  pub flags : flags_of h ≡ flags_of s
  pub fields : header_of h ≡ header_of s

pub header_says : (s h : List ℕ) → IsFirstChunk s h header_size → Header s h
header_says s h c =
    record {
      heading = ap heading c.same ∙ heading_by_heading s;
      announced = ap announced c.same ∙ announced_by_heading s;
      size = ap variable_size c.same ∙ byte_of_front s header_size variable_size_place (omega arith);
      flags = ap flags_of c.same ∙ byte_of_front s header_size flags_place (omega arith);
      fields = ap header_of c.same ∙ header_by_heading s;
    }
