-- Where a refusal of reading points: the table of rules is gone through once, and each line of K2's table is read off it.
-- The layers above cite these laws and not the definition of reading.
use Rattle.std.proofs.Common.{◌≡◌, ℕ, ◌-◌, ◌<◌, ◌≤◌, Bool, true, false, cond, eqb, List, length, sym, refl, ap, ◌∙◌, subst, arith, ltb-false, ltb-true, eqb-true}
use borrow.Author.Tests.{eqb-false, not-false}
use Rattle.envelope.specs.Addresses.{bad_addresses}
use Rattle.envelope.specs.Announcing.{announcing}
use Rattle.envelope.specs.Announcing as announced
use Rattle.envelope.specs.Fields.{Fields, Refusal, Answer, accepted, refused, refusal_by}
use Rattle.envelope.specs.Flags.{kind_of, bad_flags}
use Rattle.envelope.specs.Heading.{flags_of, variable_size, field_place, announced, wrong_version, bad_variable_size}
use Rattle.envelope.specs.IntegrityField.{bad_integrity}
use Rattle.envelope.specs.Layout.{version_place, flags_place, data_length_place, variable_size_place, addresses_place, least_size, field_size, largest_message}
use Rattle.envelope.specs.Places.{PlaceOf, of_1, of_2, of_3, of_4, of_5, of_6, of_7, PlacesByTable, PointsInside, PlacesInside, place_for, PlacesByLength, PlacesWithin}
use Rattle.envelope.specs.Reading.{too_short, wrong_length, reading}
use Rattle.envelope.proofs.AnnouncingLaws.{HeadingRefusal, as_2, as_3, as_4, refused_heading}
use Rattle.envelope.proofs.BoolLaws.{true_is_not_false}
use Rattle.envelope.proofs.HeadingLaws.{announced_is, size_most, size_least}
use Rattle.envelope.proofs.ReadingLaws.{data_length_most}
use Rattle.envelope.proofs.RuleLaws.{addresses_absent, reading_by_rules}

-- what is known of a refusal
pub record Placed (s : List ℕ) (r : Refusal) : Type 0 where
  pub table : PlaceOf s r
  pub inside : PointsInside s r
  pub short : r.number ≡ 1 → length s < least_size
  pub size : r.number ≡ 7 → bad_variable_size (variable_size s) ≡ false

same_refusal : {a b : Refusal} → refused a ≡ refused b → a ≡ b
same_refusal e = cc

accepted_is_not_refused : {f : Fields} {r : Refusal} → accepted f ≡ refused r → ⊥
accepted_is_not_refused e = let z : ◌≡◌ {A = ℕ} 0 1 = cc in omega arith

-- a rule is broken and answers, or it is kept and the rest answers
first : {P : Type 0} (b : Bool) {x r : Refusal} {rest : Answer} → cond b (refused x) rest ≡ refused r
    → (b ≡ true → x ≡ r → P) → (b ≡ false → rest ≡ refused r → P) → P
first true e here after = here refl (same_refusal e)
first false e here after = after refl e

module _ (s : List ℕ) (r : Refusal) where
  -- a line of the table whose place lies inside
  line : (number place : ℕ) → refusal_by number place ≡ r → (number ≡ 1 → ⊥) → place < length s
      → (number ≡ 7 → bad_variable_size (variable_size s) ≡ false) → PlaceOf s (refusal_by number place) → Placed s r
  line number place e n h v p =
      subst (Placed s) e
      (record {
        table = p;
        inside = record { of_short = λ one. absurd (n one); of_others = λ m. h };
        short = λ one. absurd (n one);
        size = v;
      })

  is_too_short : too_short s ≡ true → refusal_by 1 (length s) ≡ r → Placed s r
  is_too_short b e =
      subst (Placed s) e
      (record {
        table = of_1 refl refl;
        inside = record { of_short = λ one. refl; of_others = λ m. absurd (m refl) };
        short = λ one. ltb-true (length s) least_size b;
        size = λ seven. absurd (omega (arith, seven));
      })

  -- an address can only be bad where there is a variable header
  addressed : bad_variable_size (variable_size s) ≡ false → bad_addresses s (variable_size s) ≡ true → 6 ≤ variable_size s
  addressed v b = go (eqb (variable_size s) 0) refl
    where
      go : (t : Bool) → eqb (variable_size s) 0 ≡ t → 6 ≤ variable_size s
      go true q = absurd (true_is_not_false b (addresses_absent s (variable_size s) (eqb-true (variable_size s) 0 q)))
      go false q = size_least (variable_size s) v (eqb-false (variable_size s) 0 q)

  whole : wrong_length s ≡ false → announced s ≡ length s
  whole e = eqb-true (announced s) (length s) (not-false _ e)

  pub placed : reading s ≡ refused r → Placed s r
  placed e =
      first (too_short s) (sym (reading_by_rules s) ∙ e) is_too_short
      (λ b1 e1. let l = ltb-false (length s) least_size b1 in
      first (wrong_version s) e1
      (λ b q. line 2 version_place q (λ z. omega (arith, z)) (omega (arith, l)) (λ z. absurd (omega (arith, z))) (of_2 refl refl))
      (λ b2 e2. first (bad_flags (flags_of s)) e2
      (λ b q. line 3 flags_place q (λ z. omega (arith, z)) (omega (arith, l)) (λ z. absurd (omega (arith, z))) (of_3 refl refl))
      (λ b3 e3. first (bad_variable_size (variable_size s)) e3
      (λ b q. line 4 variable_size_place q (λ z. omega (arith, z)) (omega (arith, l)) (λ z. absurd (omega (arith, z))) (of_4 refl refl))
      (λ b4 e4. first (wrong_length s) e4
      (λ b q. line 5 data_length_place q (λ z. omega (arith, z)) (omega (arith, l)) (λ z. absurd (omega (arith, z))) (of_5 refl refl))
      (λ b5 e5. let w = whole b5 in
      first (bad_addresses s (variable_size s)) e5
      (λ b q. line 6 addresses_place q (λ z. omega (arith, z)) (omega (arith, w, announced_is s, addressed b4 b)) (λ z. absurd (omega (arith, z))) (of_6 refl refl))
      (λ b6 e6. first (bad_integrity s (kind_of (flags_of s)) (field_place s)) e6
      (λ b q. line 7 (field_place s) q (λ z. omega (arith, z)) (omega (arith, w, announced_is s)) (λ z. b4) (of_7 refl refl (omega (arith, w, announced_is s))))
      (λ b7 e7. absurd (accepted_is_not_refused e7))))))))

-- ---- the theorems

pub places_by_table : PlacesByTable
places_by_table s r e = (placed s r e).table

pub places_inside : PlacesInside
places_inside s r e = (placed s r e).inside

-- so none is past the bytes lent
pub place_most : (s : List ℕ) (r : Refusal) → reading s ≡ refused r → r.place ≤ length s
place_most s r e = go (eqb r.number 1) refl
  where
    go : (b : Bool) → eqb r.number 1 ≡ b → r.place ≤ length s
    go true q = omega (arith, (places_inside s r e).of_short (eqb-true r.number 1 q))
    go false q = omega (arith, (places_inside s r e).of_others (eqb-false r.number 1 q))

-- the table has seven numbers
pub number_few : (s : List ℕ) (r : Refusal) → reading s ≡ refused r → r.number ≤ 7
number_few s r e = go (places_by_table s r e)
  where
    go : PlaceOf s r → r.number ≤ 7
    go (of_1 n p) = omega (arith, n)
    go (of_2 n p) = omega (arith, n)
    go (of_3 n p) = omega (arith, n)
    go (of_4 n p) = omega (arith, n)
    go (of_5 n p) = omega (arith, n)
    go (of_6 n p) = omega (arith, n)
    go (of_7 n p q) = omega (arith, n)

-- 1 is for messages that are too short, and no other rule gives it
pub long_not_1 : (s : List ℕ) (r : Refusal) → least_size ≤ length s → reading s ≡ refused r → r.number ≡ 1 → ⊥
long_not_1 s r l e one = omega (arith, (placed s r e).short one)

pub by_length : (s : List ℕ) (r : Refusal) → PlaceOf s r → r.place ≡ place_for r.number (length s)
unfolding place_for
by_length s r (of_1 n p) = rw n p
by_length s r (of_2 n p) = rw n p
by_length s r (of_3 n p) = rw n p
by_length s r (of_4 n p) = rw n p
by_length s r (of_5 n p) = rw n p
by_length s r (of_6 n p) = rw n p
by_length s r (of_7 n p q) = rw n (omega (arith, q))

-- placeFor, number by number
pub record PlaceForEach (size : ℕ) : Type 0 where
  pub for_1 : place_for 1 size ≡ size
  pub for_2 : place_for 2 size ≡ version_place
  pub for_3 : place_for 3 size ≡ flags_place
  pub for_4 : place_for 4 size ≡ variable_size_place
  pub for_5 : place_for 5 size ≡ data_length_place
  pub for_6 : place_for 6 size ≡ addresses_place
  pub for_7 : place_for 7 size ≡ size - field_size

pub place_for_each : (size : ℕ) → PlaceForEach size
unfolding place_for
place_for_each size = record { for_1 = refl; for_2 = refl; for_3 = refl; for_4 = refl; for_5 = refl; for_6 = refl; for_7 = refl }

pub place_for_most : (number size most : ℕ) → size ≤ most → addresses_place ≤ most → place_for number size ≤ most
unfolding place_for
place_for_most number size most h l = go (eqb number 1) (eqb number 2) (eqb number 3) (eqb number 4) (eqb number 5) (eqb number 6)
  where
    go : (a b c d e f : Bool) → cond a size (cond b version_place (cond c flags_place (cond d variable_size_place (cond e data_length_place (cond f addresses_place (size - field_size)))))) ≤ most
    go true b c d e f = h
    go false true c d e f = omega arith
    go false false true d e f = omega arith
    go false false false true e f = omega arith
    go false false false false true f = omega arith
    go false false false false false true = l
    go false false false false false false = omega arith

-- a heading's refusal has its place before the rest is there, whatever the rest is
pub heading_placed : (s m : List ℕ) (r : Refusal) → announcing s ≡ announced.refused r → PlaceOf m r
heading_placed s m r e = go (refused_heading s r e)
  where
    go : HeadingRefusal r → PlaceOf m r
    go (as_2 q) = of_2 (ap (λ (x : Refusal). x.number) q) (ap (λ (x : Refusal). x.place) q)
    go (as_3 q) = of_3 (ap (λ (x : Refusal). x.number) q) (ap (λ (x : Refusal). x.place) q)
    go (as_4 q) = of_4 (ap (λ (x : Refusal). x.number) q) (ap (λ (x : Refusal). x.place) q)

pub places_by_length : PlacesByLength
places_by_length s r e = by_length s r (places_by_table s r e)

pub places_within : PlacesWithin
places_within s r bytes e = go (places_by_table s r e)
  where
    go : PlaceOf s r → r.place ≤ largest_message
    go (of_1 n p) = omega (arith, p, (placed s r e).short n)
    go (of_2 n p) = omega (arith, p)
    go (of_3 n p) = omega (arith, p)
    go (of_4 n p) = omega (arith, p)
    go (of_5 n p) = omega (arith, p)
    go (of_6 n p) = omega (arith, p)
    go (of_7 n p q) = omega (arith, p, size_most (variable_size s) ((placed s r e).size n), data_length_most s bytes)
