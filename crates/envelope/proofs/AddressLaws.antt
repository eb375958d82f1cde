-- Rule 6 decided by a scan: the first zero closes the source, the next one the destination, and that is all there may be.
-- So a region splits into two addresses at one place at most, the one after its first zero.
use Rattle.std.proofs.Common.{◌≡◌, ℕ, zero, suc, ◌+◌, ◌-◌, ◌<◌, ◌≤◌, Bool, true, false, cond, not, ◌&&◌, ◌||◌, eqb, leb, List, [], ◌∷◌, length, take, drop, sym, refl, ap, ◌∙◌, ⊎_elim, arith, length-drop, take-append-drop, length-take-le, take_all, eq-eqb, ne_eqb, eqb-true, le-leb, leb-true}
use mathlib.Core.Bool.{or-true}
use Rattle.std.specs.Bool.{then_some}
use borrow.Author.Tests.{eqb-false, not-false}
use Rattle.envelope.specs.Addresses.{ends_in_its_only_zero, is_address, splits_at, splits_up_to, two_addresses, first_zero, source_size, destination_size, region_of, bad_addresses}
use Rattle.envelope.specs.Helpers.{unless, sizes}
use Rattle.envelope.specs.Layout.{header_size, routing_size, smallest_variable, addresses_place, largest_address}
use Rattle.envelope.specs.declared.addresses.Sizes.{Sizes}
use Rattle.envelope.proofs.BoolLaws.{both, either, is_false, same_test}
use Rattle.envelope.proofs.ZeroLaws.{zero_in_front, zero_of_front}

-- ---- one address

-- the only zero is the last byte: the first zero is the last byte
one_byte : (z : Bool) → z ≡ eqb (cond z 0 1 + 1) 1
one_byte true = refl
one_byte false = refl

more_bytes : (z t : Bool) (f l : ℕ) → t ≡ eqb (f + 1) (suc l) → (not z && t) ≡ eqb (cond z 0 (suc f) + 1) (suc (suc l))
more_bytes true t f l e = sym (ne_eqb 1 (suc (suc l)) (λ p. omega arith))
more_bytes false t f l e = e ∙ same_test (f + 1) (suc l) (suc f + 1) (suc (suc l)) (λ p. omega arith) (λ p. omega arith)

only_zero : (a : List ℕ) → ends_in_its_only_zero a ≡ eqb (first_zero a + 1) (length a)
unfolding ends_in_its_only_zero first_zero
only_zero [] = refl
only_zero (b ∷ []) = one_byte (eqb b 0)
only_zero (b ∷ c ∷ rest) =
    more_bytes (eqb b 0) (ends_in_its_only_zero (c ∷ rest)) (first_zero (c ∷ rest)) (length rest) (only_zero (c ∷ rest))

pub record Address (a : List ℕ) : Type 0 where
  pub short : length a ≤ largest_address
  pub closed : first_zero a + 1 ≡ length a

pub address : (a : List ℕ) → is_address a ≡ true → Address a
unfolding is_address
address a e =
    let p = both (leb (length a) largest_address) (ends_in_its_only_zero a) e in
    record { short = leb-true _ _ p.0; closed = eqb-true _ _ (sym (only_zero a) ∙ p.1) }

pub is_address_lem : (a : List ℕ) → Address a → is_address a ≡ true
unfolding is_address
is_address_lem a h = rw (le-leb (length a) largest_address h.short, only_zero a, eq-eqb _ _ h.closed)

-- ---- two of them

-- the scan: what the code tests
pub record Scanned (region : List ℕ) : Type 0 where
  pub source : source_size region < largest_address
  pub destination : destination_size region < largest_address
  pub whole : source_size region + 1 + (destination_size region + 1) ≡ length region

-- a region that splits at n has its first zero just before n
module _ (region : List ℕ) (n : ℕ) (splits : splits_at region n ≡ true) where
  ends : Address (take n region) × Address (drop n region)
  unfolding splits_at
  ends = let p = both (is_address (take n region)) (is_address (drop n region)) splits in (address _ p.0, address _ p.1)

  inside : n < length region
  inside = let c = ends.1.closed in let l = length-drop n region in omega arith

  pub splits_after_source : n ≡ source_size region + 1
  splits_after_source =
      let c = ends.0.closed in
      let l : length (take n region) ≡ n = length-take-le n region (omega (arith, inside)) in
      let z = zero_in_front (take n region) (drop n region) (omega arith) in
      let w : first_zero region ≡ first_zero (take n region) = ap first_zero (sym (take-append-drop n region)) ∙ z in
      omega arith

  splits_scanned : Scanned region
  unfolding destination_size
  splits_scanned =
      let e = splits_after_source in
      let d : first_zero (drop (source_size region + 1) region) ≡ first_zero (drop n region) = ap (λ (k : ℕ). first_zero (drop k region)) (sym e) in
      let l : length (take n region) ≡ n = length-take-le n region (omega (arith, inside)) in
      let k = length-drop n region in
      record {
        source = omega (arith, ends.0.short, inside);
        destination = omega (arith, ends.1.short, ends.1.closed);
        whole = omega (arith, ends.1.closed, inside);
      }

somewhere : (region : List ℕ) (n : ℕ) → splits_up_to region n ≡ true → Scanned region
unfolding splits_up_to
somewhere region zero e = splits_scanned region zero e
somewhere region (suc n) e =
    ⊎_elim (λ h. splits_scanned region (suc n) h) (λ h. somewhere region n h) (either (splits_at region (suc n)) (splits_up_to region n) e)

pub two_scanned : (region : List ℕ) → two_addresses region ≡ true → Scanned region
two_scanned region e = somewhere region (length region) e

splits_within : (region : List ℕ) (n m : ℕ) → n ≤ m → splits_at region n ≡ true → splits_up_to region m ≡ true
unfolding splits_up_to
splits_within region n zero l e = let z : n ≡ zero = omega arith in rw z at e
splits_within region n (suc m) l e = at_or_below (eqb n (suc m)) refl (λ k. splits_within region n m k e)
  where
    at_or_below : (t : Bool) → eqb n (suc m) ≡ t → (n ≤ m → splits_up_to region m ≡ true) → (splits_at region (suc m) || splits_up_to region m) ≡ true
    at_or_below true q below = rw (rw (eqb-true n (suc m) q) at e)
    at_or_below false q below = rw (below (omega (arith, eqb-false n (suc m) q))) (or-true (splits_at region (suc m)))

pub scanned_two : (region : List ℕ) → Scanned region → two_addresses region ≡ true
unfolding splits_at destination_size
scanned_two region h =
    let n = source_size region + 1 in
    let lt : length (take n region) ≡ n = length-take-le n region (omega arith) in
    let ld = length-drop n region in
    let z = zero_of_front region n (omega arith) in
    let first = is_address_lem (take n region) (record { short = omega (arith, h.source); closed = omega arith }) in
    let second = is_address_lem (drop n region) (record { short = omega (arith, h.destination, h.whole); closed = omega (arith, h.whole) }) in
    splits_within region n (length region) (omega (arith, h.whole)) (rw (first, second))

-- a region whose scan fails is not two addresses
pub not_two : (region : List ℕ) → (Scanned region → ⊥) → two_addresses region ≡ false
not_two region f = is_false (two_addresses region) (λ e. f (two_scanned region e))

-- ---- as the code meets them

abbrev found_sizes : ℕ → ℕ → Sizes
found_sizes a b = record { source = a; destination = b }

-- the second scan is of the part after the first zero
pub destination_is : (region : List ℕ) (a b : ℕ) → a ≡ source_size region
    → b ≡ first_zero (take (length region - (a + 1)) (drop (a + 1) region)) → b ≡ destination_size region
unfolding destination_size
destination_is region a b ea eb =
    rw (← ea) (rw (take_all (length region - (a + 1)) (drop (a + 1) region) (rw length-drop (omega arith))) at eb)

-- two ends that are short enough are two addresses where they make up the region
pub two_by_length : (region : List ℕ) (a b : ℕ) → a ≡ source_size region → a < largest_address
    → b ≡ destination_size region → b < largest_address
    → then_some (eqb (a + 1 + (b + 1)) (length region)) (found_sizes a b) ≡ unless (not (two_addresses region)) (sizes region)
two_by_length region a b ea la eb lb = go (eqb (a + 1 + (b + 1)) (length region)) refl
  where
    go : (t : Bool) → eqb (a + 1 + (b + 1)) (length region) ≡ t → then_some t (found_sizes a b) ≡ unless (not (two_addresses region)) (sizes region)
    go true e =
        let w = eqb-true (a + 1 + (b + 1)) (length region) e in
        rw (scanned_two region (record { source = omega arith; destination = omega arith; whole = omega arith }), ea, eb)
    go false e =
        let n = eqb-false (a + 1 + (b + 1)) (length region) e in
        rw (not_two region (λ h. n (omega (arith, h.whole))))

-- the part that is lent, from place 21 to the end of the variable header, is the region
abbrev pub lent : List ℕ → ℕ → List ℕ
lent s v = take (header_size + v - addresses_place) (drop addresses_place s)

lent_is : (s : List ℕ) (v : ℕ) → smallest_variable ≤ v → lent s v ≡ region_of s v
lent_is s v h =
    let e : header_size + v - addresses_place ≡ v - routing_size = omega arith in
    ap (λ (k : ℕ). take k (drop addresses_place s)) e

-- rule 6 of a variable header that is there
pub addresses_present : (s : List ℕ) (v : ℕ) → smallest_variable ≤ v → bad_addresses s v ≡ not (two_addresses (lent s v))
unfolding bad_addresses
addresses_present s v h = rw (ne_eqb v 0 (λ z. omega arith), ← lent_is s v h)

-- two sizes that were found: the rule is kept, and they are the definition's
pub record Found (s : List ℕ) (v a b : ℕ) : Type 0 where
  pub good : bad_addresses s v ≡ false
  pub source : a ≡ source_size (region_of s v)
  pub destination : b ≡ destination_size (region_of s v)
  pub small : a < largest_address

pub ends_found : (s : List ℕ) (v : ℕ) (found : Sizes) → smallest_variable ≤ v
    → not (two_addresses (lent s v)) ≡ false → found ≡ sizes (lent s v) → Found s v found.source found.destination
ends_found s v found h two same =
    let z = lent_is s v h in
    let p : found.source ≡ source_size (lent s v) = ap (λ (x : Sizes). x.source) same in
    let q : found.destination ≡ destination_size (lent s v) = ap (λ (x : Sizes). x.destination) same in
    let g = two_scanned (lent s v) (not-false _ two) in
    record {
      good = addresses_present s v h ∙ two;
      source = p ∙ ap source_size z;
      destination = q ∙ ap destination_size z;
      small = omega (arith, g.source);
    }
