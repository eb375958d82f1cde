-- Read then written: what reading hands out of accepted bytes, written again, is those bytes.
-- Each stretch of the message is shown to be the stretch of the bytes that it was taken from.
use Rattle.std.proofs.Common.{◌≡◌, ℕ, zero, suc, ◌+◌, ◌-◌, ◌*◌, ◌/◌, ◌%◌, ◌<◌, ◌≤◌, Bool, true, false, cond, not, ◌&&◌, ◌||◌, eqb, List, [], ◌∷◌, ◌++◌, length, get_or, take, drop, sym, refl, ap, ◌∙◌, add-zero, add-one, arith, length-drop, take-append-drop, drop_of_length-le, length-take, length-take-le, drop-cons, take-take, drop-drop, take-add, le-ltb, eqb-true}
use mathlib.Core.Bool.{and-false}
use native.Mathlib.Numerals.{add-two, add-three}
use borrow.Author.Tests.{eqb-false, lt-leb, not-false}
use lib.Seq.{split_at}
use Rattle.sum.specs.Crc.{crc32}
use Rattle.sum.specs.Detection.{Bytes}
use Rattle.envelope.specs.Addresses.{first_zero, source_size, destination_size, region_of, bad_addresses}
use Rattle.envelope.specs.Fields.{absent, present, none, crc, application, Fields, part_of}
use Rattle.envelope.specs.Flags.{kind_of, kind_none, kind_crc}
use Rattle.envelope.specs.Heading.{flags_of, variable_size, data_length, field_place}
use Rattle.envelope.specs.IntegrityField.{bad_integrity}
use Rattle.envelope.specs.Layout.{header_version, header_size, routing_size, addresses_place, field_size, largest_address, largest_body}
use Rattle.envelope.specs.Message.{unaddressed, Given, variable_bytes, variable_of, before_field, field_number, message}
use Rattle.envelope.specs.Numbers.{byte_at, two_at, three_at, four_at, in_two, in_three, in_four}
use Rattle.envelope.specs.Reading.{source_of, destination_of, header_of, addressing_of, integrity_of, fields_of}
use Rattle.envelope.specs.RoundTrips.{routing_of, source_bytes, destination_bytes, application_number, given_by}
use Rattle.envelope.specs.Writing.{has_zero, bad_end, bad_ends, stray_integrity}
use Rattle.envelope.proofs.AddressLaws.{two_scanned, Scanned}
use Rattle.envelope.proofs.HeadingLaws.{announced_is, size_least}
use Rattle.envelope.proofs.ReadingLaws.{Good, data_length_most}
use Rattle.envelope.proofs.WriteLaws.{FourKept}

-- ---- stretches of a list

-- n bytes from a place, one by one
abbrev pub cells : ℕ → ℕ → List ℕ → List ℕ
cells zero i s = []
cells (suc n) i s = get_or s i 0 ∷ cells n (suc i) s

pub front : (n i : ℕ) (s : List ℕ) → i + n ≤ length s → drop i s ≡ cells n i s ++ drop (i + n) s
front zero i s h = rw add-zero
front (suc n) i s h =
    let e : i + suc n ≡ suc i + n = omega arith in
    rw (drop-cons s i 0 (omega arith), e) (ap (λ (l : List ℕ). get_or s i 0 ∷ l) (front n (suc i) s (omega arith)))

-- a part that lies inside a front is a part of the whole
pub part_of_front : (m n k : ℕ) (l : List ℕ) → n + m ≤ k → take m (drop n (take k l)) ≡ take m (drop n l)
part_of_front m zero k l h = take-take m k l (omega arith)
part_of_front m (suc n) zero l h = absurd (omega arith)
part_of_front m (suc n) (suc k) [] h = refl
part_of_front m (suc n) (suc k) (x ∷ l) h = part_of_front m n k l (omega arith)

-- ---- bytes from the numbers that they make

module _ (a b c d : ℕ) (hb : b < 256) (hc : c < 256) (hd : d < 256) where
  four_bytes : in_four (a * 16777216 + b * 65536 + c * 256 + d) ≡ a ∷ b ∷ c ∷ d ∷ []
  four_bytes =
      let p : (a * 16777216 + b * 65536 + c * 256 + d) / 16777216 ≡ a = omega arith in
      let q : (a * 16777216 + b * 65536 + c * 256 + d) / 65536 % 256 ≡ b = omega arith in
      let r : (a * 16777216 + b * 65536 + c * 256 + d) / 256 % 256 ≡ c = omega arith in
      let t : (a * 16777216 + b * 65536 + c * 256 + d) % 256 ≡ d = omega arith in
      λ i. p i ∷ q i ∷ r i ∷ t i ∷ []

  three_bytes_lem : in_three (b * 65536 + c * 256 + d) ≡ b ∷ c ∷ d ∷ []
  three_bytes_lem =
      let q : (b * 65536 + c * 256 + d) / 65536 ≡ b = omega arith in
      let r : (b * 65536 + c * 256 + d) / 256 % 256 ≡ c = omega arith in
      let t : (b * 65536 + c * 256 + d) % 256 ≡ d = omega arith in
      λ i. q i ∷ r i ∷ t i ∷ []

  two_bytes : in_two (c * 256 + d) ≡ c ∷ d ∷ []
  two_bytes =
      let r : (c * 256 + d) / 256 ≡ c = omega arith in
      let t : (c * 256 + d) % 256 ≡ d = omega arith in
      λ i. r i ∷ t i ∷ []

module _ (s : List ℕ) (bytes : Bytes s) where
  pub four_of_lem : (i : ℕ) → in_four (four_at s i) ≡ byte_at s i ∷ byte_at s (i + 1) ∷ byte_at s (i + 2) ∷ byte_at s (i + 3) ∷ []
  unfolding four_at
  four_of_lem i = four_bytes (byte_at s i) (byte_at s (i + 1)) (byte_at s (i + 2)) (byte_at s (i + 3)) (bytes (i + 1)) (bytes (i + 2)) (bytes (i + 3))

  three_of : (i : ℕ) → in_three (three_at s i) ≡ byte_at s i ∷ byte_at s (i + 1) ∷ byte_at s (i + 2) ∷ []
  unfolding three_at
  three_of i = three_bytes_lem 0 (byte_at s i) (byte_at s (i + 1)) (byte_at s (i + 2)) (bytes i) (bytes (i + 1)) (bytes (i + 2))

  two_of : (i : ℕ) → in_two (two_at s i) ≡ byte_at s i ∷ byte_at s (i + 1) ∷ []
  unfolding two_at
  two_of i = two_bytes 0 (byte_at s i) (byte_at s i) (byte_at s (i + 1)) (bytes i) (bytes i) (bytes (i + 1))

-- ---- two addresses from their region

zero_or_end : (b : ℕ) (bs : List ℕ) (k : ℕ) (c : Bool) → eqb b 0 ≡ c → get_or bs k 0 ≡ 0 → get_or (b ∷ bs) (cond c 0 (suc k)) 0 ≡ 0
zero_or_end b bs k true e h = eqb-true b 0 e
zero_or_end b bs k false e h = h

zero_there : (t : List ℕ) → get_or t (first_zero t) 0 ≡ 0
unfolding first_zero
zero_there [] = refl
zero_there (b ∷ bs) = zero_or_end b bs (first_zero bs) (eqb b 0) refl (zero_there bs)

zero_split : (t : List ℕ) → first_zero t < length t → t ≡ take (first_zero t) t ++ 0 ∷ drop (first_zero t + 1) t
zero_split t h = split_at t (first_zero t) 0 h ∙ rw (zero_there t, ← add-one (first_zero t))

ends_split : (t : List ℕ) → Scanned t → t ≡ take (source_size t) t ++ 0 ∷ (take (destination_size t) (drop (source_size t + 1) t) ++ 0 ∷ [])
unfolding destination_size
ends_split t g =
    let r = drop (source_size t + 1) t in
    let l : length r ≡ length t - (source_size t + 1) = length-drop (source_size t + 1) t in
    let w = g.whole in
    let z : drop (first_zero r + 1) r ≡ [] = drop_of_length-le r {i = first_zero r + 1} (omega arith) in
    zero_split t (omega arith)
    ∙ ap (λ (x : List ℕ). take (source_size t) t ++ 0 ∷ x) (zero_split r (omega arith) ∙ ap (λ (x : List ℕ). take (first_zero r) r ++ 0 ∷ x) z)

-- what stands before the first zero has none
before : (c : Bool) (b : ℕ) (bs : List ℕ) (k : ℕ) → eqb b 0 ≡ c → has_zero (take k bs) ≡ false → has_zero (take (cond c 0 (suc k)) (b ∷ bs)) ≡ false
unfolding has_zero
before true b bs k e h = refl
before false b bs k e h = rw e h

no-zero_before : (t : List ℕ) → has_zero (take (first_zero t) t) ≡ false
unfolding first_zero has_zero
no-zero_before [] = refl
no-zero_before (b ∷ bs) = before (eqb b 0) b bs (first_zero bs) refl (no-zero_before bs)

end_kept : (t : List ℕ) → first_zero t < largest_address → bad_end (take (first_zero t) t) ≡ false
unfolding bad_end
end_kept t h =
    let x = take (first_zero t) t in
    let l : length x < largest_address = omega (arith, length-take (first_zero t) t) in
    rw (lt-leb largest_address (length x) l, no-zero_before t)

second_kept : (t : List ℕ) → Scanned t → bad_end (take (destination_size t) (drop (source_size t + 1) t)) ≡ false
unfolding destination_size
second_kept t g = end_kept (drop (source_size t + 1) t) g.destination

nothing_kept : bad_ends unaddressed [] [] ≡ false
unfolding bad_end has_zero
nothing_kept = refl

-- ---- the integrity field

field_cases : (a b : Bool) (held sum : ℕ)
    → cond a (not (eqb held 0)) (cond b (not (eqb held sum)) false) ≡ false
    → cond a 0 (cond b sum (application_number (cond a none (cond b (crc held) (application held))))) ≡ held
field_cases true b held sum e = sym (eqb-true held 0 (not-false _ e))
field_cases false true held sum e = sym (eqb-true held sum (not-false _ e))
field_cases false false held sum e = refl

field_same : (s : List ℕ) (kind place : ℕ) → bad_integrity s kind place ≡ false
    → field_number kind (application_number (integrity_of kind (four_at s place))) (take place s) ≡ four_at s place
unfolding bad_integrity field_number integrity_of
field_same s kind place e = field_cases (eqb kind kind_none) (eqb kind kind_crc) (four_at s place) (crc32 (take place s)) e

stray_cases : (a b : Bool) (held : ℕ)
    → (not (eqb (application_number (cond a none (cond b (crc held) (application held)))) 0) && (a || b)) ≡ false
stray_cases true b held = refl
stray_cases false true held = refl
stray_cases false false held = and-false (not (eqb held 0))

number_kept : (kind held : ℕ) → stray_integrity (application_number (integrity_of kind held)) kind ≡ false
unfolding stray_integrity integrity_of
number_kept kind held = stray_cases (eqb kind kind_none) (eqb kind kind_crc) held

-- ---- the whole message

module _ (s : List ℕ) (bytes : Bytes s) (f : Fields) (g : Good s f) where
  abbrev again : Given
  again = given_by s (fields_of s)

  abbrev region : List ℕ
  region = region_of s (variable_size s)

  all : length s ≡ header_size + variable_size s + data_length s + field_size
  all = sym g.size ∙ announced_is s

  scanned : eqb (variable_size s) 0 ≡ false → Scanned region
  unfolding bad_addresses
  scanned e = two_scanned region (not-false _ (rw e at g.addresses))

  region-length : eqb (variable_size s) 0 ≡ false → length region ≡ variable_size s - routing_size
  region-length e =
      let n = size_least (variable_size s) g.heading.size (eqb-false (variable_size s) 0 e) in
      length-take-le (variable_size s - routing_size) (drop addresses_place s) (rw length-drop (omega (arith, all)))

  -- the ends that are handed out are those of the region
  source_is : eqb (variable_size s) 0 ≡ false → part_of s (source_of region) ≡ take (source_size region) region
  source_is e =
      let w = scanned e in
      sym (take-take (source_size region) (variable_size s - routing_size) (drop addresses_place s) (omega (arith, w.whole, region-length e)))

  destination_is : eqb (variable_size s) 0 ≡ false → part_of s (destination_of region) ≡ take (destination_size region) (drop (source_size region + 1) region)
  destination_is e =
      let w = scanned e in
      let far : addresses_place + source_size region + 1 ≡ addresses_place + (source_size region + 1) = omega arith in
      ap (λ (k : ℕ). take (destination_size region) (drop k s)) far
      ∙ ap (take (destination_size region)) (sym (drop-drop (source_size region + 1) addresses_place s))
      ∙ sym (part_of_front (destination_size region) (source_size region + 1) (variable_size s - routing_size) (drop addresses_place s) (omega (arith, w.whole, region-length e)))

  variable_is : variable_of again ≡ take (variable_size s) (drop header_size s)
  unfolding fields_of addressing_of
  variable_is = go (eqb (variable_size s) 0) refl
    where
      go : (c : Bool) → eqb (variable_size s) 0 ≡ c
          → let a = cond c absent (present (two_at s 17) (two_at s 19) (source_of region) (destination_of region)) in
          variable_bytes (routing_of a) (source_bytes s a) (destination_bytes s a) ≡ take (variable_size s) (drop header_size s)
      go true e = rw (eqb-true (variable_size s) 0 e)
      go false e =
          let n = size_least (variable_size s) g.heading.size (eqb-false (variable_size s) 0 e) in
          let l = all in
          let v : variable_size s ≡ routing_size + (variable_size s - routing_size) = omega arith in
          (λ i. two_of s bytes 17 i ++ two_of s bytes 19 i ++ (source_is e i ++ 0 ∷ (destination_is e i ++ 0 ∷ [])))
          ∙ (λ i. byte_at s 17 ∷ byte_at s 18 ∷ byte_at s 19 ∷ byte_at s 20 ∷ sym (ends_split region (scanned e)) i)
          ∙ sym
          (ap (λ (k : ℕ). take k (drop header_size s)) v
          ∙ take-add routing_size (variable_size s - routing_size) (drop header_size s)
          ∙ rw (drop-drop routing_size header_size s, front 4 17 s (omega arith)))

  body-length : length again.body ≡ data_length s
  unfolding fields_of
  body-length = length-take-le (data_length s) (drop (header_size + variable_size s) s) (rw length-drop (omega (arith, all)))

  before_is : before_field again ≡ take (field_place s) s
  unfolding before_field fields_of header_of
  before_is =
      let l = all in
      let version : header_version ≡ byte_at s 0 = sym (eqb-true (byte_at s 0) header_version (not-false _ g.heading.version)) in
      let d = ap in_three body-length ∙ three_of s bytes 5 in
      let v : length (variable_of again) ≡ variable_size s =
      ap length variable_is ∙ length-take-le (variable_size s) (drop header_size s) (rw length-drop (omega arith)) in
      let e : field_place s ≡ header_size + (variable_size s + data_length s) = omega arith in
      (λ i.
      (version i ∷ two_of s bytes 1 i)
      ++ (byte_at s 3 ∷ byte_at s 4 ∷ d i)
      ++ four_of_lem s bytes 8 i
      ++ four_of_lem s bytes 12 i
      ++ (v i ∷ [])
      ++ (variable_is i ++ again.body))
      ∙ sym
      (ap (λ (k : ℕ). take k s) e
      ∙ take-add header_size (variable_size s + data_length s) s
      ∙ (λ i.
      ap (λ (x : List ℕ). take 17 x) (front 17 0 s (omega arith)) i
      ++ (take-add (variable_size s) (data_length s) (drop header_size s)
      ∙ ap (λ (x : List ℕ). take (variable_size s) (drop header_size s) ++ take (data_length s) x) (drop-drop (variable_size s) header_size s)) i))

  pub last_four : drop (field_place s) s ≡ in_four (four_at s (field_place s))
  last_four =
      let l = all in
      let m = field_place s in
      front 4 m s (omega arith)
      ∙ ap (λ (x : List ℕ). cells 4 m s ++ x) (drop_of_length-le s {i = m + 4} (omega arith))
      ∙ sym (simp (add-one, add-two, add-three) at (four_of_lem s bytes m))

  pub rebuilt : message again ≡ s
  unfolding message fields_of header_of
  rebuilt =
      rw (before_is, field_same s (kind_of (flags_of s)) (field_place s) g.integrity)
      (ap (λ (x : List ℕ). take (field_place s) s ++ x) (sym last_four) ∙ take-append-drop (field_place s) s)

  -- ---- no rule of writing is broken

  ends_kept : bad_ends again.routing again.source again.destination ≡ false
  unfolding fields_of addressing_of
  ends_kept = go (eqb (variable_size s) 0) refl
    where
      go : (c : Bool) → eqb (variable_size s) 0 ≡ c
          → let a = cond c absent (present (two_at s 17) (two_at s 19) (source_of region) (destination_of region)) in
          bad_ends (routing_of a) (source_bytes s a) (destination_bytes s a) ≡ false
      go true e = nothing_kept
      go false e =
          let w = scanned e in
          rw (source_is e, destination_is e, end_kept region w.source, second_kept region w)

  pub again_kept : FourKept again
  unfolding fields_of header_of
  again_kept =
      record {
        flags = g.heading.flags;
        ends = ends_kept;
        body = le-ltb largest_body (length again.body) (omega (arith, body-length, data_length_most s bytes));
        integrity = number_kept (kind_of (flags_of s)) (four_at s (field_place s));
      }
