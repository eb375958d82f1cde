-- Four neighbouring bytes anywhere, from demand 3 and the sum's laws of its edge: n bytes before the field in the window leave n bytes of the field outside it.
-- These are the lowest of the sum.
use Rattle.std.proofs.Common.{◌≡◌, ℕ, zero, suc, ◌+◌, ◌-◌, ◌*◌, ◌%◌, ◌^◌, ◌<◌, ◌≤◌, ◌⊎◌, List, [], ◌∷◌, ◌++◌, length, take, drop, sym, refl, ap, ◌∙◌, ap₂, inl, inr, add-zero, add-one, arith, lit<, lit≤, length-drop, length-take-le, drop-cons, take-add}
use native.Mathlib.Decide.{dec_le}
use lib.Bits.{bit_xor, xor_lt, xor_block}
use Rattle.sum.specs.Crc.{crc32}
use Rattle.sum.specs.Detection.{Bytes}
use Rattle.sum.specs.Edge.{TwoAndTwo, same, one_difference}
use Rattle.sum.proofs.Edge.{detects_at_edge, detects_two_and_two}
use Rattle.sum.proofs.Laws.{bytes_take, bytes_drop}
use Rattle.envelope.specs.AnyWindow.{TwoAndTwoAt, AnyWindow, OneDifference, MiddleWindow}
use Rattle.envelope.specs.Demand3.{DeclaresCrc, before, field, SameOutside, Demand3}
use Rattle.envelope.specs.Layout.{field_size}
use Rattle.envelope.specs.Numbers.{byte_at, four_bytes, four_at}
use Rattle.envelope.proofs.DemandLaws.{same_front, sum_s, sum_t, same_before, before_same}

-- ---- numbers of four bytes whose last n are the same

low_same : (n a b c d e f g h : ℕ) → n ≤ 4
    → (4 ≤ n → a ≡ e) → (3 ≤ n → b ≡ f) → (2 ≤ n → c ≡ g) → (1 ≤ n → d ≡ h)
    → four_bytes a b c d % 2 ^ (8 * n) ≡ four_bytes e f g h % 2 ^ (8 * n)
low_same zero a b c d e f g h few pa pb pc pd = omega arith
low_same (suc zero) a b c d e f g h few pa pb pc pd = let q = pd (lit≤ tt) in omega arith
low_same (suc (suc zero)) a b c d e f g h few pa pb pc pd = let q = pd (lit≤ tt) in let r = pc (lit≤ tt) in omega arith
low_same (suc (suc (suc zero))) a b c d e f g h few pa pb pc pd =
    let q = pd (lit≤ tt) in let r = pc (lit≤ tt) in let o = pb (lit≤ tt) in omega arith
low_same (suc (suc (suc (suc zero)))) a b c d e f g h few pa pb pc pd =
    rw (pd (lit≤ tt), pc (lit≤ tt), pb (lit≤ tt), pa (lit≤ tt))
low_same (suc (suc (suc (suc (suc n))))) a b c d e f g h few pa pb pc pd = absurd (omega arith)

field_low : (s t : List ℕ) (e n : ℕ) → n ≤ 4 → ((i : ℕ) → i < 4 → 4 ≤ i + n → byte_at s (e + i) ≡ byte_at t (e + i))
    → four_at s e % 2 ^ (8 * n) ≡ four_at t e % 2 ^ (8 * n)
unfolding four_at
field_low s t e n few p =
    low_same n (byte_at s e) (byte_at s (e + 1)) (byte_at s (e + 2)) (byte_at s (e + 3)) (byte_at t e) (byte_at t (e + 1)) (byte_at t (e + 2)) (byte_at t (e + 3)) few
    (λ h. rw add-zero at (p 0 (lit< tt) (omega arith)))
    (λ h. p 1 (lit< tt) (omega arith))
    (λ h. p 2 (lit< tt) (omega arith))
    (λ h. p 3 (lit< tt) (omega arith))

two_of : (s : List ℕ) (k : ℕ) → k + 2 ≤ length s → take 2 (drop k s) ≡ byte_at s k ∷ byte_at s (k + 1) ∷ []
two_of s k h = rw (drop-cons s k 0 (omega arith), drop-cons s (suc k) 0 (omega arith), add-one)

-- ---- two messages that declare a CRC, the same outside a window that reaches the field

module _ (s t : List ℕ) (bs : Bytes s) (bt : Bytes t) (l : length s ≡ length t) (ds : DeclaresCrc s) (dt : DeclaresCrc t)
    (k : ℕ) (outside : SameOutside k s t) (reaches : length s - field_size ≤ k + 4) where
  abbrev end : ℕ
  end = length s - field_size

  -- so many bytes before the field lie in the window, from place q on
  abbrev n : ℕ
  n = end - k

  abbrev q : ℕ
  q = end - n

  all : end ≡ q + n
  all = omega arith

  cut : (m : List ℕ) → take end m ≡ take q m ++ take n (drop q m)
  cut m = ap (λ (e : ℕ). take e m) all ∙ take-add q n m

  fronts : take q s ≡ take q t
  fronts = same_front s t q l (omega arith) (λ i b. outside.0 i (omega arith))

  cut_t : take end t ≡ take q s ++ take n (drop q t)
  cut_t = cut t ∙ ap (λ (p : List ℕ). p ++ take n (drop q t)) (sym fronts)

  n_long : (m : List ℕ) → length m ≡ length s → length (take n (drop q m)) ≡ n
  n_long m e = length-take-le n (drop q m) (rw length-drop (omega arith))

  low_sums : crc32 (take q s ++ take n (drop q s)) % 2 ^ (8 * n) ≡ crc32 (take q s ++ take n (drop q t)) % 2 ^ (8 * n)
  low_sums =
      ap (λ (c : ℕ). c % 2 ^ (8 * n)) (ap crc32 (sym (cut s)) ∙ sym (sum_s s t bs bt l ds dt))
      ∙ field_low s t end n (omega arith) (λ i h b. outside.1 (end + i) (omega arith))
      ∙ ap (λ (c : ℕ). c % 2 ^ (8 * n)) (sum_t s t bs bt l ds dt ∙ ap crc32 cut_t)

  -- the bytes of the window before the field are the same: the messages are
  windows_same : take n (drop q s) ≡ take n (drop q t) → s ≡ t
  windows_same e = same_before s t bs bt l ds dt (cut s ∙ ap (λ (x : List ℕ). take q s ++ x) e ∙ sym cut_t)

  not_two : (n ≡ 2 → ⊥) → s ≡ t
  not_two other =
      windows_same
      (detects_at_edge (take q s) (take n (drop q s)) (take n (drop q t))
      (bytes_take q s bs) (bytes_take n (drop q s) (bytes_drop q s bs)) (bytes_take n (drop q t) (bytes_drop q t bt))
      (n_long s refl ∙ sym (n_long t (sym l))) (omega (arith, n_long s refl)) (λ e. other (sym (n_long s refl) ∙ e))
      (rw (n_long s refl) low_sums))

pub any_window : AnyWindow
any_window s t k bs bt l ds dt other outside = by (dec_le (k + 4) (length s - field_size))
  where
    by : Dec (k + 4 ≤ length s - field_size) → s ≡ t
    by (yes h) = before_same s t bs bt l ds dt k h outside
    by (no h) =
        not_two s t bs bt l ds dt k outside (omega arith)
        (λ e. other (let z : TwoAndTwoAt k (length s) = omega arith in z))

-- demand 3 is a case of it: a window before the field, or that is it, has not two and two
pub gives_demand_3 : AnyWindow → Demand3
gives_demand_3 law s t k bs bt l ds dt (before inside) outside = law s t k bs bt l ds dt (λ e. omega arith) outside
gives_demand_3 law s t k bs bt l ds dt (field at) outside = law s t k bs bt l ds dt (λ e. omega arith) outside

-- ---- two bytes before the field and two in it

four_apart : (a b c d e f g h : ℕ) → b < 256 → c < 256 → d < 256 → f < 256 → g < 256 → h < 256
    → bit_xor (four_bytes a b c d) (four_bytes e f g h) ≡ ((bit_xor a e * 256 + bit_xor b f) * 256 + bit_xor c g) * 256 + bit_xor d h
four_apart a b c d e f g h hb hc hd hf hg hh =
    ap₂ bit_xor (nested a b c d) (nested e f g h)
    ∙ xor_block 8 ((a * 256 + b) * 256 + c) ((e * 256 + f) * 256 + g) d h hd hh
    ∙ ap (λ (x : ℕ). x * 256 + bit_xor d h)
    (xor_block 8 (a * 256 + b) (e * 256 + f) c g hc hg ∙ ap (λ (x : ℕ). x * 256 + bit_xor c g) (xor_block 8 a e b f hb hf))
  where
    nested : (a b c d : ℕ) → four_bytes a b c d ≡ ((a * 256 + b) * 256 + c) * 256 + d
    nested a b c d = omega arith

first_digits : (a b c d : ℕ) → b < 256 → c < 256 → d < 256 → ((a * 256 + b) * 256 + c) * 256 + d ≡ 0xF4EE0000 → (a ≡ 0xF4) × (b ≡ 0xEE)
first_digits a b c d hb hc hd e = (omega arith, omega arith)

field_apart : (s t : List ℕ) (e : ℕ) → Bytes s → Bytes t → bit_xor (four_at s e) (four_at t e) ≡ 0xF4EE0000
    → (bit_xor (byte_at s e) (byte_at t e) ≡ 0xF4) × (bit_xor (byte_at s (e + 1)) (byte_at t (e + 1)) ≡ 0xEE)
unfolding four_at
field_apart s t e bs bt p =
    first_digits (differs e) (differs (e + 1)) (differs (e + 2)) (differs (e + 3)) (fits (e + 1)) (fits (e + 2)) (fits (e + 3))
    (sym (four_apart (byte_at s e) (byte_at s (e + 1)) (byte_at s (e + 2)) (byte_at s (e + 3)) (byte_at t e) (byte_at t (e + 1)) (byte_at t (e + 2)) (byte_at t (e + 3))
    (bs (e + 1)) (bs (e + 2)) (bs (e + 3)) (bt (e + 1)) (bt (e + 2)) (bt (e + 3))) ∙ p)
  where
    differs : ℕ → ℕ
    differs i = bit_xor (byte_at s i) (byte_at t i)

    fits : (i : ℕ) → bit_xor (byte_at s i) (byte_at t i) < 256
    fits i = xor_lt 8 (byte_at s i) (byte_at t i) (bs i) (bt i)

module _ (s t : List ℕ) (bs : Bytes s) (bt : Bytes t) (l : length s ≡ length t) (ds : DeclaresCrc s) (dt : DeclaresCrc t)
    (k : ℕ) (outside : SameOutside k s t) (at : TwoAndTwoAt k (length s)) where
  abbrev place : ℕ
  place = length s - field_size

  abbrev pair : List ℕ → List ℕ
  pair m = byte_at m k ∷ byte_at m (k + 1) ∷ []

  cut_pair : (m : List ℕ) → length m ≡ length s → take place m ≡ take k m ++ pair m
  cut_pair m e = ap (λ (n : ℕ). take n m) (sym at) ∙ take-add k 2 m ∙ ap (λ (x : List ℕ). take k m ++ x) (two_of m k (omega arith))

  cut_other : take place t ≡ take k s ++ pair t
  cut_other =
      cut_pair t (sym l)
      ∙ ap (λ (p : List ℕ). p ++ pair t) (sym (same_front s t k l (omega arith) (λ i b. outside.0 i (omega arith))))

  sum_one : four_at s place ≡ crc32 (take k s ++ pair s)
  sum_one = sum_s s t bs bt l ds dt ∙ ap crc32 (cut_pair s refl)

  sum_other : four_at t place ≡ crc32 (take k s ++ pair t)
  sum_other = sum_t s t bs bt l ds dt ∙ ap crc32 cut_other

  pair_bytes : (m : List ℕ) → Bytes m → Bytes (pair m)
  pair_bytes m b zero = b k
  pair_bytes m b (suc zero) = b (k + 1)
  pair_bytes m b (suc (suc i)) = lit< tt

  found : TwoAndTwo (byte_at s k) (byte_at s (k + 1)) (byte_at t k) (byte_at t (k + 1)) (crc32 (take k s ++ pair s)) (crc32 (take k s ++ pair t))
  found =
      detects_two_and_two (take k s) (byte_at s k) (byte_at s (k + 1)) (byte_at t k) (byte_at t (k + 1))
      (bytes_take k s bs) (pair_bytes s bs) (pair_bytes t bt)
      (ap (λ (c : ℕ). c % 2 ^ 16) (sym sum_one)
      ∙ field_low s t place 2 (lit≤ tt) (λ i h b. outside.1 (place + i) (omega arith))
      ∙ ap (λ (c : ℕ). c % 2 ^ 16) sum_other)

  told : TwoAndTwo (byte_at s k) (byte_at s (k + 1)) (byte_at t k) (byte_at t (k + 1)) (crc32 (take k s ++ pair s)) (crc32 (take k s ++ pair t))
      → (s ≡ t) ⊎ OneDifference k s t
  told (same p q) =
      inl
      (same_before s t bs bt l ds dt
      (cut_pair s refl ∙ ap₂ (λ (a b : ℕ). take k s ++ a ∷ b ∷ []) p q ∙ sym cut_other))
  told (one_difference p q r) =
      let e : k + 3 ≡ place + 1 = omega arith in
      let f = field_apart s t place bs bt (ap₂ bit_xor sum_one sum_other ∙ r) in
      inr
      (record {
        first = p;
        second = q;
        third = ap (λ (i : ℕ). bit_xor (byte_at s i) (byte_at t i)) at ∙ f.0;
        fourth = ap (λ (i : ℕ). bit_xor (byte_at s i) (byte_at t i)) e ∙ f.1;
      })

pub middle_window : MiddleWindow
middle_window s t k bs bt l ds dt at outside = told s t bs bt l ds dt k outside at (found s t bs bt l ds dt k outside at)
