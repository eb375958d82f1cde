-- Three bits at most, in bytes and sum: two sums differ by what the bits that differ lead to, so these bits, with those of the sums behind them,
-- are a number that its steps leave nothing of. Before that: bits that differ are the ones of an exclusive or.
use mathlib.Core.Bool.{cond}
use mathlib.Core.Path.{◌≡◌, refl, sym, ap, ap₂, ◌∙◌}
use mathlib.Core.List.{List, [], ◌∷◌, ◌++◌}
use Prim.Native.Nat.{ℕ, zero, suc, ◌+◌, ◌*◌, ◌/◌, ◌%◌, ◌^◌, ◌≤◌, ◌<◌}
use native.Mathlib.Nat.{add_comm, add_assoc, suc-add, zero-add, div-add-mod'}
use native.Mathlib.Omega.{arith}
use lib.Arith.{digits_lt, lt-one}
use lib.Bits.{bit_xor, xor_self, xor_zero_r, xor_lt, xor_shifted, xor_block, block_half, block_odd}
use lib.Dec.{eqb}
use borrow.Author.Tests.{eq-eqb}
use lib.ListN.{length}
use lib.Pow.{high, low, pow-add, pow_pos}
use Rattle.sum.specs.Crc.{bit_steps, crc32}
use Rattle.sum.specs.Detection.{Bytes, bits_of_byte, bits_of}
use Rattle.sum.specs.Flips.{places_apart, bits_apart, low_bits, DetectsFlips}
use Rattle.sum.proofs.Xor.{xor_zero, half_lt}
use Rattle.sum.proofs.Steps.{bit_steps_linear, bit_steps_shifted, bit_steps-zero, bit_steps-add}
use Rattle.sum.proofs.Digits.{Fit, number, number_lt, number_injective, bits_number, bits_fit, bits_length}
use Rattle.sum.proofs.Sums.{sums_differ}
use Rattle.sum.proofs.States.{most_steps}
use Rattle.sum.proofs.Few.{ones, few_none}
use Rattle.sum.proofs.Laws.{crc32_lt}

-- ---- places that differ

pub places_apart_same : (u : List ℕ) → places_apart u u ≡ 0
unfolding places_apart
places_apart_same [] = refl
places_apart_same (a ∷ u) = ap₂ ◌+◌ (alike a) (places_apart_same u)
  where
    alike : (a : ℕ) → ◌≡◌ {A = ℕ} (cond (eqb a a) 0 1) 0
    alike a = simp (eq-eqb a a refl)

places_apart-append : (u v a b : List ℕ) → length u ≡ length v → places_apart (u ++ a) (v ++ b) ≡ places_apart u v + places_apart a b
unfolding places_apart
places_apart-append [] [] a b l = sym (zero-add (places_apart a b))
places_apart-append [] (y ∷ v) a b l = absurd (omega arith)
places_apart-append (x ∷ u) [] a b l = absurd (omega arith)
places_apart-append (x ∷ u) (y ∷ v) a b l =
    ap (λ (n : ℕ). cond (eqb x y) 0 1 + n) (places_apart-append u v a b (omega arith))
    ∙ sym (add_assoc (cond (eqb x y) 0 1) (places_apart u v) (places_apart a b))

bit_differs : (a b : ℕ) → a < 2 → b < 2 → cond (eqb a b) 0 1 ≡ bit_xor a b
bit_differs zero zero ha hb = refl
bit_differs zero (suc zero) ha hb = refl
bit_differs (suc zero) zero ha hb = sym (xor_zero_r 1)
bit_differs (suc zero) (suc zero) ha hb = sym (xor_self 1)
bit_differs zero (suc (suc b)) ha hb = omega arith
bit_differs (suc zero) (suc (suc b)) ha hb = omega arith
bit_differs (suc (suc a)) b ha hb = omega arith

-- bits that differ are the ones of the exclusive or
places_apart_ones : (u v : List ℕ) → Fit 1 u → Fit 1 v → length u ≡ length v
    → places_apart u v ≡ ones (length u) (bit_xor (number 1 u) (number 1 v))
unfolding places_apart ones number
places_apart_ones [] [] hu hv l = refl
places_apart_ones [] (b ∷ v) hu hv l = absurd (omega arith)
places_apart_ones (a ∷ u) [] hu hv l = absurd (omega arith)
places_apart_ones (a ∷ u) (b ∷ v) hu hv l =
    ap₂ ◌+◌
    (bit_differs a b (hu 0) (hv 0) ∙ sym (ap (λ (x : ℕ). x % 2) block ∙ low (bit_xor (number 1 u) (number 1 v)) 1 bit))
    (places_apart_ones u v (λ i. hu (suc i)) (λ i. hv (suc i)) (omega arith)
    ∙ ap (ones (length u)) (sym (ap (λ (x : ℕ). x / 2) block ∙ high (bit_xor (number 1 u) (number 1 v)) 1 bit)))
  where
    bit : bit_xor a b < 2 ^ 1
    bit = xor_lt 1 a b (hu 0) (hv 0)

    block : bit_xor (number 1 u * 2 ^ 1 + a) (number 1 v * 2 ^ 1 + b) ≡ bit_xor (number 1 u) (number 1 v) * 2 ^ 1 + bit_xor a b
    block = xor_block 1 (number 1 u) (number 1 v) a b (hu 0) (hv 0)

-- ---- of bytes

bits_apart_ones : (x y : List ℕ) → Bytes x → Bytes y → length x ≡ length y → bits_apart x y ≡ ones (8 * length x) (bit_xor (number 8 x) (number 8 y))
unfolding bits_apart
bits_apart_ones x y hx hy l =
    places_apart_ones (bits_of x) (bits_of y) (bits_fit x) (bits_fit y) (omega (arith, bits_length x, bits_length y))
    ∙ ap₂ ones (bits_length x) (ap₂ bit_xor (bits_number x hx) (bits_number y hy))

pub bits_apart_same : (x : List ℕ) → bits_apart x x ≡ 0
unfolding bits_apart
bits_apart_same x = places_apart_same (bits_of x)

bits_apart_next : (a b : ℕ) (x y : List ℕ) → bits_apart (a ∷ x) (b ∷ y) ≡ places_apart (bits_of_byte a) (bits_of_byte b) + bits_apart x y
unfolding bits_apart bits_of
bits_apart_next a b x y = places_apart-append (bits_of_byte a) (bits_of_byte b) (bits_of x) (bits_of y) refl

bits_apart_none : bits_apart [] [] ≡ 0
unfolding bits_apart bits_of places_apart
bits_apart_none = refl

pub bits_apart-append : (x y a b : List ℕ) → length x ≡ length y → bits_apart (x ++ a) (y ++ b) ≡ bits_apart x y + bits_apart a b
bits_apart-append [] [] a b l = omega (arith, bits_apart_none)
bits_apart-append [] (v ∷ y) a b l = absurd (omega arith)
bits_apart-append (u ∷ x) [] a b l = absurd (omega arith)
bits_apart-append (u ∷ x) (v ∷ y) a b l =
    omega (arith, bits_apart_next u v (x ++ a) (y ++ b), bits_apart_next u v x y, bits_apart-append x y a b (omega arith))

-- four bytes the other way round differ in as many bits
bits_apart_turned : (a b c d e f g h : ℕ) → bits_apart (a ∷ b ∷ c ∷ d ∷ []) (e ∷ f ∷ g ∷ h ∷ []) ≡ bits_apart (d ∷ c ∷ b ∷ a ∷ []) (h ∷ g ∷ f ∷ e ∷ [])
bits_apart_turned a b c d e f g h =
    omega (
      arith,
      bits_apart_next a e (b ∷ c ∷ d ∷ []) (f ∷ g ∷ h ∷ []),
      bits_apart_next b f (c ∷ d ∷ []) (g ∷ h ∷ []),
      bits_apart_next c g (d ∷ []) (h ∷ []),
      bits_apart_next d h [] [],
      bits_apart_next d h (c ∷ b ∷ a ∷ []) (g ∷ f ∷ e ∷ []),
      bits_apart_next c g (b ∷ a ∷ []) (f ∷ e ∷ []),
      bits_apart_next b f (a ∷ []) (e ∷ []),
      bits_apart_next a e [] [],
    )

-- ---- of numbers

low_bits-length : (n c : ℕ) → length (low_bits n c) ≡ n
unfolding low_bits
low_bits-length zero c = refl
low_bits-length (suc n) c = ap suc (low_bits-length n (c / 2))

low_bits_fit : (n c : ℕ) → Fit 1 (low_bits n c)
unfolding low_bits
low_bits_fit zero c i = pow_pos 1
low_bits_fit (suc n) c zero = omega arith
low_bits_fit (suc n) c (suc i) = low_bits_fit n (c / 2) i

low_bits_number : (n c : ℕ) → c < 2 ^ n → number 1 (low_bits n c) ≡ c
unfolding low_bits number
low_bits_number zero c h = sym (lt-one h)
low_bits_number (suc n) c h = ap (λ (x : ℕ). x * 2 + c % 2) (low_bits_number n (c / 2) (half_lt n c h)) ∙ div-add-mod' c 2

low_bits_ones : (n c d : ℕ) → c < 2 ^ n → d < 2 ^ n → places_apart (low_bits n c) (low_bits n d) ≡ ones n (bit_xor c d)
low_bits_ones n c d hc hd =
    places_apart_ones (low_bits n c) (low_bits n d) (low_bits_fit n c) (low_bits_fit n d) (low_bits-length n c ∙ sym (low_bits-length n d))
    ∙ ap₂ ones (low_bits-length n c) (ap₂ bit_xor (low_bits_number n c hc) (low_bits_number n d hd))

-- a number's four bytes, the highest first, differ in as many bits as the number
abbrev four_of : ℕ → List ℕ
four_of c = c / 16777216 ∷ c / 65536 % 256 ∷ c / 256 % 256 ∷ c % 256 ∷ []

abbrev turned : ℕ → List ℕ
turned c = c % 256 ∷ c / 256 % 256 ∷ c / 65536 % 256 ∷ c / 16777216 ∷ []

turned_bytes : (c : ℕ) → c < 2 ^ 32 → Bytes (turned c)
turned_bytes c h zero = omega arith
turned_bytes c h (suc zero) = omega arith
turned_bytes c h (suc (suc zero)) = omega arith
turned_bytes c h (suc (suc (suc zero))) = omega arith
turned_bytes c h (suc (suc (suc (suc i)))) = pow_pos 8

turned_number : (c : ℕ) → number 8 (turned c) ≡ c
unfolding number
turned_number c = omega arith

pub bits_apart_field : (c d : ℕ) → c < 2 ^ 32 → d < 2 ^ 32 → bits_apart (four_of c) (four_of d) ≡ places_apart (low_bits 32 c) (low_bits 32 d)
bits_apart_field c d hc hd =
    bits_apart_turned (c / 16777216) (c / 65536 % 256) (c / 256 % 256) (c % 256) (d / 16777216) (d / 65536 % 256) (d / 256 % 256) (d % 256)
    ∙ bits_apart_ones (turned c) (turned d) (turned_bytes c hc) (turned_bytes d hd) refl
    ∙ ap (ones 32) (ap₂ bit_xor (turned_number c) (turned_number d))
    ∙ sym (low_bits_ones 32 c d hc hd)

-- ---- at most three

ones_block : (k n a r : ℕ) → r < 2 ^ k → ones (k + n) (a * 2 ^ k + r) ≡ ones k r + ones n a
unfolding ones
ones_block zero n a r h = ap₂ ones (zero-add n) alone ∙ sym (zero-add (ones n a))
  where
    alone : a * 1 + r ≡ a
    alone = omega (arith, lt-one h)
ones_block (suc k) n a r h =
    ap (λ (m : ℕ). ones m (a * 2 ^ suc k + r)) (suc-add k n)
    ∙ ap₂ ◌+◌ (block_odd a k r) (ap (ones (k + n)) (block_half a k r) ∙ ones_block k n a (r / 2) (half_lt k r h))
    ∙ sym (add_assoc (r % 2) (ones k (r / 2)) (ones n a))

-- a number d of n digits, with what it leads to behind it
few_with_sum : (n d f : ℕ) → n + 32 ≤ most_steps → d < 2 ^ n → f < 2 ^ 32 → f ≡ bit_steps n d → ones n d + ones 32 f ≤ 3 → d ≡ 0
few_with_sum n d f l hd hf e few =
    let z : f * 2 ^ n + d ≡ 0 = few_none (n + 32) (f * 2 ^ n + d) l fits (rw (ones_block n 32 f d) few) gone in omega arith
  where
    fits : f * 2 ^ n + d < 2 ^ (n + 32)
    fits = rw (add_comm n 32, pow-add 2 32 n) (digits_lt hf hd)

    gone : bit_steps (n + 32) (f * 2 ^ n + d) ≡ 0
    gone =
        bit_steps-add n 32 (f * 2 ^ n + d)
        ∙ ap (bit_steps 32)
        (ap (bit_steps n) (sym (xor_shifted f n d hd))
        ∙ bit_steps_linear n (f * 2 ^ n) d
        ∙ ap₂ bit_xor (bit_steps_shifted n f ∙ e) refl
        ∙ xor_self (bit_steps n d))
        ∙ bit_steps-zero 32

pub detects_three_flips : DetectsFlips 3
detects_three_flips x y hx hy same l few =
    number_injective 8 x y hx hy same
    (xor_zero (number 8 x) (number 8 y)
    (few_with_sum (8 * length x) (bit_xor (number 8 x) (number 8 y)) (bit_xor (crc32 x) (crc32 y)) (omega arith)
    (xor_lt (8 * length x) (number 8 x) (number 8 y) (number_lt 8 x hx) (rw same (number_lt 8 y hy)))
    (xor_lt 32 (crc32 x) (crc32 y) (crc32_lt x hx) (crc32_lt y hy)) (sums_differ x y hx hy same)
    (omega (arith, bits_apart_ones x y hx hy same, low_bits_ones 32 (crc32 x) (crc32 y) (crc32_lt x hx) (crc32_lt y hy)))))
