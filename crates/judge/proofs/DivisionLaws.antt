-- Long division gives the CRC. The sum's bit step, on the remainder read backwards with the digits still to come above it, is one step of the division:
-- so the digits of the dividend brought down are as many bit steps.
use mathlib.Core.Path.{◌≡◌, refl, sym, ap, ap₂, ◌∙◌}
use mathlib.Core.Bool.{Bool, true, false}
use mathlib.Core.List.{List, [], ◌∷◌, ◌++◌}
use Prim.Native.Nat.{ℕ, zero, suc, ◌+◌, ◌-◌, ◌*◌, ◌/◌, ◌%◌, ◌^◌, ◌<◌, ◌≤◌}
use native.Mathlib.Nat.{zero-add, add-zero}
use native.Mathlib.Omega.{arith}
use borrow.Author.Tests.{ltb-true, ltb-false, lt-ltb, le-ltb}
use lib.Bits.{bit_xor, bit_and, xor_block, xor_lt, xor_zero_r, xor_comm, xor_add_and, and_mask}
use lib.Dec.{lit<, ltb}
use lib.ListN.{length, get_or}
use Rattle.sum.specs.Crc.{polynomial, all_ones, bit_step, bit_steps}
use Rattle.sum.specs.Detection.{Bytes, bits_of}
use Rattle.sum.proofs.Steps.{bit_step_even, bit_step_odd, bit_steps-add, bit_steps_shifted, bit_steps_none, bit_steps_next}
use Rattle.sum.proofs.Digits.{Fit, number, number_none, number_more, bits_number, bits_fit, bits_length}
use Rattle.sum.proofs.Laws.{crc32_number}
use Rattle.judge.specs.Agreement.{DividedIsCrc, BothSumsAgree}
use Rattle.judge.specs.Division.{divisor, inverted, room, divided_bytes, bring_down, remainder, backwards, divided}
use Rattle.judge.proofs.BackwardsLaws.{backwards_lt, backwards_first, backwards_last, backwards_xor}

-- ---- one step

pub down_small : (r d : ℕ) → r * 2 + d < 2 ^ 32 → bring_down r d ≡ r * 2 + d
unfolding bring_down
down_small r d h = rw (lt-ltb (r * 2 + d) (2 ^ 32) h)

pub down_large : (r d : ℕ) → 2 ^ 32 ≤ r * 2 + d → bring_down r d ≡ bit_xor (r * 2 + d) divisor
unfolding bring_down
down_large r d h = rw (le-ltb (r * 2 + d) (2 ^ 32) h)

-- the digit brought down, read backwards, is the highest
backwards_down : (r d : ℕ) → d < 2 → backwards 32 (r * 2 + d) ≡ d * 2 ^ 31 + backwards 31 r
backwards_down r d h =
    let low : (r * 2 + d) % 2 ≡ d = omega arith in
    let high : (r * 2 + d) / 2 ≡ r = omega arith in
    backwards_first 31 (r * 2 + d) ∙ ap₂ (λ (x y : ℕ). x * 2 ^ 31 + backwards 31 y) low high

-- the divisor's 32 low digits, read backwards, are the polynomial of the bit step
backwards_divisor : backwards 32 divisor ≡ polynomial
unfolding backwards
backwards_divisor = refl

-- 32 low digits and others above them: the polynomial reaches the low ones alone
xor_low : (c x : ℕ) → x < 2 ^ 32 → bit_xor (c * 2 ^ 32 + x) polynomial ≡ c * 2 ^ 32 + bit_xor x polynomial
xor_low c x h =
    xor_block 32 c 0 x polynomial h (lit< tt) ∙ ap (λ (y : ℕ). y * 2 ^ 32 + bit_xor x polynomial) (xor_zero_r c)

-- the bit step, on the digits still to come and the remainder read backwards
step_down : (c r d : ℕ) → r < 2 ^ 32 → d < 2 → bit_step ((c * 2 + d) * 2 ^ 32 + backwards 32 r) ≡ c * 2 ^ 32 + backwards 32 (bring_down r d)
step_down c r d h k = go (ltb (r * 2 + d) (2 ^ 32)) refl
  where
    go : (b : Bool) → ltb (r * 2 + d) (2 ^ 32) ≡ b
        → bit_step ((c * 2 + d) * 2 ^ 32 + backwards 32 r) ≡ c * 2 ^ 32 + backwards 32 (bring_down r d)
    go true e =
        let l = ltb-true (r * 2 + d) (2 ^ 32) e in
        let last = backwards_last 31 r in
        let even : (c * 2 + d) * 2 ^ 32 + backwards 32 r ≡ (c * 2 ^ 32 + (d * 2 ^ 31 + backwards 31 r)) * 2 = omega arith in
        ap bit_step even
        ∙ bit_step_even (c * 2 ^ 32 + (d * 2 ^ 31 + backwards 31 r))
        ∙ ap (λ (x : ℕ). c * 2 ^ 32 + x) (sym (ap (backwards 32) (down_small r d l) ∙ backwards_down r d k))
    go false e =
        let l = ltb-false (r * 2 + d) (2 ^ 32) e in
        let last = backwards_last 31 r in
        let small = backwards_lt 31 r in
        let odd : (c * 2 + d) * 2 ^ 32 + backwards 32 r ≡ (c * 2 ^ 32 + (d * 2 ^ 31 + backwards 31 r)) * 2 + 1 = omega arith in
        ap bit_step odd
        ∙ bit_step_odd (c * 2 ^ 32 + (d * 2 ^ 31 + backwards 31 r))
        ∙ xor_low c (d * 2 ^ 31 + backwards 31 r) (omega arith)
        ∙ ap (λ (x : ℕ). c * 2 ^ 32 + x)
        (sym
        (ap (backwards 32) (down_large r d l)
        ∙ backwards_xor 32 (r * 2 + d) divisor
        ∙ ap₂ bit_xor (backwards_down r d k) backwards_divisor))

-- a remainder has at most 32 digits
pub taken_lt : (t : ℕ) → 2 ^ 32 ≤ t → t < 2 ^ 33 → bit_xor t divisor < 2 ^ 32
taken_lt t l h =
    let whole : t ≡ 1 * 2 ^ 32 + (t - 2 ^ 32) = omega arith in
    let few : t - 2 ^ 32 < 2 ^ 32 = omega arith in
    let same : bit_xor t divisor ≡ bit_xor (t - 2 ^ 32) 0x04C1_1DB7 = ap (λ (x : ℕ). bit_xor x divisor) whole ∙ xor_block 32 1 1 (t - 2 ^ 32) 0x04C1_1DB7 few (lit< tt) ∙ zero-add (bit_xor (t - 2 ^ 32) 0x04C1_1DB7) in
    rw same (xor_lt 32 (t - 2 ^ 32) 0x04C1_1DB7 few (lit< tt))

pub down_lt : (r d : ℕ) → r < 2 ^ 32 → d < 2 → bring_down r d < 2 ^ 32
down_lt r d h k = go (ltb (r * 2 + d) (2 ^ 32)) refl
  where
    go : (b : Bool) → ltb (r * 2 + d) (2 ^ 32) ≡ b → bring_down r d < 2 ^ 32
    go true e = let l = ltb-true (r * 2 + d) (2 ^ 32) e in rw (down_small r d l) l
    go false e = let l = ltb-false (r * 2 + d) (2 ^ 32) e in rw (down_large r d l) (taken_lt (r * 2 + d) l (omega arith))

-- ---- all steps

bits_down : (ds : List ℕ) (r : ℕ) → Fit 1 ds → r < 2 ^ 32
    → bit_steps (length ds) (number 1 ds * 2 ^ 32 + backwards 32 r) ≡ backwards 32 (remainder r ds)
unfolding remainder
bits_down [] r h l =
    bit_steps_none (number 1 [] * 2 ^ 32 + backwards 32 r)
    ∙ ap (λ (x : ℕ). x * 2 ^ 32 + backwards 32 r) (number_none 1)
    ∙ zero-add (backwards 32 r)
bits_down (d ∷ ds) r h l =
    bit_steps_next (length ds) (number 1 (d ∷ ds) * 2 ^ 32 + backwards 32 r)
    ∙ ap (bit_steps (length ds))
    (ap (λ (x : ℕ). bit_step (x * 2 ^ 32 + backwards 32 r)) (number_more 1 d ds) ∙ step_down (number 1 ds) r d l (h 0))
    ∙ bits_down ds (bring_down r d) (λ i. h (suc i)) (down_lt r d l (h 0))

-- ---- the dividend

pub inverted-length : (n : ℕ) (l : List ℕ) → length (inverted n l) ≡ length l
unfolding inverted
inverted-length zero l = refl
inverted-length (suc n) [] = refl
inverted-length (suc n) (b ∷ l) = ap suc (inverted-length n l)

less : (b : ℕ) → 255 - b < 256
less b = omega arith

inverted_bytes : (n : ℕ) (l : List ℕ) → Bytes l → Bytes (inverted n l)
unfolding inverted
inverted_bytes zero l h i = h i
inverted_bytes (suc n) [] h i = h i
inverted_bytes (suc n) (b ∷ l) h zero = less b
inverted_bytes (suc n) (b ∷ l) h (suc i) = inverted_bytes n l (λ k. h (suc k)) i

-- n bytes of ones, as a number
abbrev ones : ℕ → ℕ
ones zero = 0
ones (suc n) = ones n * 256 + 255

invert_byte : (b : ℕ) → b < 256 → 255 - b ≡ bit_xor b 255
invert_byte b h =
    let total = xor_add_and b 255 in
    let mask : bit_and b 255 ≡ b % 256 = and_mask b 8 in
    omega arith

inverted_number : (n : ℕ) (l : List ℕ) → Bytes l → n ≤ length l → number 8 (inverted n l) ≡ bit_xor (number 8 l) (ones n)
unfolding inverted
inverted_number zero l h k = sym (xor_zero_r (number 8 l))
inverted_number (suc n) [] h k = absurd (omega arith)
inverted_number (suc n) (b ∷ l) h k =
    number_more 8 (255 - b) (inverted n l)
    ∙ ap₂ (λ (x y : ℕ). x * 256 + y) (inverted_number n l (λ i. h (suc i)) (omega arith)) (invert_byte b (h 0))
    ∙ sym (xor_block 8 (number 8 l) (ones n) b 255 (h 0) (lit< tt))
    ∙ ap (λ (x : ℕ). bit_xor x (ones (suc n))) (sym (number_more 8 b l))

room_number : (s : List ℕ) → number 8 (s ++ room) ≡ number 8 s
room_number [] = simp (number_more, number_none)
room_number (b ∷ s) = number_more 8 b (s ++ room) ∙ ap (λ (x : ℕ). x * 256 + b) (room_number s) ∙ sym (number_more 8 b s)

pub room-length : (s : List ℕ) → length (s ++ room) ≡ 4 + length s
room-length [] = refl
room-length (b ∷ s) = let more = room-length s in omega arith

pub room-zero : (i : ℕ) → get_or room i 0 ≡ 0
room-zero zero = refl
room-zero (suc zero) = refl
room-zero (suc (suc zero)) = refl
room-zero (suc (suc (suc zero))) = refl
room-zero (suc (suc (suc (suc i)))) = refl

pub room_at : (s : List ℕ) (i : ℕ) → get_or (s ++ room) i 0 ≡ get_or s i 0
room_at [] i = room-zero i
room_at (b ∷ s) zero = refl
room_at (b ∷ s) (suc i) = room_at s i

room_bytes : (s : List ℕ) → Bytes s → Bytes (s ++ room)
room_bytes s h i = rw (room_at s i) (h i)

-- ---- the theorem

backwards_none : backwards 32 0 ≡ 0
unfolding backwards
backwards_none = refl

dividend_number : (s : List ℕ) → Bytes s → number 8 (inverted 4 (s ++ room)) ≡ bit_xor all_ones (number 8 s)
dividend_number s h =
    let size = room-length s in
    inverted_number 4 (s ++ room) (room_bytes s h) (omega arith)
    ∙ ap (λ (x : ℕ). bit_xor x all_ones) (room_number s)
    ∙ xor_comm (number 8 s) all_ones

left_over : (s : List ℕ) → Bytes s
    → backwards 32 (remainder 0 (bits_of (inverted 4 (s ++ room)))) ≡ bit_steps (8 * length s) (bit_xor all_ones (number 8 s))
left_over s h =
    let d = inverted 4 (s ++ room) in
    let n = 8 * length s in
    let size : length (bits_of d) ≡ 32 + n = bits_length d ∙ ap (λ (x : ℕ). 8 * x) (inverted-length 4 (s ++ room) ∙ room-length s) ∙ four_more (length s) in
    sym (bits_down (bits_of d) 0 (bits_fit d) (lit< tt))
    ∙ ap₂ bit_steps size
    (ap₂ (λ (x y : ℕ). x * 2 ^ 32 + y) (bits_number d (inverted_bytes 4 (s ++ room) (room_bytes s h))) backwards_none
    ∙ add-zero (number 8 d * 2 ^ 32))
    ∙ bit_steps-add 32 n (number 8 d * 2 ^ 32)
    ∙ ap (bit_steps n) (bit_steps_shifted 32 (number 8 d) ∙ dividend_number s h)
  where
    four_more : (n : ℕ) → 8 * (4 + n) ≡ 32 + 8 * n
    four_more n = omega arith

pub divided_is_crc : DividedIsCrc
unfolding divided divided_bytes
divided_is_crc s h = ap (λ (x : ℕ). bit_xor x all_ones) (left_over s h) ∙ sym (crc32_number s h)

pub both_sums_agree : BothSumsAgree
both_sums_agree s a b h p q = p ∙ sym (divided_is_crc s h) ∙ sym q
