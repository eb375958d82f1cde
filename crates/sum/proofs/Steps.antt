-- Laws of the bit step, for any number n of bits taken at once: n steps are linear, undo a shift by n, and are one to one on 32 digits.
-- The polynomial enters by two facts alone: it has 32 digits, and its top digit is 1.
use mathlib.Core.Bool.{cond}
use mathlib.Core.Path.{◌≡◌, refl, sym, ap, ap₂, ◌∙◌}
use Prim.Native.Nat.{ℕ, zero, suc, ◌+◌, ◌*◌, ◌/◌, ◌%◌, ◌^◌, ◌<◌}
use native.Mathlib.Nat.{mod-lt, zero-lt-suc, mul-one, zero-add, suc-add, div-add-mod', div-eq_of_lt}
use native.Mathlib.Omega.{arith}
use lib.Bits.{bit_xor, differ, xor_comm, xor_self, xor_zero_r, xor_shr, xor_lt, xor_shifted, shifted_half, shifted_even, xor_assoc}
use lib.Dec.{eqb, eqb-suc-zero, lit<}
use lib.Pow.{split, pow_pos}
use Rattle.sum.specs.Crc.{polynomial, bit_step, bit_steps}
use Rattle.sum.proofs.Xor.{xor_half, xor_odd, xor_swap, xor_undo}

two_pos : zero < 2
two_pos = zero-lt-suc 1

-- what a step leaves of a shifted state, by the bit that fell out
reduced : ℕ → ℕ → ℕ
reduced zero shifted = shifted
reduced (suc b) shifted = bit_xor shifted polynomial

by_the_bit : (b shifted : ℕ) → cond (eqb b 0) shifted (bit_xor shifted polynomial) ≡ reduced b shifted
unfolding reduced
by_the_bit zero shifted = refl
by_the_bit (suc b) shifted = rw eqb-suc-zero

bit_step_is : (state : ℕ) → bit_step state ≡ reduced (state % 2) (state / 2)
unfolding bit_step
bit_step_is state = by_the_bit (state % 2) (state / 2)

-- a step by itself: of an even state, and of an odd one
pub bit_step_even : (a : ℕ) → bit_step (a * 2) ≡ a
unfolding reduced
bit_step_even a =
    let low : a * 2 % 2 ≡ 0 = omega arith in
    let high : a * 2 / 2 ≡ a = omega arith in
    bit_step_is (a * 2) ∙ ap₂ reduced low high

pub bit_step_odd : (a : ℕ) → bit_step (a * 2 + 1) ≡ bit_xor a polynomial
unfolding reduced
bit_step_odd a =
    let low : (a * 2 + 1) % 2 ≡ 1 = omega arith in
    let high : (a * 2 + 1) / 2 ≡ a = omega arith in
    bit_step_is (a * 2 + 1) ∙ ap₂ reduced low high

-- no step, and one step more
pub bit_steps_none : (state : ℕ) → bit_steps 0 state ≡ state
unfolding bit_steps
bit_steps_none state = refl

pub bit_steps_next : (n state : ℕ) → bit_steps (suc n) state ≡ bit_steps n (bit_step state)
unfolding bit_steps
bit_steps_next n state = refl

-- ---- linear

reduced_linear : (x y a b : ℕ) → x < 2 → y < 2 → reduced (differ x y) (bit_xor a b) ≡ bit_xor (reduced x a) (reduced y b)
unfolding reduced
reduced_linear zero zero a b hx hy = refl
reduced_linear zero (suc y) a b hx hy = xor_assoc a b polynomial
reduced_linear (suc (suc x)) y a b hx hy = omega arith
reduced_linear (suc zero) zero a b hx hy =
    xor_assoc a b polynomial ∙ ap (bit_xor a) (xor_comm b polynomial) ∙ sym (xor_assoc a polynomial b)
reduced_linear (suc zero) (suc (suc y)) a b hx hy = omega arith
reduced_linear (suc zero) (suc zero) a b hx hy =
    sym (xor_swap a polynomial b polynomial ∙ ap (bit_xor (bit_xor a b)) (xor_self polynomial) ∙ xor_zero_r (bit_xor a b))

bit_step_linear : (a b : ℕ) → bit_step (bit_xor a b) ≡ bit_xor (bit_step a) (bit_step b)
bit_step_linear a b =
    bit_step_is (bit_xor a b)
    ∙ ap₂ reduced (xor_odd a b) (xor_half a b)
    ∙ reduced_linear (a % 2) (b % 2) (a / 2) (b / 2) (mod-lt a two_pos) (mod-lt b two_pos)
    ∙ sym (ap₂ bit_xor (bit_step_is a) (bit_step_is b))

pub bit_steps_linear : (n a b : ℕ) → bit_steps n (bit_xor a b) ≡ bit_xor (bit_steps n a) (bit_steps n b)
unfolding bit_steps
bit_steps_linear zero a b = refl
bit_steps_linear (suc n) a b = ap (bit_steps n) (bit_step_linear a b) ∙ bit_steps_linear n (bit_step a) (bit_step b)

pub bit_steps-zero : (n : ℕ) → bit_steps n 0 ≡ 0
bit_steps-zero n = sym (ap (bit_steps n) (xor_self 0)) ∙ bit_steps_linear n 0 0 ∙ xor_self (bit_steps n 0)

-- ---- a number shifted by n comes back in n steps

bit_step_shifted : (a k : ℕ) → bit_step (a * 2 ^ suc k) ≡ a * 2 ^ k
unfolding reduced
bit_step_shifted a k = bit_step_is (a * 2 ^ suc k) ∙ ap₂ reduced (shifted_even a k) (shifted_half a k)

pub bit_steps_shifted : (n a : ℕ) → bit_steps n (a * 2 ^ n) ≡ a
unfolding bit_steps
bit_steps_shifted zero a = mul-one a
bit_steps_shifted (suc n) a = ap (bit_steps n) (bit_step_shifted a n) ∙ bit_steps_shifted n a

-- n bits at once: the steps of the n low digits, with the other digits added
pub bit_steps_low : (n state : ℕ) → bit_steps n state ≡ bit_xor (bit_steps n (state % 2 ^ n)) (state / 2 ^ n)
bit_steps_low n state =
    ap (bit_steps n) (sym (xor_shifted (state / 2 ^ n) n (state % 2 ^ n) (mod-lt state (pow_pos n)) ∙ split state n))
    ∙ bit_steps_linear n (state / 2 ^ n * 2 ^ n) (state % 2 ^ n)
    ∙ ap (λ (x : ℕ). bit_xor x (bit_steps n (state % 2 ^ n))) (bit_steps_shifted n (state / 2 ^ n))
    ∙ xor_comm (state / 2 ^ n) (bit_steps n (state % 2 ^ n))

-- steps one after the other
pub bit_steps-add : (m n state : ℕ) → bit_steps (m + n) state ≡ bit_steps n (bit_steps m state)
unfolding bit_steps
bit_steps-add zero n state = rw zero-add
bit_steps-add (suc m) n state = rw suc-add (bit_steps-add m n (bit_step state))

-- steps that take a shift back, and go on
pub bit_steps_past : (m n a : ℕ) → bit_steps (m + n) (a * 2 ^ m) ≡ bit_steps n a
bit_steps_past m n a = bit_steps-add m n (a * 2 ^ m) ∙ ap (bit_steps n) (bit_steps_shifted m a)

-- ---- one to one on 32 digits

reduced_lt : (b shifted : ℕ) → shifted < 2 ^ 32 → reduced b shifted < 2 ^ 32
unfolding reduced
reduced_lt zero shifted h = h
reduced_lt (suc b) shifted h = xor_lt 32 shifted polynomial h (lit< tt)

pub bit_step_lt : (state : ℕ) → state < 2 ^ 32 → bit_step state < 2 ^ 32
bit_step_lt state h = rw bit_step_is (reduced_lt (state % 2) (state / 2) (omega arith))

pub bit_steps_lt : (n state : ℕ) → state < 2 ^ 32 → bit_steps n state < 2 ^ 32
unfolding bit_steps
bit_steps_lt zero state h = h
bit_steps_lt (suc n) state h = bit_steps_lt n (bit_step state) (bit_step_lt state h)

-- the top digit of what a step leaves is the bit that fell out, so the step can be taken back
back : ℕ → ℕ
back left = reduced (left / 2 ^ 31) left * 2 + left / 2 ^ 31

reduced_top : (b shifted : ℕ) → b < 2 → shifted < 2 ^ 31 → reduced b shifted / 2 ^ 31 ≡ b
unfolding reduced
reduced_top zero shifted hb h = div-eq_of_lt h
reduced_top (suc zero) shifted hb h = xor_shr shifted polynomial 31 ∙ ap (λ (x : ℕ). bit_xor x 1) (div-eq_of_lt h)
reduced_top (suc (suc b)) shifted hb h = omega arith

reduced_undo : (b shifted : ℕ) → reduced b (reduced b shifted) ≡ shifted
unfolding reduced
reduced_undo zero shifted = refl
reduced_undo (suc b) shifted = xor_undo shifted polynomial

back_bit_step : (state : ℕ) → state < 2 ^ 32 → back (bit_step state) ≡ state
unfolding back
back_bit_step state h =
    rw (bit_step_is, reduced_top (state % 2) (state / 2) (mod-lt state two_pos) (omega arith), reduced_undo (state % 2) (state / 2))
    (div-add-mod' state 2)

bit_step_injective : (a b : ℕ) → a < 2 ^ 32 → b < 2 ^ 32 → bit_step a ≡ bit_step b → a ≡ b
bit_step_injective a b ha hb e = sym (back_bit_step a ha) ∙ ap back e ∙ back_bit_step b hb

pub bit_steps_injective : (n a b : ℕ) → a < 2 ^ 32 → b < 2 ^ 32 → bit_steps n a ≡ bit_steps n b → a ≡ b
unfolding bit_steps
bit_steps_injective zero a b ha hb e = e
bit_steps_injective (suc n) a b ha hb e =
    bit_step_injective a b ha hb (bit_steps_injective n (bit_step a) (bit_step b) (bit_step_lt a ha) (bit_step_lt b hb) e)
