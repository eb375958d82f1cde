-- A number of at most three ones that its steps leave nothing of is nothing.
-- For its steps are the sum of what its ones lead to, and no one, two or three of the states that one bit leads to in 1 to `most_steps` steps add up to nothing.
use mathlib.Core.Bool.{cond}
use mathlib.Core.Path.{◌≡◌, refl, sym, ap, ap₂, ◌∙◌, subst, subst₂}
use Prim.Native.Nat.{ℕ, zero, suc, ◌+◌, ◌-◌, ◌/◌, ◌%◌, ◌^◌, ◌≤◌, ◌<◌}
use native.Mathlib.Nat.{mod-lt, zero-lt-suc, lt-suc_self}
use native.Mathlib.Omega.{arith}
use lib.Arith.{lt-one}
use lib.Bits.{bit_xor, xor_comm, xor_zero_l, xor_zero_r, xor_lt}
use lib.Dec.{eqb, lit<}
use Rattle.sum.specs.Crc.{polynomial, bit_step, bit_steps}
use Rattle.sum.proofs.Xor.{xor_half, xor_zero, half_lt}
use Rattle.sum.proofs.Steps.{bit_steps_linear, bit_steps-zero, bit_steps-add, bit_steps_lt, bit_steps_injective}
use Rattle.sum.proofs.States.{most_steps, states_differ}

-- how many of the n low digits of a number are ones
unfoldable pub ones : ℕ → ℕ → ℕ
ones zero x = zero
ones (suc n) x = x % 2 + ones n (x / 2)

-- ---- what one bit leads to, and what two and three do

lone : (a : ℕ) → bit_steps a 1 ≡ 0 → ⊥
lone a e = let z : ◌≡◌ {A = ℕ} 1 0 = bit_steps_injective a 1 0 (lit< tt) (lit< tt) (e ∙ sym (bit_steps-zero a)) in omega arith

pair : (a b : ℕ) → b < a → a ≤ most_steps → bit_xor (bit_steps a 1) (bit_steps b 1) ≡ 0 → ⊥
pair a b l h e =
    let z : a ≡ b = states_differ a b h (omega arith) (ap (λ (x : ℕ). x / 2) (xor_zero (bit_steps a 1) (bit_steps b 1) e)) in omega arith

abbrev start : ℕ → ℕ → ℕ
start i j = bit_xor (bit_steps i 1) (bit_xor (bit_steps j 1) 1)

triple_from : (i j c : ℕ) → j < i → i ≤ most_steps → bit_xor (bit_steps (i + c) 1) (bit_xor (bit_steps (j + c) 1) (bit_steps c 1)) ≡ 0 → ⊥
triple_from i j c l h e = let z : i ≡ j = states_differ i j h (omega arith) (xor_zero (bit_steps i 1 / 2) (bit_steps j 1 / 2) halves) in omega arith
  where
    fits : start i j < 2 ^ 32
    fits = xor_lt 32 (bit_steps i 1) (bit_xor (bit_steps j 1) 1) (bit_steps_lt i 1 (lit< tt)) (xor_lt 32 (bit_steps j 1) 1 (bit_steps_lt j 1 (lit< tt)) (lit< tt))

    steps : bit_steps c (start i j) ≡ bit_xor (bit_steps (i + c) 1) (bit_xor (bit_steps (j + c) 1) (bit_steps c 1))
    steps =
        bit_steps_linear c (bit_steps i 1) (bit_xor (bit_steps j 1) 1)
        ∙ ap₂ bit_xor (sym (bit_steps-add i c 1)) (bit_steps_linear c (bit_steps j 1) 1 ∙ ap (λ (x : ℕ). bit_xor x (bit_steps c 1)) (sym (bit_steps-add j c 1)))

    gone : start i j ≡ 0
    gone = bit_steps_injective c (start i j) 0 fits (lit< tt) (steps ∙ e ∙ sym (bit_steps-zero c))

    halves : bit_xor (bit_steps i 1 / 2) (bit_steps j 1 / 2) ≡ 0
    halves =
        ap (bit_xor (bit_steps i 1 / 2)) (sym (xor_half (bit_steps j 1) 1 ∙ xor_zero_r (bit_steps j 1 / 2)))
        ∙ sym (xor_half (bit_steps i 1) (bit_xor (bit_steps j 1) 1)) ∙ ap (λ (x : ℕ). x / 2) gone

triple : (a b c : ℕ) → c < b → b < a → a ≤ most_steps → bit_xor (bit_steps a 1) (bit_xor (bit_steps b 1) (bit_steps c 1)) ≡ 0 → ⊥
triple a b c l k h e =
    triple_from (a - c) (b - c) c (omega arith) (omega arith)
    (ap₂ (λ (x y : ℕ). bit_xor (bit_steps x 1) (bit_xor (bit_steps y 1) (bit_steps c 1))) (back a (omega arith)) (back b (omega arith)) ∙ e)
  where
    back : (n : ℕ) → c ≤ n → n - c + c ≡ n
    back n m = omega arith

-- ---- the steps of a number are the sum of what its ones lead to

-- v is the sum of n different states, each of which one bit leads to in 1 to m steps
data Sum : ℕ → ℕ → ℕ → Type 0 where
  nothing : {m : ℕ} → Sum m 0 0
  next : {m a n v : ℕ} → a < m → Sum a n v → Sum m (suc n) (bit_xor (bit_steps (suc a) 1) v)

longer : {m n v : ℕ} → Sum m n v → Sum (suc m) n v
longer nothing = nothing
longer (next {m = m} {a = a} l s) = let k : a < suc m = omega arith in next k s

abbrev step_by : ℕ → ℕ → ℕ
step_by half bit = cond (eqb bit 0) half (bit_xor half polynomial)

step_even : (d : ℕ) → d % 2 ≡ 0 → d / 2 ≡ bit_step d
unfolding bit_step
step_even d e = ap (step_by (d / 2)) (sym e)

step_odd : (d : ℕ) → d % 2 ≡ 1 → bit_xor (bit_step 1) (d / 2) ≡ bit_step d
unfolding bit_step
step_odd d e =
    ap (λ (x : ℕ). bit_xor x (d / 2)) (xor_zero_l polynomial) ∙ xor_comm polynomial (d / 2) ∙ ap (step_by (d / 2)) (sym e)

sum_next : (m d x : ℕ) → d % 2 ≡ x → Sum m (ones m (d / 2)) (bit_steps m (d / 2)) → Sum (suc m) (ones (suc m) d) (bit_steps (suc m) d)
unfolding ones bit_steps
sum_next m d zero e s = subst₂ (Sum (suc m)) count (ap (bit_steps m) (step_even d e)) (longer s)
  where
    count : ones m (d / 2) ≡ d % 2 + ones m (d / 2)
    count = omega arith
sum_next m d (suc zero) e s =
    subst₂ (Sum (suc m)) count (sym (bit_steps_linear m (bit_step 1) (d / 2)) ∙ ap (bit_steps m) (step_odd d e)) (next (lt-suc_self m) s)
  where
    count : suc (ones m (d / 2)) ≡ d % 2 + ones m (d / 2)
    count = omega arith
sum_next m d (suc (suc x)) e s = absurd (omega (arith, mod-lt d (zero-lt-suc 1)))

sum_of : (m d : ℕ) → d < 2 ^ m → Sum m (ones m d) (bit_steps m d)
unfolding ones bit_steps
sum_of zero d h = subst (λ (x : ℕ). Sum 0 0 x) (sym (lt-one h)) nothing
sum_of (suc m) d h = sum_next m d (d % 2) refl (sum_of m (d / 2) (half_lt m d h))

-- at most three states add up to nothing only where there is none
few : {m n v : ℕ} → Sum m n v → m ≤ most_steps → n ≤ 3 → v ≡ 0 → n ≡ 0
few nothing h k e = refl
few (next {a = a} l nothing) h k e = absurd (lone (suc a) (rw xor_zero_r at e))
few (next {a = a} l (next {a = b} l' nothing)) h k e = absurd (pair (suc a) (suc b) (omega arith) (omega arith) (rw xor_zero_r at e))
few (next {a = a} l (next {a = b} l' (next {a = c} l'' nothing))) h k e =
    absurd (triple (suc a) (suc b) (suc c) (omega arith) (omega arith) (omega arith) (rw xor_zero_r at e))
few (next l (next l' (next l'' (next l''' s)))) h k e = omega arith

ones_none : (m d : ℕ) → d < 2 ^ m → ones m d ≡ 0 → d ≡ 0
unfolding ones
ones_none zero d h e = lt-one h
ones_none (suc m) d h e = omega (arith, ones_none m (d / 2) (half_lt m d h) (omega arith))

pub few_none : (m d : ℕ) → m ≤ most_steps → d < 2 ^ m → ones m d ≤ 3 → bit_steps m d ≡ 0 → d ≡ 0
few_none m d k h n e = ones_none m d h (few (sum_of m d h) k n e)
