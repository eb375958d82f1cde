-- Linear maps: what they make of the powers of two decides what they make of any number.
-- The powers are computed by the checker, so that a law of shifts and bit steps costs a line.
use mathlib.Core.Path.{◌≡◌, sym, ap, ap₂, ◌∙◌}
use mathlib.Core.List.{List, [], ◌∷◌}
use Prim.Native.Nat.{ℕ, zero, suc, ◌+◌, ◌*◌, ◌/◌, ◌%◌, ◌^◌, ◌<◌}
use native.Mathlib.Nat.{mod-lt, zero-mul, one-mul, not-suc-le-zero}
use native.Mathlib.Decide.{dec_lt}
use native.Mathlib.Omega.{arith}
use lib.Arith.{lt-one}
use lib.Bits.{bit_xor, xor_self, xor_shifted}
use lib.ListN.{drop, get_or}
use lib.Pow.{split, shr_lt, pow_pos}
use Rattle.sum.proofs.Xor.{xor_swap, xor_zero}

abbrev pub Linear : (ℕ → ℕ) → Type 0
Linear g = (a b : ℕ) → g (bit_xor a b) ≡ bit_xor (g a) (g b)

pub of_nothing : (g : ℕ → ℕ) → Linear g → g 0 ≡ 0
of_nothing g lin = ap g (sym (xor_self 0)) ∙ lin 0 0 ∙ xor_self (g 0)

-- the digits from n on, and those below
pub by_parts : (g : ℕ → ℕ) → Linear g → (n d : ℕ) → g d ≡ bit_xor (g (d / 2 ^ n * 2 ^ n)) (g (d % 2 ^ n))
by_parts g lin n d =
    ap g (sym (xor_shifted (d / 2 ^ n) n (d % 2 ^ n) (mod-lt d (pow_pos n)) ∙ split d n)) ∙ lin (d / 2 ^ n * 2 ^ n) (d % 2 ^ n)

-- a map that makes nothing of each bit below n makes nothing of any number below 2 ^ n
pub vanishes : (g : ℕ → ℕ) → Linear g → (n : ℕ) → ((i : ℕ) → i < n → g (2 ^ i) ≡ 0) → (d : ℕ) → d < 2 ^ n → g d ≡ 0
vanishes g lin zero h d l = ap g (lt-one l) ∙ of_nothing g lin
vanishes g lin (suc n) h d l =
    by_parts g lin n d
    ∙ ap₂ bit_xor (top (d / 2 ^ n) (shr_lt 1 n (rw one_more l))) (vanishes g lin n (λ i k. h i (omega arith)) (d % 2 ^ n) (mod-lt d (pow_pos n)))
    ∙ xor_self 0
  where
    one_more : 1 + n ≡ suc n
    one_more = omega arith

    top : (t : ℕ) → t < 2 → g (t * 2 ^ n) ≡ 0
    top zero k = ap g (zero-mul (2 ^ n)) ∙ of_nothing g lin
    top (suc zero) k = ap g (one-mul (2 ^ n)) ∙ h n (omega arith)
    top (suc (suc t)) k = omega arith

-- ---- what is computed: the values at the powers of two below 2 ^ n, the highest first

abbrev pub powers : (ℕ → ℕ) → ℕ → List ℕ
powers f zero = []
powers f (suc n) = f (2 ^ n) ∷ powers f n

pub each_power : (f g : ℕ → ℕ) (n : ℕ) → powers f n ≡ powers g n → (i : ℕ) → i < n → f (2 ^ i) ≡ g (2 ^ i)
each_power f g zero e i h = absurd (not-suc-le-zero h)
each_power f g (suc n) e i h = by (each_power f g n (ap (drop 1) e) i) (dec_lt i n)
  where
    by : (i < n → f (2 ^ i) ≡ g (2 ^ i)) → Dec (i < n) → f (2 ^ i) ≡ g (2 ^ i)
    by below (yes k) = below k
    by below (no k) = let last : i ≡ n = omega arith in rw last (ap (λ (l : List ℕ). get_or l 0 0) e)

-- linear maps that make the same of each bit below n make the same of any number below 2 ^ n
pub agree : (f g : ℕ → ℕ) → Linear f → Linear g → (n : ℕ) → powers f n ≡ powers g n → (d : ℕ) → d < 2 ^ n → f d ≡ g d
agree f g hf hg n e d l = xor_zero (f d) (g d) (vanishes apart apart_linear n none d l)
  where
    apart : ℕ → ℕ
    apart x = bit_xor (f x) (g x)

    apart_linear : Linear apart
    apart_linear a b = ap₂ bit_xor (hf a b) (hg a b) ∙ xor_swap (f a) (f b) (g a) (g b)

    none : (i : ℕ) → i < n → apart (2 ^ i) ≡ 0
    none i h = ap (λ (x : ℕ). bit_xor x (g (2 ^ i))) (each_power f g n e i h) ∙ xor_self (g (2 ^ i))
