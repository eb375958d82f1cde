-- What `word_step` and `settle` compute, each as one expression of a word, and that bit steps go on from it as from the word.
-- `word_step` adds the multiple at each 1, and steps leave nothing of the multiple; all of it is linear, so the powers of two decide.
use mathlib.Core.Path.{◌≡◌, refl, sym, ap, ap₂, ◌∙◌}
use mathlib.Core.List.{List, [], ◌∷◌}
use Prim.Native.Nat.{ℕ, ◌+◌, ◌-◌, ◌*◌, ◌/◌, ◌%◌, ◌^◌, ◌≤◌, ◌<◌}
use native.Mathlib.Nat.{mod-lt}
use native.Mathlib.Omega.{arith}
use lib.Bits.{bit_xor, xor_lt, xor_mod, xor_shr}
use lib.Pow.{pow_pos}
use Rattle.sum.specs.Crc.{bit_step, bit_steps}
use Rattle.sum.specs.Words.{multiple, IsMultiple}
use Rattle.sum.proofs.Linear.{Linear, vanishes, powers, each_power, agree}
use Rattle.sum.proofs.Steps.{bit_steps_linear, bit_steps-zero, bit_steps-add, bit_steps_past}
use Rattle.sum.proofs.Xor.{xor_swap, xor_shl, xor_zero}

-- ---- the shifts of w by each of a list, added to x: to the left in a word of so many bits, and to the right

abbrev lefts : ℕ → List ℕ → ℕ → ℕ → ℕ
lefts width [] w x = x
lefts width (t ∷ ts) w x = lefts width ts w (bit_xor x ((w * 2 ^ t) % 2 ^ width))

abbrev rights : List ℕ → ℕ → ℕ → ℕ
rights [] w x = x
rights (t ∷ ts) w x = rights ts w (bit_xor x (w / 2 ^ t))

lefts_linear : (width : ℕ) (ts : List ℕ) (a b x y : ℕ)
    → lefts width ts (bit_xor a b) (bit_xor x y) ≡ bit_xor (lefts width ts a x) (lefts width ts b y)
lefts_linear width [] a b x y = refl
lefts_linear width (t ∷ ts) a b x y =
    ap (λ (z : ℕ). lefts width ts (bit_xor a b) (bit_xor (bit_xor x y) z))
    (ap (λ (z : ℕ). z % 2 ^ width) (xor_shl t a b) ∙ xor_mod (a * 2 ^ t) (b * 2 ^ t) width)
    ∙ ap (lefts width ts (bit_xor a b)) (xor_swap x y ((a * 2 ^ t) % 2 ^ width) ((b * 2 ^ t) % 2 ^ width))
    ∙ lefts_linear width ts a b (bit_xor x ((a * 2 ^ t) % 2 ^ width)) (bit_xor y ((b * 2 ^ t) % 2 ^ width))

rights_linear : (ts : List ℕ) (a b x y : ℕ) → rights ts (bit_xor a b) (bit_xor x y) ≡ bit_xor (rights ts a x) (rights ts b y)
rights_linear [] a b x y = refl
rights_linear (t ∷ ts) a b x y =
    ap (λ (z : ℕ). rights ts (bit_xor a b) (bit_xor (bit_xor x y) z)) (xor_shr a b t)
    ∙ ap (rights ts (bit_xor a b)) (xor_swap x y (a / 2 ^ t) (b / 2 ^ t))
    ∙ rights_linear ts a b (bit_xor x (a / 2 ^ t)) (bit_xor y (b / 2 ^ t))

lefts_lt : (ts : List ℕ) (w x : ℕ) → x < 2 ^ 64 → lefts 64 ts w x < 2 ^ 64
lefts_lt [] w x h = h
lefts_lt (t ∷ ts) w x h =
    lefts_lt ts w (bit_xor x ((w * 2 ^ t) % 2 ^ 64)) (xor_lt 64 x ((w * 2 ^ t) % 2 ^ 64) h (mod-lt (w * 2 ^ t) (pow_pos 64)))

-- ---- a word, folded into the two after it

abbrev up : ℕ → ℕ
up w = lefts 64 (8 ∷ []) w w

abbrev up_twice : ℕ → ℕ
up_twice w = lefts 64 (1 ∷ []) (up w) (up w)

up_twice_linear : Linear up_twice
up_twice_linear a b =
    ap (λ (z : ℕ). lefts 64 (1 ∷ []) z z) (lefts_linear 64 (8 ∷ []) a b a b) ∙ lefts_linear 64 (1 ∷ []) (up a) (up b) (up a) (up b)

abbrev pub lower : ℕ → ℕ
lower w = lefts 64 (47 ∷ []) (up_twice w) (lefts 64 (16 ∷ 23 ∷ 41 ∷ []) w w)

lower_linear : Linear lower
lower_linear a b =
    ap₂ (lefts 64 (47 ∷ [])) (up_twice_linear a b) (lefts_linear 64 (16 ∷ 23 ∷ 41 ∷ []) a b a b)
    ∙ lefts_linear 64 (47 ∷ []) (up_twice a) (up_twice b) (lefts 64 (16 ∷ 23 ∷ 41 ∷ []) a a) (lefts 64 (16 ∷ 23 ∷ 41 ∷ []) b b)

-- it fits a word where the shifted word does
pub lower_lt : (w : ℕ) → w < 2 ^ 64 → lower w < 2 ^ 64
lower_lt w h = lefts_lt (47 ∷ []) (up_twice w) (lefts 64 (16 ∷ 23 ∷ 41 ∷ []) w w) (lefts_lt (16 ∷ 23 ∷ 41 ∷ []) w w h)

abbrev down : ℕ → ℕ
down w = rights (8 ∷ []) w w

abbrev down_twice : ℕ → ℕ
down_twice w = rights (1 ∷ []) (down w) (down w)

down_twice_linear : Linear down_twice
down_twice_linear a b =
    ap (λ (z : ℕ). rights (1 ∷ []) z z) (rights_linear (8 ∷ []) a b a b) ∙ rights_linear (1 ∷ []) (down a) (down b) (down a) (down b)

abbrev pub upper : ℕ → ℕ
upper w = rights (8 ∷ []) (down_twice w) (rights (41 ∷ 23 ∷ []) w (w / 2 ^ 48))

upper_linear : Linear upper
upper_linear a b =
    ap₂ (rights (8 ∷ [])) (down_twice_linear a b)
    (ap (rights (41 ∷ 23 ∷ []) (bit_xor a b)) (xor_shr a b 48) ∙ rights_linear (41 ∷ 23 ∷ []) a b (a / 2 ^ 48) (b / 2 ^ 48))
    ∙ rights_linear (8 ∷ []) (down_twice a) (down_twice b) (rights (41 ∷ 23 ∷ []) a (a / 2 ^ 48)) (rights (41 ∷ 23 ∷ []) b (b / 2 ^ 48))

abbrev pub folded : ℕ → ℕ
folded w = bit_xor (upper w * 2 ^ 64) (lower w)

folded_linear : Linear folded
folded_linear a b =
    ap₂ bit_xor (ap (λ (z : ℕ). z * 2 ^ 64) (upper_linear a b) ∙ xor_shl 64 (upper a) (upper b)) (lower_linear a b)
    ∙ xor_swap (upper a * 2 ^ 64) (upper b * 2 ^ 64) (lower a) (lower b)

-- ---- it is what the multiple leaves, added at each 1 of the word

-- a word, and what is left of it above
abbrev added : ℕ → ℕ
added w = bit_xor w (folded w * 2 ^ 64)

added_linear : Linear added
added_linear a b =
    ap (bit_xor (bit_xor a b)) (ap (λ (z : ℕ). z * 2 ^ 64) (folded_linear a b) ∙ xor_shl 64 (folded a) (folded b))
    ∙ xor_swap a b (folded a * 2 ^ 64) (folded b * 2 ^ 64)

added_powers : powers added 64 ≡ powers (λ w. multiple * w) 64
added_powers = refl

multiple_is : IsMultiple
unfolding bit_steps bit_step
multiple_is = refl

-- the multiple at bit i comes to nothing, where the steps reach its end but for 32 bits
multiple_gone : (i n : ℕ) → i + 89 ≤ n → bit_steps n (multiple * 2 ^ i) ≡ 0
multiple_gone i n h =
    ap (λ (m : ℕ). bit_steps m (multiple * 2 ^ i)) all
    ∙ bit_steps_past i (89 + (n - (i + 89))) multiple
    ∙ bit_steps-add 89 (n - (i + 89)) multiple
    ∙ ap (bit_steps (n - (i + 89))) multiple_is
    ∙ bit_steps-zero (n - (i + 89))
  where
    all : n ≡ i + (89 + (n - (i + 89)))
    all = omega arith

-- with room after the word: its last bit is the 63rd above its first
pub folded_is : (n w : ℕ) → 88 ≤ n → w < 2 ^ 64 → bit_steps (64 + n) w ≡ bit_steps n (folded w)
folded_is n w room h =
    xor_zero (bit_steps (64 + n) w) (bit_steps (64 + n) (folded w * 2 ^ 64))
    (sym (bit_steps_linear (64 + n) w (folded w * 2 ^ 64)) ∙ vanishes left left_linear 64 none w h)
    ∙ bit_steps_past 64 n (folded w)
  where
    left : ℕ → ℕ
    left x = bit_steps (64 + n) (added x)

    left_linear : Linear left
    left_linear a b = ap (bit_steps (64 + n)) (added_linear a b) ∙ bit_steps_linear (64 + n) (added a) (added b)

    none : (i : ℕ) → i < 64 → left (2 ^ i) ≡ 0
    none i k = ap (bit_steps (64 + n)) (each_power added (λ w. multiple * w) 64 added_powers i k) ∙ multiple_gone i (64 + n) (omega arith)

-- ---- 32 steps

abbrev pair : ℕ → ℕ
pair x = lefts 32 (2 ∷ []) x x

abbrev quotient : ℕ → ℕ
quotient x = lefts 32 (10 ∷ 24 ∷ 28 ∷ 29 ∷ []) (pair x) (lefts 32 (6 ∷ 9 ∷ 16 ∷ 25 ∷ []) x x)

quotient_linear : Linear quotient
quotient_linear a b =
    ap₂ (lefts 32 (10 ∷ 24 ∷ 28 ∷ 29 ∷ [])) (lefts_linear 32 (2 ∷ []) a b a b) (lefts_linear 32 (6 ∷ 9 ∷ 16 ∷ 25 ∷ []) a b a b)
    ∙ lefts_linear 32 (10 ∷ 24 ∷ 28 ∷ 29 ∷ []) (pair a) (pair b) (lefts 32 (6 ∷ 9 ∷ 16 ∷ 25 ∷ []) a a) (lefts 32 (6 ∷ 9 ∷ 16 ∷ 25 ∷ []) b b)

abbrev beside : ℕ → ℕ
beside q = rights (1 ∷ []) q q

abbrev alone : ℕ → ℕ
alone q = rights (26 ∷ 16 ∷ 10 ∷ []) q q

abbrev remains : ℕ → ℕ
remains q = rights (22 ∷ 11 ∷ 7 ∷ 4 ∷ 1 ∷ []) (beside q) (alone q)

remains_linear : Linear remains
remains_linear a b =
    ap₂ (rights (22 ∷ 11 ∷ 7 ∷ 4 ∷ 1 ∷ [])) (rights_linear (1 ∷ []) a b a b) (rights_linear (26 ∷ 16 ∷ 10 ∷ []) a b a b)
    ∙ rights_linear (22 ∷ 11 ∷ 7 ∷ 4 ∷ 1 ∷ []) (beside a) (beside b) (alone a) (alone b)

abbrev settled : ℕ → ℕ
settled x = remains (quotient x)

settled_powers : powers settled 32 ≡ powers (bit_steps 32) 32
unfolding bit_steps bit_step
settled_powers = refl

pub settled_is : (x : ℕ) → x < 2 ^ 32 → settled x ≡ bit_steps 32 x
settled_is =
    agree settled (bit_steps 32) (λ a b. ap remains (quotient_linear a b) ∙ remains_linear (quotient a) (quotient b))
    (bit_steps_linear 32) 32 settled_powers
