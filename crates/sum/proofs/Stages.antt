-- The stages of `crc`: what each step does to what is pending, the bytes that a step takes, and the end.
-- All along, what is pending, with the bytes to come added, leads to the state after all bytes.
use mathlib.Core.Path.{◌≡◌, sym, ap, ap₂, ◌∙◌, subst}
use mathlib.Core.List.{List}
use Prim.Native.Nat.{ℕ, suc, ◌+◌, ◌-◌, ◌*◌, ◌/◌, ◌%◌, ◌^◌, ◌≤◌, ◌<◌}
use native.Mathlib.Nat.{add-zero, zero-add, mod-lt, mod-eq_of_lt, div-eq_of_lt, lt_of_le_of_lt}
use native.Mathlib.Omega.{arith}
use lib.Bits.{bit_xor, xor_comm, xor_zero_r, xor_lt, xor_shifted, xor_mod, xor_shr, xor_assoc}
use lib.ListN.{length, get_or, take, drop, length-drop, drop_of_length-le}
use lib.Pow.{split, pow_pos, pow-add, shl-shr, shr-shr, shr_le, shr_lt, high, low, mod-mod-pow, mod-pow-add}
use lib.Seq.{drop-cons, drop-drop, length-take-le}
use Rattle.sum.specs.Crc.{all_ones, bit_steps, state_after}
use Rattle.sum.specs.Detection.{Bytes}
use Rattle.sum.specs.Words.{number, value, Takes, leads_to}
use Rattle.sum.specs.declared.Pending.{Pending}
use Rattle.sum.proofs.ByteWords.{worth, worth_all}
use Rattle.sum.proofs.Laws.{bytes_drop}
use Rattle.sum.proofs.Digits.{number-take, number-drop}
use Rattle.sum.proofs.Shifts.{lower, upper, lower_lt, folded, folded_is}
use Rattle.sum.proofs.Steps.{bit_steps_linear, bit_steps-add, bit_steps_past, bit_steps_low}
use Rattle.sum.proofs.Sums.{state_after_number}

-- what is added to the lower word alone
xor_low : (a x l : ℕ) → x < 2 ^ 64 → l < 2 ^ 64 → bit_xor (a * 2 ^ 64 + x) l ≡ a * 2 ^ 64 + bit_xor x l
xor_low a x l hx hl =
    ap (λ (z : ℕ). bit_xor z l) (sym (xor_shifted a 64 x hx))
    ∙ xor_assoc (a * 2 ^ 64) x l
    ∙ xor_shifted a 64 (bit_xor x l) (xor_lt 64 x l hx hl)

-- ---- a word taken

pub word_taken : (n p a x : ℕ) → 88 ≤ n → p < 2 ^ 64 → a < 2 ^ 64 → x < 2 ^ 64
    → bit_steps (64 + n) (bit_xor (a * 2 ^ 64 + p) x) ≡ bit_steps n (upper (bit_xor p x) * 2 ^ 64 + bit_xor a (lower (bit_xor p x)))
word_taken n p a x room hp ha hx =
    ap (bit_steps (64 + n)) (xor_low a p x hp hx ∙ sym (xor_shifted a 64 w hw))
    ∙ bit_steps_linear (64 + n) (a * 2 ^ 64) w
    ∙ ap₂ bit_xor (bit_steps_past 64 n a) (folded_is n w room hw)
    ∙ sym (bit_steps_linear n a (folded w))
    ∙ ap (bit_steps n)
    (xor_comm a (folded w)
    ∙ xor_assoc (upper w * 2 ^ 64) (lower w) a
    ∙ xor_shifted (upper w) 64 (bit_xor (lower w) a) (xor_lt 64 (lower w) a (lower_lt w hw) ha)
    ∙ ap (λ (z : ℕ). upper w * 2 ^ 64 + z) (xor_comm (lower w) a))
  where
    w : ℕ
    w = bit_xor p x

    hw : w < 2 ^ 64
    hw = xor_lt 64 p x hp hx

-- ---- k bits taken, where m more are a word

-- two words shifted
bits_out : (k m p a : ℕ) → m + k ≡ 64 → p < 2 ^ 64 → p / 2 ^ k < 2 ^ m → (a * 2 ^ 64 + p) / 2 ^ k ≡ a * 2 ^ m + p / 2 ^ k
    → (a * 2 ^ 64 + p) / 2 ^ k ≡ a / 2 ^ k * 2 ^ 64 + bit_xor ((a * 2 ^ m) % 2 ^ 64) (p / 2 ^ k)
bits_out k m p a word hp high parts =
    parts
    ∙ sym (xor_shifted a m (p / 2 ^ k) high)
    ∙ ap (λ (z : ℕ). bit_xor z (p / 2 ^ k)) in_two
    ∙ xor_low (a / 2 ^ k) ((a * 2 ^ m) % 2 ^ 64) (p / 2 ^ k) (mod-lt (a * 2 ^ m) (pow_pos 64)) (lt_of_le_of_lt (shr_le p k) hp)
  where
    in_two : a * 2 ^ m ≡ a / 2 ^ k * 2 ^ 64 + (a * 2 ^ m) % 2 ^ 64
    in_two =
        sym (split (a * 2 ^ m) 64)
        ∙ ap (λ (q : ℕ). q * 2 ^ 64 + (a * 2 ^ m) % 2 ^ 64)
        (ap (λ (t : ℕ). a * 2 ^ m / 2 ^ t) (sym word) ∙ sym (shr-shr (a * 2 ^ m) m k) ∙ ap (λ (z : ℕ). z / 2 ^ k) (shl-shr a m))

bits_taken : (k m n p a b s : ℕ) → m + k ≡ 64 → p < 2 ^ 64 → b < 2 ^ k → s < 2 ^ 64
    → p / 2 ^ k < 2 ^ m → (a * 2 ^ 64 + p) / 2 ^ k ≡ a * 2 ^ m + p / 2 ^ k → (a * 2 ^ 64 + p) % 2 ^ k ≡ p % 2 ^ k
    → s ≡ bit_steps k (bit_xor (p % 2 ^ k) b)
    → bit_steps (k + n) (bit_xor (a * 2 ^ 64 + p) b) ≡ bit_steps n (a / 2 ^ k * 2 ^ 64 + bit_xor (bit_xor ((a * 2 ^ m) % 2 ^ 64) (p / 2 ^ k)) s)
bits_taken k m n p a b s word hp hb hs high parts low e =
    bit_steps-add k n (bit_xor v b)
    ∙ ap (bit_steps n)
    (bit_steps_low k (bit_xor v b)
    ∙ ap₂ bit_xor (ap (bit_steps k) (xor_mod v b k ∙ ap₂ bit_xor low (mod-eq_of_lt hb)) ∙ sym e)
    (xor_shr v b k ∙ ap (bit_xor (v / 2 ^ k)) (div-eq_of_lt hb) ∙ xor_zero_r (v / 2 ^ k) ∙ bits_out k m p a word hp high parts)
    ∙ xor_comm s (a / 2 ^ k * 2 ^ 64 + rest)
    ∙ xor_low (a / 2 ^ k) rest s rest_lt hs)
  where
    v : ℕ
    v = a * 2 ^ 64 + p

    rest : ℕ
    rest = bit_xor ((a * 2 ^ m) % 2 ^ 64) (p / 2 ^ k)

    rest_lt : rest < 2 ^ 64
    rest_lt = xor_lt 64 ((a * 2 ^ m) % 2 ^ 64) (p / 2 ^ k) (mod-lt (a * 2 ^ m) (pow_pos 64)) (lt_of_le_of_lt (shr_le p k) hp)

regrouped : (a m k q r : ℕ) → a * (m * k) + (q * k + r) ≡ (a * m + q) * k + r
regrouped a m k q r = omega arith

-- at most 32 bits, taken at the top of 32
pub few_taken : (k n p a b s : ℕ) → k ≤ 32 → p < 2 ^ 64 → b < 2 ^ k → s < 2 ^ 64 → s ≡ bit_steps 32 ((bit_xor p b * 2 ^ (32 - k)) % 2 ^ 64 % 2 ^ 32)
    → bit_steps (k + n) (bit_xor (a * 2 ^ 64 + p) b)
    ≡ bit_steps n (a / 2 ^ k * 2 ^ 64 + bit_xor (bit_xor ((a * 2 ^ (64 - k)) % 2 ^ 64) (p / 2 ^ k)) s)
few_taken k n p a b s few hp hb hs e =
    bits_taken k m n p a b s word hp hb hs (shr_lt m k (rw word hp))
    (ap (λ (z : ℕ). z / 2 ^ k) parts ∙ high (a * 2 ^ m + p / 2 ^ k) k (mod-lt p (pow_pos k)))
    (ap (λ (z : ℕ). z % 2 ^ k) parts ∙ low (a * 2 ^ m + p / 2 ^ k) k (mod-lt p (pow_pos k)))
    (e ∙ top)
  where
    w : ℕ
    w = bit_xor p b

    m : ℕ
    m = 64 - k

    j : ℕ
    j = 32 - k

    word : m + k ≡ 64
    word = omega arith

    half : k + j ≡ 32
    half = omega arith

    front : j + k ≡ 32
    front = omega arith

    parts : a * 2 ^ 64 + p ≡ (a * 2 ^ m + p / 2 ^ k) * 2 ^ k + p % 2 ^ k
    parts =
        ap₂ (λ (z t : ℕ). a * z + t) (ap (λ (t : ℕ). 2 ^ t) (sym word) ∙ pow-add 2 m k) (sym (split p k))
        ∙ regrouped a (2 ^ m) (2 ^ k) (p / 2 ^ k) (p % 2 ^ k)

    last : (w * 2 ^ j) % 2 ^ 32 ≡ w % 2 ^ k * 2 ^ j
    last =
        ap (λ (t : ℕ). (w * 2 ^ j) % 2 ^ t) (sym half)
        ∙ mod-pow-add (w * 2 ^ j) k j
        ∙ ap₂ (λ (x y : ℕ). x % 2 ^ k * 2 ^ j + y) (shl-shr w j) (ap (λ (x : ℕ). x % 2 ^ j) (sym (add-zero (w * 2 ^ j))) ∙ low w j (pow_pos j))
        ∙ add-zero (w % 2 ^ k * 2 ^ j)

    top : bit_steps 32 ((w * 2 ^ j) % 2 ^ 64 % 2 ^ 32) ≡ bit_steps k (bit_xor (p % 2 ^ k) b)
    top =
        ap (bit_steps 32) (mod-mod-pow (w * 2 ^ j) 32 32 ∙ last)
        ∙ ap (λ (l : ℕ). bit_steps l (w % 2 ^ k * 2 ^ j)) (sym front)
        ∙ bit_steps_past j k (w % 2 ^ k)
        ∙ ap (bit_steps k) (xor_mod p b k ∙ ap (bit_xor (p % 2 ^ k)) (mod-eq_of_lt hb))

-- ---- from stage to stage

pub leads_first : (bs : List ℕ) → Bytes bs → leads_to bs (record { word = all_ones; after = 0 }) ≡ state_after all_ones bs
leads_first bs h = sym (state_after_number bs all_ones h)

-- c bytes taken lead where they did
pub leads_on : (bs : List ℕ) (c room : ℕ) (p : Pending) (x : ℕ) (r : Pending) → Bytes bs → c ≤ length bs → room ≤ 8 * (length bs - c)
    → Takes (8 * c) room p x r → x ≡ number 8 (take c bs) → leads_to (drop c bs) r ≡ leads_to bs p
leads_on bs c room p x r h len enough takes e =
    sym (ap₂ bit_steps count (ap (bit_xor (value p)) parts ∙ sym (xor_assoc (value p) x (rest * 2 ^ (8 * c))))
    ∙ bit_steps_linear (8 * c + left) (bit_xor (value p) x) (rest * 2 ^ (8 * c))
    ∙ ap₂ bit_xor (takes left (rw behind enough)) (bit_steps_past (8 * c) left rest)
    ∙ sym (bit_steps_linear left (value r) rest))
  where
    left : ℕ
    left = 8 * length (drop c bs)

    rest : ℕ
    rest = number 8 (drop c bs)

    behind : length (drop c bs) ≡ length bs - c
    behind = length-drop c bs

    count : 8 * length bs ≡ 8 * c + left
    count = omega (arith, behind)

    first_lt : number 8 bs % 2 ^ (8 * c) < 2 ^ (8 * c)
    first_lt = mod-lt (number 8 bs) (pow_pos (8 * c))

    parts : number 8 bs ≡ bit_xor x (rest * 2 ^ (8 * c))
    parts =
        sym (split (number 8 bs) (8 * c))
        ∙ sym (xor_shifted (number 8 bs / 2 ^ (8 * c)) (8 * c) (number 8 bs % 2 ^ (8 * c)) first_lt)
        ∙ xor_comm (number 8 bs / 2 ^ (8 * c) * 2 ^ (8 * c)) (number 8 bs % 2 ^ (8 * c))
        ∙ ap₂ (λ (a b : ℕ). bit_xor a (b * 2 ^ (8 * c))) (number-take 8 c bs h ∙ sym e) (number-drop 8 c bs h)

-- some first bytes taken as the number that the library makes of them
pub chunk_on : (bs first rest : List ℕ) (k room : ℕ) (p : Pending) (x : ℕ) (r : Pending) → Bytes bs
    → first ≡ take (suc k) bs → rest ≡ drop (suc k) bs → length rest + suc k ≡ length bs → room ≤ 8 * length rest
    → x ≡ worth first k → Takes (8 * suc k) room p x r → Bytes rest × (leads_to rest r ≡ leads_to bs p)
chunk_on bs first rest k room p x r h f b len enough e takes =
    let count : suc k ≤ length bs = omega arith in
    let behind : length rest ≡ length bs - suc k = omega arith in
    let whole : length first ≡ suc k = ap length f ∙ length-take-le (suc k) bs count in
    let taken : x ≡ number 8 (take (suc k) bs) = e ∙ worth_all first k whole ∙ ap (number 8) f in (
      subst Bytes (sym b) (bytes_drop (suc k) bs h),
      ap (λ (l : List ℕ). leads_to l r) b ∙ leads_on bs (suc k) room p x r h count (rw behind at enough) takes taken,
    )

-- one byte taken
pub byte_on : (bs : List ℕ) (i : ℕ) (p r : Pending) → Bytes bs → i < length bs → Takes 8 0 p (get_or bs i 0) r
    → leads_to (drop (i + 1) bs) r ≡ leads_to (drop i bs) p
unfolding number
byte_on bs i p r h more takes =
    let some : 1 ≤ length (drop i bs) = omega (arith, length-drop i bs) in
    let first : get_or bs i 0 ≡ number 8 (take 1 (drop i bs)) =
    sym (ap (λ (l : List ℕ). number 8 (take 1 l)) (drop-cons bs i 0 more) ∙ zero-add (get_or bs i 0)) in
    ap (λ (l : List ℕ). leads_to l r) (sym (drop-drop 1 i bs))
    ∙ leads_on (drop i bs) 1 0 p (get_or bs i 0) r (bytes_drop i bs h) some (omega arith) takes first

-- the end: no byte is to come. The state has 32 bits, so nothing is pending above the lower word
pub leads_last : (bs : List ℕ) (i : ℕ) (p : Pending) → length bs ≤ i → leads_to (drop i bs) p < 2 ^ 32 → p.word ≡ leads_to (drop i bs) p
unfolding number bit_steps
leads_last bs i p none small =
    let all : leads_to (drop i bs) p ≡ value p = rw (drop_of_length-le bs none) (xor_zero_r (value p)) in
    let nothing : p.after ≡ 0 = omega (arith, small, all) in
    omega (arith, all, nothing)
