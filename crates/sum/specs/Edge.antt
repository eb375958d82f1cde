-- What sums rule out at the end of the bytes: up to four neighbouring bytes, of which some are the last ones summed and the others the first of the sum. RULES 6.
-- A sum is written highest byte first, so behind n bytes summed stand the 4 - n highest of the sum. Proofs in proofs/Edge.antt.
use Rattle.std.specs.Prelude.{◌≡◌, List, [], ◌∷◌, ◌++◌, ℕ, ◌*◌, ◌%◌, ◌^◌, ◌≤◌, length}
use Rattle.std.specs.Int.Bits.{bit_xor}
use Rattle.sum.specs.Crc.{crc32}
use Rattle.sum.specs.Detection.{Bytes}

-- the last bytes x or y, up to four of them but of no number left out, and sums whose lowest bytes, as many as these, are the same: equal bytes
abbrev pub DetectsAtEdgeBut : (ℕ → Type 0) → Type 0
DetectsAtEdgeBut LeftOut =
    (p x y : List ℕ) → Bytes p → Bytes x → Bytes y → length x ≡ length y → length x ≤ 4 → (LeftOut (length x) → ⊥)
    → crc32 (p ++ x) % 2 ^ (8 * length x) ≡ crc32 (p ++ y) % 2 ^ (8 * length x) → x ≡ y

-- any number of last bytes up to four, but not exactly two
abbrev pub DetectsAtEdge : Type 0
DetectsAtEdge = DetectsAtEdgeBut (λ n. n ≡ 2)

-- two and two: the same bytes, or the one difference 61 d8 before the sum and f4 ee in it (hex)
pub data TwoAndTwo (a b c d sum other : ℕ) : Type 0 where
  same : a ≡ c → b ≡ d → TwoAndTwo a b c d sum other
  one_difference : bit_xor a c ≡ 0x61 → bit_xor b d ≡ 0xD8 → bit_xor sum other ≡ 0xF4EE0000 → TwoAndTwo a b c d sum other

-- the last two bytes a b or c d, and sums whose two lowest bytes are the same
abbrev pub DetectsTwoAndTwo : Type 0
DetectsTwoAndTwo =
    (p : List ℕ) (a b c d : ℕ) → Bytes p → Bytes (a ∷ b ∷ []) → Bytes (c ∷ d ∷ [])
    → crc32 (p ++ a ∷ b ∷ []) % 2 ^ 16 ≡ crc32 (p ++ c ∷ d ∷ []) % 2 ^ 16
    → TwoAndTwo a b c d (crc32 (p ++ a ∷ b ∷ [])) (crc32 (p ++ c ∷ d ∷ []))
