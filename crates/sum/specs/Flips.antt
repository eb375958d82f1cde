-- What sums rule out bit by bit: up to 506 bytes and their sum never differ in one, two or three bits alone. RULES 6.
-- The statement is a type over the number of bits; its proof for three stands in proofs/Flips.antt, and for four it is false (sheet/FourBits).
use Rattle.std.specs.Prelude.{cond, ◌≡◌, List, [], ◌∷◌, ℕ, zero, suc, ◌+◌, ◌/◌, ◌%◌, ◌≤◌, eqb, length}
use Rattle.sum.specs.Crc.{crc32}
use Rattle.sum.specs.Detection.{Bytes, bits_of}

-- at how many places two lists differ, as far as the shorter one goes
unfoldable pub places_apart : List ℕ → List ℕ → ℕ
places_apart [] v = 0
places_apart (a ∷ u) [] = 0
places_apart (a ∷ u) (b ∷ v) = cond (eqb a b) 0 1 + places_apart u v

-- in how many bits two lists of bytes differ
unfoldable pub bits_apart : List ℕ → List ℕ → ℕ
bits_apart x y = places_apart (bits_of x) (bits_of y)

-- the n lowest bits of a number, the lowest first
unfoldable pub low_bits : ℕ → ℕ → List ℕ
low_bits zero c = []
low_bits (suc n) c = c % 2 ∷ low_bits n (c / 2)

-- so many bytes at most: those before the integrity field of a message of 510
abbrev pub most_summed : ℕ
most_summed = 506

-- up to n bits of the bytes and of their sum, wherever these stand
abbrev pub DetectsFlips : ℕ → Type 0
DetectsFlips n =
    (x y : List ℕ) → Bytes x → Bytes y → length x ≡ length y → length x ≤ most_summed
    → bits_apart x y + places_apart (low_bits 32 (crc32 x)) (low_bits 32 (crc32 y)) ≤ n → x ≡ y
