-- Demand 3 and the sum's law of four bytes with one byte more, which is false: five neighbouring bytes hide a difference.
-- proofs/WrongStatements refutes both by a computed pair.
use Rattle.std.specs.Prelude.{ℕ, ◌+◌, ◌-◌, ◌≤◌, ◌<◌, List, [], ◌∷◌, ◌++◌, ◌≡◌, length}
use Rattle.sum.specs.Crc.{crc32}
use Rattle.sum.specs.Detection.{Bytes}
use Rattle.envelope.specs.Demand3.{DeclaresCrc}
use Rattle.envelope.specs.Layout.{field_size}
use Rattle.envelope.specs.Numbers.{byte_at}

abbrev pub DetectsFiveBytes : Type 0
DetectsFiveBytes =
    (p x y s : List ℕ) → Bytes p → Bytes x → Bytes y → Bytes s → length x ≡ length y → length x ≤ 5
    → crc32 (p ++ x ++ s) ≡ crc32 (p ++ y ++ s) → x ≡ y

-- the same at every place but k to k + 4, all of them before the field
abbrev pub FivePlaces : Type 0
FivePlaces =
    (s t : List ℕ) (k : ℕ) → Bytes s → Bytes t → length s ≡ length t → DeclaresCrc s → DeclaresCrc t → k + 5 ≤ length s - field_size
    → ((i : ℕ) → i < k → byte_at s i ≡ byte_at t i) × ((i : ℕ) → k + 5 ≤ i → byte_at s i ≡ byte_at t i) → s ≡ t

-- a message with a body of five bytes, and the sum that both bodies below have
abbrev pub with_five : List ℕ → List ℕ
with_five body =
    0x04 ∷ 0x17 ∷ 0x70 ∷ 0x01 ∷ 0x08 ∷ 0x00 ∷ 0x00 ∷ 0x05 ∷ 0x00 ∷ 0x00 ∷ 0x00 ∷ 0x01 ∷ 0x00 ∷ 0x00 ∷ 0x00 ∷ 0x00 ∷ 0x00
    ∷ (body ++ 0x2B ∷ 0xF3 ∷ 0xA2 ∷ 0x73 ∷ [])

abbrev pub five_zeros : List ℕ
five_zeros = 0x00 ∷ 0x00 ∷ 0x00 ∷ 0x00 ∷ 0x00 ∷ []

abbrev pub five_others : List ℕ
five_others = 0x05 ∷ 0x8F ∷ 0xF4 ∷ 0x6A ∷ 0x70 ∷ []
