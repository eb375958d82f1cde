-- K11: two accepted CRC messages of one length, at most 510 bytes, with the same integrity field never differ in one or two bits before it alone. RULES 6.
-- Beyond it: nor in one, two or three bits wherever in the message, the field's own among them. With four both are false (sheet/FourBits has a pair).
use Rattle.std.specs.Prelude.{◌≡◌, ℕ, ◌-◌, ◌≤◌, List, length, take, drop}
use Rattle.sum.specs.Detection.{Bytes}
pub use Rattle.sum.specs.Flips.{bits_apart}
use Rattle.envelope.specs.Demand3.{DeclaresCrc}
use Rattle.envelope.specs.Layout.{field_size}

-- the longest message of which this is said: that of a golden record
abbrev pub longest : ℕ
longest = 510

-- what stands before the integrity field, and that field
abbrev pub summed : List ℕ → List ℕ
summed s = take (length s - field_size) s

abbrev pub field_of : List ℕ → List ℕ
field_of s = drop (length s - field_size) s

-- the same field, and 1 to n bits before it: that cannot be
abbrev pub BitsBeforeField : ℕ → Type 0
BitsBeforeField n =
    (s t : List ℕ) → Bytes s → Bytes t → length s ≡ length t → length s ≤ longest → DeclaresCrc s → DeclaresCrc t
    → field_of s ≡ field_of t → 1 ≤ bits_apart (summed s) (summed t) → bits_apart (summed s) (summed t) ≤ n → ⊥

-- K11, under its own title: before the field
abbrev pub TwoBitsAnywhere : Type 0
TwoBitsAnywhere = BitsBeforeField 2

-- up to n bits, anywhere in the message: equal
abbrev pub BitsAnywhere : ℕ → Type 0
BitsAnywhere n =
    (s t : List ℕ) → Bytes s → Bytes t → length s ≡ length t → length s ≤ longest → DeclaresCrc s → DeclaresCrc t
    → bits_apart s t ≤ n → s ≡ t

abbrev pub ThreeBitsAnywhere : Type 0
ThreeBitsAnywhere = BitsAnywhere 3
