-- Beyond demand 3: the four neighbouring bytes may lie anywhere, also across the edge of the integrity field, but for one window. RULES 6.
-- That one has two bytes before the field and two in it; there one difference gets by and no other (sheet/Limits has a pair).
use Rattle.std.specs.Prelude.{◌≡◌, ℕ, ◌+◌, ◌-◌, ◌⊎◌, List, length, bit_xor}
use Rattle.sum.specs.Detection.{Bytes}
use Rattle.envelope.specs.Demand3.{DeclaresCrc, SameOutside}
use Rattle.envelope.specs.Layout.{field_size}
use Rattle.envelope.specs.Numbers.{byte_at}

-- of n bytes, the window from place k on has two bytes before the field and two in it
abbrev pub TwoAndTwoAt : ℕ → ℕ → Type 0
TwoAndTwoAt k n = k + 2 ≡ n - field_size

-- the same outside four neighbouring bytes, wherever they lie but for the windows left out: equal
abbrev pub WindowsBut : (ℕ → ℕ → Type 0) → Type 0
WindowsBut LeftOut =
    (s t : List ℕ) (k : ℕ) → Bytes s → Bytes t → length s ≡ length t → DeclaresCrc s → DeclaresCrc t
    → (LeftOut k (length s) → ⊥) → SameOutside k s t → s ≡ t

abbrev pub AnyWindow : Type 0
AnyWindow = WindowsBut TwoAndTwoAt

-- from place k on the bytes differ by 61 d8, before the field, and f4 ee, in it (hex)
pub record OneDifference (k : ℕ) (s t : List ℕ) : Type 0 where
  pub first : bit_xor (byte_at s k) (byte_at t k) ≡ 0x61
  pub second : bit_xor (byte_at s (k + 1)) (byte_at t (k + 1)) ≡ 0xD8
  pub third : bit_xor (byte_at s (k + 2)) (byte_at t (k + 2)) ≡ 0xF4
  pub fourth : bit_xor (byte_at s (k + 3)) (byte_at t (k + 3)) ≡ 0xEE

-- the window left out: equal, or that one difference
abbrev pub MiddleWindow : Type 0
MiddleWindow =
    (s t : List ℕ) (k : ℕ) → Bytes s → Bytes t → length s ≡ length t → DeclaresCrc s → DeclaresCrc t
    → TwoAndTwoAt k (length s) → SameOutside k s t → (s ≡ t) ⊎ OneDifference k s t
