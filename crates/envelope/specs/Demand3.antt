-- Demand 3: a change inside four neighbouring bytes cannot turn one accepted CRC message into another. RULES 6.
-- The window lies wholly before the integrity field or is that field; across its edge it fails in one window alone (AnyWindow, of which this is a case).
use Rattle.std.specs.Prelude.{◌≡◌, ℕ, ◌+◌, ◌-◌, ◌<◌, ◌≤◌, List, ◌++◌, length, take, drop}
use Rattle.sum.specs.Detection.{Bytes, bits_of}
use Rattle.envelope.specs.Fields.{Fields, accepted}
use Rattle.envelope.specs.Flags.{kind_of, kind_crc}
use Rattle.envelope.specs.Layout.{field_size}
use Rattle.envelope.specs.Numbers.{byte_at}
use Rattle.envelope.specs.Reading.{reading}

-- accepted, and the flags declare a CRC
pub record DeclaresCrc (s : List ℕ) : Type 0 where
  pub fields : Fields
  pub accepts : reading s ≡ accepted fields
  pub declares : kind_of fields.header.flags ≡ kind_crc

-- of n bytes, the places k to k + 3: wholly before the integrity field, or that field
pub data Window (k n : ℕ) : Type 0 where
  before : k + 4 ≤ n - field_size → Window k n
  field : k ≡ n - field_size → Window k n

-- the same at every place but k to k + 3
abbrev pub SameOutside : ℕ → List ℕ → List ℕ → Type 0
SameOutside k s t =
    ((i : ℕ) → i < k → byte_at s i ≡ byte_at t i) × ((i : ℕ) → k + 4 ≤ i → byte_at s i ≡ byte_at t i)

abbrev pub Demand3 : Type 0
Demand3 =
    (s t : List ℕ) (k : ℕ) → Bytes s → Bytes t → length s ≡ length t → DeclaresCrc s → DeclaresCrc t
    → Window k (length s) → SameOutside k s t → s ≡ t

-- beyond it: up to 32 bits u or v in a row before the field, lowest bit of each byte first, and the same field
abbrev pub Demand3Bits : Type 0
Demand3Bits =
    (s t p u v q : List ℕ) → Bytes s → Bytes t → length s ≡ length t → DeclaresCrc s → DeclaresCrc t
    → bits_of (take (length s - field_size) s) ≡ p ++ u ++ q → bits_of (take (length t - field_size) t) ≡ p ++ v ++ q
    → length u ≡ length v → length u ≤ 32 → drop (length s - field_size) s ≡ drop (length t - field_size) t → s ≡ t
