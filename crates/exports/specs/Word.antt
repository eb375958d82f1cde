-- The answer word of the C interface: four slots in a number of 64 bits, 8, 8, 16 and 32 bits wide from the lowest on.
-- The first is 0 for done or a refusal's number, the second the number that reading gave, the last a refusal's place; else the others go with the operation.
use Rattle.std.specs.Prelude.{ℕ, ◌+◌, ◌*◌, ◌/◌, ◌%◌, ◌<◌, ◌^◌, ◌≡◌}
use Rattle.envelope.specs.Fields.{Refusal}
use Rattle.envelope.specs.Refusals.{Refused, RefusalNumbers, numbers_of, reading_numbers}

pub record Slots : Type 0 where
  pub number : ℕ
  pub reading : ℕ
  pub count : ℕ
  pub value : ℕ

abbrev pub slots : (number reading count value : ℕ) → Slots
slots number reading count value = record { number = number; reading = reading; count = count; value = value }

unfoldable pub word : Slots → ℕ
word s = s.number + s.reading * 256 + s.count * 65536 + s.value * 4294967296

-- ---- the usual answers; the value of a refusal is the place that it passes on, 0 where it passes none on

abbrev pub done : Slots
done = slots 0 0 0 0

-- done, with a length or a total
abbrev pub sized : ℕ → Slots
sized n = slots 0 0 0 n

-- a refusal by its numbers, and a count
abbrev pub numbers_slots : RefusalNumbers → ℕ → Slots
numbers_slots n count = slots n.number n.reading count n.place

-- one in which reading had no part; that of reading itself; that of a golden file or a frame
abbrev pub plain_slots : ℕ → Slots
plain_slots n = slots n 0 0 0

abbrev pub reading_slots : Refusal → Slots
reading_slots r = numbers_slots (reading_numbers r) 0

abbrev pub refused_with : Refused → ℕ → Slots
refused_with r count = numbers_slots (numbers_of r) count

-- ---- nothing is lost in the word: from slots that fit, the four come back

pub record Fits (s : Slots) : Type 0 where
  pub number : s.number < 2 ^ 8
  pub reading : s.reading < 2 ^ 8
  pub count : s.count < 2 ^ 16
  pub value : s.value < 2 ^ 32

-- what of them fits in any case is a byte by its type
abbrev pub FitsWord : Slots → Type 0
FitsWord s = (s.count < 2 ^ 16) × (s.value < 2 ^ 32)

abbrev pub unword : ℕ → Slots
unword w = slots (w % 256) (w / 256 % 256) (w / 65536 % 65536) (w / 4294967296)

abbrev pub WordTellsItsSlots : Type 0
WordTellsItsSlots = (s : Slots) → Fits s → unword (word s) ≡ s
