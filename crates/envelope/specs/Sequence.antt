-- Sequence: from an old message number to a new one. The numbers run round past their largest value on purpose. RULES 4.
-- `pos n` is the whole number n, `negsuc n` is -(n + 1).
use Rattle.std.specs.Prelude.{◌≡◌, ℕ, zero, suc, ◌+◌, ◌-◌, ◌%◌, ◌^◌, cond, ℤ, pos, negsuc, ◌-ℤ◌, nat_lt}
use Rattle.envelope.specs.declared.sequence.Sequence.{Sequence}
use Rattle.envelope.specs.declared.sequence.Sequence.TheVariants.{Repeat, Next, Ahead, Behind}

-- new minus old, modulo 2 ^ 32
unfoldable pub steps_on : ℕ → ℕ → ℕ
steps_on old new = (new + (2 ^ 32 - old)) % 2 ^ 32

-- brought into -2,147,483,648 to 2,147,483,647
abbrev pub signed : ℕ → ℤ
signed steps = cond (nat_lt steps (2 ^ 31)) (pos steps) (pos steps -ℤ pos (2 ^ 32))

abbrev pub distance : ℕ → ℕ → ℤ
distance old new = signed (steps_on old new)

pub data SequenceAnswer : Type 0 where
  repeat : SequenceAnswer
  next : SequenceAnswer
  ahead : ℕ → SequenceAnswer
  behind : ℕ → SequenceAnswer

-- 0 a repeat, 1 the next, 2 and up ahead by so many, below 0 behind by so many
abbrev pub sequence_of : ℤ → SequenceAnswer
sequence_of (pos zero) = repeat
sequence_of (pos (suc zero)) = next
sequence_of (pos (suc (suc n))) = ahead (suc (suc n))
sequence_of (negsuc n) = behind (suc n)

abbrev pub told_sequence : Sequence → SequenceAnswer
told_sequence Repeat = repeat
told_sequence Next = next
told_sequence (Ahead n) = ahead n
told_sequence (Behind n) = behind n

-- what `sequence::distance` and `sequence::judge` promise
abbrev pub Distance : ℕ → ℕ → ℤ → Type 0
Distance old new r = r ≡ distance old new

abbrev pub JudgesSequence : ℕ → ℕ → Sequence → Type 0
JudgesSequence old new r = told_sequence r ≡ sequence_of (distance old new)
