-- Notions that the contracts inside this crate cite: digits as one number, what a step keeps, and where a stage leads.
-- Nothing that the sum promises rests on them.
use Rattle.std.specs.Prelude.{◌≡◌, List, [], ◌∷◌, ℕ, ◌+◌, ◌*◌, ◌^◌, ◌≤◌, length}
use Rattle.std.specs.Int.Bits.{bit_xor}
use Rattle.sum.specs.Crc.{bit_steps}
use Rattle.sum.specs.declared.Pending.{Pending}

-- digits of w bits each as one number, the first digit lowest: bytes are digits of 8 bits
unfoldable pub number : ℕ → List ℕ → ℕ
number w [] = 0
number w (d ∷ ds) = number w ds * 2 ^ w + d

-- the multiple that `word_step` adds, of the polynomial with the bit that a step drops (1 + 2 * polynomial): few terms, a gap as long as a word after the
-- first, and an end soon after
abbrev pub multiple : ℕ
multiple = 1 + 2 ^ 64 + 2 ^ 80 + 2 ^ 87 + 2 ^ 105 + 2 ^ 111 + 2 ^ 112 + 2 ^ 119 + 2 ^ 120

-- that it is one: of its 121 bits, steps that take all but the last 32 leave nothing
abbrev pub IsMultiple : Type 0
IsMultiple = bit_steps 89 multiple ≡ 0

-- what is pending, as one number
abbrev pub value : Pending → ℕ
value p = p.after * 2 ^ 64 + p.word

-- from p, x of so many bits is taken, and r is left: with n more steps to come, the end is the same, for each n that leaves room
abbrev pub Takes : ℕ → ℕ → Pending → ℕ → Pending → Type 0
Takes bits room p x r = (n : ℕ) → room ≤ n → bit_steps (bits + n) (bit_xor (value p) x) ≡ bit_steps n (value r)

-- the state that what is pending and the bytes to come lead to
abbrev pub leads_to : List ℕ → Pending → ℕ
leads_to rest p = bit_steps (8 * length rest) (bit_xor (value p) (number 8 rest))
