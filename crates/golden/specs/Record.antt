-- A record: 512 bytes, the stored length L, then L bytes of message, and every byte after the message zero. RULES 5.
-- The top bit of the stored length marks a retired record; the other 15 bits are L (K7).
-- `r` is the list of a record's bytes.
use Rattle.std.specs.Prelude.{ℕ, ◌+◌, ◌-◌, ◌%◌, Bool, true, cond, not, ◌&&◌, ◌||◌, List, [], ◌∷◌, eqb, leb, ltb, take, drop}
use Rattle.envelope.specs.Fields.{Fields, Answer, accepted, refused}
use Rattle.envelope.specs.Layout.{least_size}
use Rattle.envelope.specs.Numbers.{two_at}
use Rattle.envelope.specs.Reading.{reading}
use Rattle.envelope.specs.Refusals.{Refused, plainly, passing_on}

abbrev pub record_size : ℕ
record_size = 512

-- the stored length's own bytes
abbrev pub head_size : ℕ
head_size = 2

-- for a message
abbrev pub message_room : ℕ
message_room = record_size - head_size

-- the number in bytes 0 and 1
unfoldable pub stored_word : List ℕ → ℕ
stored_word r = two_at r 0

-- its top bit
abbrev pub retired_mark : ℕ
retired_mark = 32768

unfoldable pub is_retired : List ℕ → Bool
is_retired r = leb retired_mark (stored_word r)

-- its other bits
unfoldable pub stored_length : List ℕ → ℕ
stored_length r = stored_word r % retired_mark

abbrev pub message_of : List ℕ → List ℕ
message_of r = take (stored_length r) (drop head_size r)

unfoldable pub all_zero : List ℕ → Bool
all_zero [] = true
all_zero (b ∷ bs) = eqb b 0 && all_zero bs

-- 23
unfoldable pub bad_length : ℕ → Bool
bad_length l = ltb l least_size || ltb message_room l

-- 24
abbrev pub not_clear : List ℕ → Bool
not_clear r = not (all_zero (drop (head_size + stored_length r) r))

-- a good record, retired or live, with the fields of its message; or the first refusal that applies
pub data Judged : Type 0 where
  good : (retired : Bool) → Fields → Judged
  bad : Refused → Judged

-- 25
abbrev pub by_reading : (retired : Bool) → Answer → Judged
by_reading retired (accepted f) = good retired f
by_reading retired (refused r) = bad (passing_on 25 r)

unfoldable pub judging : List ℕ → Judged
judging r =
    cond (bad_length (stored_length r)) (bad (plainly 23))
    (cond (not_clear r) (bad (plainly 24))
    (by_reading (is_retired r) (reading (message_of r))))
