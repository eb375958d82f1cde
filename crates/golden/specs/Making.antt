-- Make a record of a message: 512 zero bytes until length and message go in; it is then written to the buffer. RULES 5.
-- `room` is the length of the buffer. No refusal writes.
use Rattle.std.specs.Prelude.{ℕ, ◌-◌, cond, not, List, ◌++◌, ◌≡◌, eqb, ltb, length, replicate, Result, Ok, Err}
use Rattle.envelope.specs.Fields.{Answer, accepted}
use Rattle.envelope.specs.Fields as read
use Rattle.envelope.specs.Numbers.{in_two}
use Rattle.envelope.specs.Reading.{reading}
use Rattle.envelope.specs.Refusals.{Refused, plainly, passing_on}
use Rattle.golden.specs.Record.{record_size, message_room}
use Rattle.golden.specs.Refusal.{told_golden_refusal}
use Rattle.golden.specs.declared.refusal.Refusal.{Refusal}

-- the record of a message: its length, the message, and zeros
unfoldable pub record_of : List ℕ → List ℕ
record_of m = in_two (length m) ++ m ++ replicate (message_room - length m) 0

pub data MakeAnswer : Type 0 where
  made : MakeAnswer
  refused : Refused → MakeAnswer

-- 34, then 35
abbrev pub making_read : Answer → ℕ → MakeAnswer
making_read (read.refused r) room = refused (passing_on 34 r)
making_read (accepted f) room = cond (not (eqb room record_size)) (refused (plainly 35)) made

unfoldable pub making : List ℕ → ℕ → MakeAnswer
making m room = cond (ltb message_room (length m)) (refused (plainly 33)) (making_read (reading m) room)

-- the buffer afterwards
abbrev pub after_making : MakeAnswer → List ℕ → List ℕ → List ℕ
after_making made m entry = record_of m
after_making (refused r) m entry = entry

abbrev pub told_making : Result (Unit {0}) Refusal → MakeAnswer
told_making (Ok u) = made
told_making (Err r) = refused (told_golden_refusal r)

-- what `make` promises, of its answer and of the whole buffer afterwards
abbrev pub Makes : List ℕ → List ℕ → Result (Unit {0}) Refusal → List ℕ → Type 0
Makes m entry r exit = (told_making r ≡ making m (length entry)) × (exit ≡ after_making (making m (length entry)) m entry)
