-- A refusal of reading is passed on whole by 67: it is the one that reading gives of the message, its place too. RULES 2 and 8.
-- Each statement is a type here; proofs in proofs/PassLaws.
use Rattle.std.specs.Prelude.{ℕ, List, ◌≡◌}
use Rattle.envelope.specs.Fields.{Refusal, part_of}
use Rattle.envelope.specs.Fields as fields
use Rattle.envelope.specs.Reading.{reading}
use Rattle.envelope.specs.Refusals.{passing_on}
use Rattle.frame.specs.Unwrapping.{body_span, refused, unwrapping}
use Rattle.frame.specs.Wrapping.{wrapping}
use Rattle.frame.specs.Wrapping as wrap

abbrev pub UnwrapPassesOn : Type 0
UnwrapPassesOn = (s : List ℕ) (number : ℕ) (r : Refusal) → unwrapping s ≡ refused (passing_on number r) → reading (part_of s (body_span s)) ≡ fields.refused r

abbrev pub WrapPassesOn : Type 0
WrapPassesOn = (m : List ℕ) (commid room number : ℕ) (r : Refusal) → wrapping m commid room ≡ wrap.refused (passing_on number r) → reading m ≡ fields.refused r
