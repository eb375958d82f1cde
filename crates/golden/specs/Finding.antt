-- Find: records are opened from the first until one is bad, or is live and has the type and number sought. RULES 5.
-- Retired records that are good are passed over, and count as opened (K7).
-- With each answer goes the number of records opened: the place of the deciding record plus one, all for 27, none for 21.
use Rattle.std.specs.Prelude.{ℕ, zero, suc, ◌+◌, Bool, cond, not, ◌&&◌, List, ◌≡◌, eqb, Result, Ok, Err}
use Rattle.envelope.specs.Fields.{Fields}
use Rattle.envelope.specs.Refusals.{Refused, plainly}
use Rattle.golden.specs.File.{bad_file, count_of, judged_at}
use Rattle.golden.specs.Record.{Judged, good, bad}
use Rattle.golden.specs.Refusal.{told_golden_refusal}
use Rattle.golden.specs.declared.finder.Found.{Found}
use Rattle.golden.specs.declared.finder.Name.{Name}
use Rattle.golden.specs.declared.finder.RefusedAfter.{RefusedAfter}

-- what is sought
pub record NameFields : Type 0 where
  pub message_type : ℕ
  pub number : ℕ

abbrev pub has_name : NameFields → Fields → Bool
has_name name f = eqb f.header.message_type name.message_type && eqb f.header.number name.number

-- the name that a message of these fields has
abbrev pub name_of : Fields → NameFields
name_of f = record { message_type = f.header.message_type; number = f.header.number }

pub data FindAnswer : Type 0 where
  found : (record·number opened : ℕ) → FindAnswer
  refused : Refused → (opened : ℕ) → FindAnswer

-- record n decides, or the others do
abbrev pub decides : NameFields → ℕ → Judged → FindAnswer → FindAnswer
decides name n (bad r) others = refused r (n + 1)
decides name n (good retired f) others = cond (not retired && has_name name f) (found n (n + 1)) others

-- the records from n on, of which there are so many
unfoldable pub find_from : List ℕ → NameFields → ℕ → ℕ → FindAnswer
find_from f name n zero = refused (plainly 27) n
find_from f name n (suc left) = decides name n (judged_at f n) (find_from f name (n + 1) left)

unfoldable pub finding : List ℕ → NameFields → FindAnswer
finding f name = cond (bad_file f) (refused (plainly 21) 0) (find_from f name 0 (count_of f))

abbrev pub told_name : Name → NameFields
told_name name = record { message_type = name.message_type; number = name.number }

abbrev pub told_finding : Result Found RefusedAfter → FindAnswer
told_finding (Ok f) = found f.record f.opened
told_finding (Err after) = refused (told_golden_refusal after.refusal) after.opened

-- what `find` promises
abbrev pub Finds : List ℕ → Name → Result Found RefusedAfter → Type 0
Finds f name r = told_finding r ≡ finding f (told_name name)
