-- Whether the records of a file, retired ones too, stand in strictly ascending order of type, then number (K9).
-- Record by record: a bad one is refused; a good one must come after the one before it, or the order breaks there. `f` is the list of the file's bytes.
use Rattle.std.specs.Prelude.{ℕ, zero, suc, ◌+◌, Bool, true, cond, List, ◌≡◌, Option, Some, None, Result, Ok, Err}
use Rattle.envelope.specs.Refusals.{Refused, plainly}
use Rattle.golden.specs.File.{bad_file, count_of, judged_at}
use Rattle.golden.specs.Finding.{name_of}
use Rattle.golden.specs.Halving.{precedes}
use Rattle.golden.specs.Record.{Judged, good, bad}
use Rattle.golden.specs.Refusal.{told_golden_refusal}
use Rattle.golden.specs.declared.refusal.RefusedAt.{RefusedAt}

-- in order; or the first record that does not come after the one before it; or the first bad one
pub data OrderAnswer : Type 0 where
  ascends : OrderAnswer
  breaks : ℕ → OrderAnswer
  refused : ℕ → Refused → OrderAnswer

-- two records that are both good, by their names
abbrev pub follows : Judged → Judged → Bool
follows (good p a) (good q b) = precedes (name_of a) (name_of b)
follows (good p a) (bad r) = true
follows (bad r) later = true

-- record n comes after the one before it; the first has none before it
unfoldable pub in_place : List ℕ → ℕ → Bool
in_place f zero = true
in_place f (suc k) = follows (judged_at f k) (judged_at f (suc k))

-- record n decides, or the others do
abbrev pub unless_out : ℕ → (placed : Bool) → Judged → OrderAnswer → OrderAnswer
unless_out n placed (bad r) others = refused n r
unless_out n placed (good retired f) others = cond placed others (breaks n)

-- the records from n on, of which there are so many
unfoldable pub order_from : List ℕ → ℕ → ℕ → OrderAnswer
order_from f n zero = ascends
order_from f n (suc left) = unless_out n (in_place f n) (judged_at f n) (order_from f (n + 1) left)

unfoldable pub ordering : List ℕ → OrderAnswer
ordering f = cond (bad_file f) (refused 0 (plainly 21)) (order_from f 0 (count_of f))

abbrev pub told_ordering : Result (Option ℕ) RefusedAt → OrderAnswer
told_ordering (Ok None) = ascends
told_ordering (Ok (Some n)) = breaks n
told_ordering (Err at) = refused at.record (told_golden_refusal at.refusal)

-- what `ascending` promises
abbrev pub Orders : List ℕ → Result (Option ℕ) RefusedAt → Type 0
Orders f r = told_ordering r ≡ ordering f
