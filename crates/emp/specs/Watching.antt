-- How a watched stream gets on: a call of the feed that does not end it uses a byte at least, and no more than it was lent.
-- What the feed finds is said in `feed`, and what is told of it is not proved.
use Rattle.std.specs.Prelude.{ℕ, ◌<◌, ◌≤◌, Result, IfOk}
use Rattle.emp.specs.declared.watching.Ended.{Ended}

abbrev pub Onward : ℕ → Result ℕ Ended → Type 0
Onward lent r = IfOk r (λ used. (0 < used) × (used ≤ lent))
