-- Walk, as a struct: the lent file and the number of the next record, which starts at 0. A step answers as specs/Stepping says, and only the number changes. RULES 5.
-- `w` is the walk before the step, `after` the walk after it, and `r` the answer.
use Rattle.std.specs.Prelude.{◌≡◌, ℕ, List, Option, Result}
use Rattle.std.specs.Borrow.{Bor}
use Rattle.golden.specs.Stepping.{step_at, next_after, told_reached}
use Rattle.golden.specs.declared.refusal.Refusal.{Refusal}
use Rattle.golden.specs.declared.stepper.Stored.{Stored}
use Rattle.golden.specs.declared.walker.Walk.{Walk}

-- what `new` promises
abbrev pub Begins : Bor (List ℕ) → Walk → Type 0
Begins file w = (w.file ≡ file) × (w.next ≡ 0)

-- what `step` promises
abbrev pub Walks : Walk → Result (Option Stored) Refusal → Walk → Type 0
Walks w r after =
    (told_reached r ≡ step_at w.file.now w.next)
    × ((after.file ≡ w.file) × (after.next ≡ next_after w.file.now w.next))
