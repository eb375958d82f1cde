-- Meanings of the private helpers. Nothing that a public promise says is defined here.
use Rattle.std.specs.Prelude.{ℕ, true, false, cond, List, ◌≡◌, ltb, take, Option, Some, None, Ok}
use Rattle.sender.specs.Queue.{most_waiting, placed, next, freed, is_in_flight, left}
use Rattle.sender.specs.Told.{queue_of, keeping, told_flight, told_next, told_answer, state_of}
use Rattle.sender.specs.declared.bench.Answer.{Answer}
use Rattle.sender.specs.declared.bench.Bench.{Bench}
use Rattle.sender.specs.declared.bench.Flight.{Flight}

-- how many wait, also by a count above 16
abbrev pub in_places : ℕ → ℕ
in_places n = cond (ltb most_waiting n) most_waiting n

-- what `in_flight` promises: the one in flight, where this is its COMMID
abbrev pub FindsFlight : ℕ → Bench → Option Flight → Type 0
FindsFlight x b None = is_in_flight x (told_flight b.flight) ≡ false
FindsFlight x b (Some f) = (is_in_flight x (told_flight b.flight) ≡ true) × (f.left ≡ left (told_flight b.flight))

-- what `accept` promises
pub record Accepts (b : Bench) (x : ℕ) (entry : List ℕ) (r : Answer) (after : Bench) (exit : List ℕ) : Type 0 where
  pub says : told_answer (Ok r) ≡ (placed x b.resends (told_flight b.flight) (take b.count entry)).reply
  pub bench : state_of exit after ≡ keeping (placed x b.resends (told_flight b.flight) (take b.count entry)).after

-- what `release` promises
pub record Frees (b : Bench) (entry : List ℕ) (r : Option ℕ) (after : Bench) (exit : List ℕ) : Type 0 where
  pub goes : told_next r ≡ next (queue_of (state_of entry b)).waiting
  pub bench : state_of exit after ≡ keeping (freed b.resends (queue_of (state_of entry b)).waiting)
