-- A refusal of whoever rests on reading: its number alone, or its number with the refusal of reading, passed on whole. RULES 5 and 8.
-- In numbers it is its own, that of reading and the place, both 0 where reading had no part in it.
use Rattle.std.specs.Prelude.{◌≡◌, ℕ, Bool, true, false, ◌||◌, List, [], ◌∷◌, ◌==◌}
use Rattle.envelope.specs.Fields.{Refusal}
use Rattle.envelope.specs.Told.{told_refusal}
use Rattle.envelope.specs.declared.reader.Refusal.{Refusal as CodeRefusal}
use Rattle.envelope.specs.declared.refusals.Numbers.{Numbers}

pub data Refused : Type 0 where
  plainly : ℕ → Refused
  passing_on : ℕ → Refusal → Refused

pub record RefusalNumbers : Type 0 where
  pub number : ℕ
  pub reading : ℕ
  pub place : ℕ

abbrev pub numbers_of : Refused → RefusalNumbers
numbers_of (plainly n) = record { number = n; reading = 0; place = 0 }
numbers_of (passing_on n r) = record { number = n; reading = r.number; place = r.place }

-- the place that a refusal passes on, 0 where it passes none on
abbrev pub place_in : Refused → ℕ
place_in r = (numbers_of r).place

-- a refusal of reading itself: its number is its own
abbrev pub reading_numbers : Refusal → RefusalNumbers
reading_numbers r = record { number = r.number; reading = 0; place = r.place }

abbrev pub told_numbers : Numbers → RefusalNumbers
told_numbers n = record { number = n.number; reading = n.reading; place = n.place }

-- the numbers of a refusal; what `numbers` of each crate's refusals promises
abbrev pub TellsNumbers : Refused → Numbers → Type 0
TellsNumbers refused r = told_numbers r ≡ numbers_of refused

-- what `Numbers::from`, `Numbers::plainly` and `Numbers::passing_on` promise
abbrev pub NumbersByReading : CodeRefusal → Numbers → Type 0
NumbersByReading refusal r = told_numbers r ≡ reading_numbers (told_refusal refusal)

abbrev pub NumbersPlainly : ℕ → Numbers → Type 0
NumbersPlainly n r = TellsNumbers (plainly n) r

abbrev pub NumbersPassingOn : ℕ → CodeRefusal → Numbers → Type 0
NumbersPassingOn n refusal r = TellsNumbers (passing_on n (told_refusal refusal)) r

-- ---- which refusals an operation can give: those with these numbers alone, and those that pass on reading's with these

abbrev pub among : List ℕ → ℕ → Bool
among [] n = false
among (m ∷ ms) n = m == n || among ms n

abbrev pub Gives : (plain passing : List ℕ) → Refused → Type 0
Gives plain passing (plainly n) = among plain n ≡ true
Gives plain passing (passing_on n r) = among passing n ≡ true
