-- To be known is to be in flight or among those that wait, and to be among some is what `contains` finds.
use Prim.Native.Nat.{ℕ}
use mathlib.Core.Path.{◌≡◌, refl}
use mathlib.Core.List.{List, [], ◌∷◌}
use mathlib.Core.Bool.{false, ◌||◌}
use lib.Dec.{eqb}
use Rattle.std.proofs.Common.{arith}
use Rattle.std.proofs.lemmas.Bool.Decides.{nat_tests}
use Rattle.std.specs.List.{list_any}
use Rattle.sender.specs.Queue.{Slot, empty, holds, among, known, is_in_flight}

pub among_nil : (x : ℕ) → among x [] ≡ false
unfolding among
among_nil x = refl

either_way : (x y : ℕ) → eqb y x ≡ eqb x y
either_way x y = grind (arith, nat_tests)

pub among_any : (x : ℕ) (ws : List ℕ) → list_any (λ y. eqb y x) ws ≡ among x ws
unfolding among
among_any x [] = refl
among_any x (y ∷ ws) = λ i. either_way x y i || among_any x ws i

pub known_or : (x : ℕ) (s : Slot) (ws : List ℕ) → among x (known s ws) ≡ (is_in_flight x s || among x ws)
unfolding among
known_or x empty ws = refl
known_or x (holds y k) ws = refl
