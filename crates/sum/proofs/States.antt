-- The states that one bit leads to in as many steps as 510 bytes have bits differ, and in more than the last digit: a computed test.
-- A search tree finds the place of each; that it does is all that is used of the tree.
use mathlib.Core.Path.{◌≡◌, sym, ap, ◌∙◌, subst}
use mathlib.Core.Bool.{Bool, true, false, ◌&&◌}
use Prim.Native.Nat.{ℕ, zero, suc, ◌+◌, ◌*◌, ◌/◌, ◌%◌, ◌^◌, ◌≤◌, ◌<◌}
use native.Mathlib.Nat.{add-zero, zero-add, add-suc, suc-add, le_of_suc-le-suc, not-suc-le-zero}
use native.Mathlib.Omega.{arith}
use lib.Dec.{T, eqb, eqb→eq, lit<}
use Rattle.sum.specs.Crc.{bit_step, bit_steps}
use Rattle.sum.specs.Flips.{most_summed}
use Rattle.sum.proofs.Computed.{both, bit_step_n, bit_step_n_is}
use Rattle.sum.proofs.Steps.{bit_step_lt}

-- a key, the place where it stands, and the keys that go on with an even and with an odd number
data Tree : Type 0 where
  leaf : Tree
  fork : ℕ → ℕ → Tree → Tree → Tree

-- the key v, whose digits that are still to be read are w, at the place i
insert : Tree → ℕ → ℕ → ℕ → Tree
insert leaf v w i = fork v i leaf leaf
insert (fork k j l r) v w i =
    elim (w % 2) [ zero ↦ fork k j (insert l v (w / 2) i) r | suc n ↦ fork k j l (insert r v (w / 2) i) ]

-- the place of the key v
find : Tree → ℕ → ℕ → ℕ
find leaf v w = zero
find (fork k j l r) v w =
    elim (eqb k v) [ true ↦ j | false ↦ elim (w % 2) [ zero ↦ find l v (w / 2) | suc n ↦ find r v (w / 2) ] ]

-- the halves of n states from v on, with their places from i on, put into a tree
build : ℕ → ℕ → ℕ → Tree → Tree
build zero i v t = t
build (suc n) i v t = let next = bit_step_n v in build n (suc i) next (insert t (v / 2) (v / 2) i)

-- the tree has the half of each of n states from v on at its place, from i on
all : Tree → ℕ → ℕ → ℕ → Bool
all t zero i v = true
all t (suc n) i v = let next = bit_step_n v in let rest = all t n (suc i) next in eqb (find t (v / 2) (v / 2)) i && rest

-- the bits of 506 bytes and of their sum
abbrev pub most_steps : ℕ
most_steps = 8 * (most_summed + 4)

tree : Tree
tree = build (suc most_steps) 0 1 leaf

tested : T (all tree (suc most_steps) 0 1)
unfolding insert find build all tree
tested = tt

-- ---- what the test says

place : Tree → ℕ → ℕ
place t v = find t v v

all_places : (t : Tree) (n i v : ℕ) → v < 2 ^ 32 → T (all t n i v) → (k : ℕ) → k < n → place t (bit_steps k v / 2) ≡ i + k
unfolding all bit_steps place
all_places t zero i v h test k l = absurd (not-suc-le-zero l)
all_places t (suc n) i v h test zero l =
    eqb→eq (place t (v / 2)) i (both (eqb (place t (v / 2)) i) (all t n (suc i) (bit_step_n v)) test).0 ∙ sym (add-zero i)
all_places t (suc n) i v h test (suc k) l =
    all_places t n (suc i) (bit_step v) (bit_step_lt v h)
    (subst (λ (r : ℕ). T (all t n (suc i) r)) (bit_step_n_is v h) (both (eqb (place t (v / 2)) i) (all t n (suc i) (bit_step_n v)) test).1)
    k (le_of_suc-le-suc l)
    ∙ suc-add i k ∙ sym (add-suc i k)

pub states_differ : (a b : ℕ) → a ≤ most_steps → b ≤ most_steps → bit_steps a 1 / 2 ≡ bit_steps b 1 / 2 → a ≡ b
states_differ a b ha hb e = sym (at a ha) ∙ ap (place tree) e ∙ at b hb
  where
    at : (k : ℕ) → k ≤ most_steps → place tree (bit_steps k 1 / 2) ≡ k
    at k l = all_places tree (suc most_steps) 0 1 (lit< tt) tested k (omega arith) ∙ zero-add k
