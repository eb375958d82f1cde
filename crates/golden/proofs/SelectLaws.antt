-- The numbers that pass, ascending: each passes and is in range, none is left out; and what noting them makes of a list.
-- Inductions on how many are left. For whoever lists records or places: K8 and K10 build on these.
use mathlib.Core.Bool.{Bool, true, false, cond}
use mathlib.Core.List.{List, [], ◌∷◌, ◌++◌}
use mathlib.Core.Path.{◌≡◌, refl, ap, sym, ◌∙◌}
use Prim.Native.Nat.{ℕ, zero, suc, ◌+◌, ◌-◌, ◌≤◌, ◌<◌}
use native.Mathlib.Decide.{dec_lt}
use native.Mathlib.Omega.{arith}
use lib.ListN.{length, get_or}
use Rattle.envelope.proofs.BoolLaws.{true_is_not_false, is_false}
use Rattle.golden.specs.Positions.{noted, select}

pub select_one : (p : ℕ → Bool) (k : ℕ) → select p k 1 ≡ cond (p k) (k ∷ []) []
unfolding select
select_one p k = refl

-- one number on, as a loop to n meets it
pub select_step : (p : ℕ → Bool) (k n : ℕ) → k < n
    → select p k (n - k) ≡ cond (p k) (k ∷ select p (k + 1) (n - (k + 1))) (select p (k + 1) (n - (k + 1)))
unfolding select
select_step p k n h = let e : n - k ≡ suc (n - (k + 1)) = omega arith in rw e

-- ---- what is selected

pub record Picked (p : ℕ → Bool) (k n x : ℕ) : Type 0 where
  pub least : k ≤ x
  pub most : x < k + n
  pub passes : p x ≡ true

later : (p : ℕ → Bool) (k n x : ℕ) → Picked p (k + 1) n x → Picked p k (suc n) x
later p k n x w = record { least = omega (arith, w.least); most = omega (arith, w.most); passes = w.passes }

pub select_picks : (p : ℕ → Bool) (k n i : ℕ) → i < length (select p k n) → Picked p k n (get_or (select p k n) i 0)
unfolding select
select_picks p k zero i l = absurd (omega arith)
select_picks p k (suc n) i l = go (p k) refl i l (λ m. select_picks p (k + 1) n m)
  where
    go : (b : Bool) → p k ≡ b → (i : ℕ) → i < length (cond b (k ∷ select p (k + 1) n) (select p (k + 1) n))
        → ((m : ℕ) → m < length (select p (k + 1) n) → Picked p (k + 1) n (get_or (select p (k + 1) n) m 0))
        → Picked p k (suc n) (get_or (cond b (k ∷ select p (k + 1) n) (select p (k + 1) n)) i 0)
    go true e zero h again = record { least = omega arith; most = omega arith; passes = e }
    go true e (suc i) h again = later p k n _ (again i (omega arith))
    go false e i h again = later p k n _ (again i h)

pub select_ascends : (p : ℕ → Bool) (k n i j : ℕ) → i < j → j < length (select p k n) → get_or (select p k n) i 0 < get_or (select p k n) j 0
unfolding select
select_ascends p k zero i j h l = absurd (omega arith)
select_ascends p k (suc n) i j h l = go (p k) i j h l (λ x y. select_ascends p (k + 1) n x y)
  where
    go : (b : Bool) (i j : ℕ) → i < j → j < length (cond b (k ∷ select p (k + 1) n) (select p (k + 1) n))
        → ((x y : ℕ) → x < y → y < length (select p (k + 1) n) → get_or (select p (k + 1) n) x 0 < get_or (select p (k + 1) n) y 0)
        → get_or (cond b (k ∷ select p (k + 1) n) (select p (k + 1) n)) i 0 < get_or (cond b (k ∷ select p (k + 1) n) (select p (k + 1) n)) j 0
    go true i zero a b again = absurd (omega arith)
    go true zero (suc j) a b again = let w = (select_picks p (k + 1) n j (omega arith)).least in omega (arith, w)
    go true (suc i) (suc j) a b again = again i j (omega arith) (omega arith)
    go false i j a b again = again i j a b

pub select_few : (p : ℕ → Bool) (k n : ℕ) → length (select p k n) ≤ n
unfolding select
select_few p k zero = omega arith
select_few p k (suc n) = go (p k) (select_few p (k + 1) n)
  where
    go : (b : Bool) → length (select p (k + 1) n) ≤ n → length (cond b (k ∷ select p (k + 1) n) (select p (k + 1) n)) ≤ suc n
    go true h = omega (arith, h)
    go false h = omega (arith, h)

-- ---- what passes is selected

pub record Stands (ns : List ℕ) (x : ℕ) : Type 0 where
  pub place : ℕ
  pub within : place < length ns
  pub is : get_or ns place 0 ≡ x

pub select_leaves_none_out : (p : ℕ → Bool) (k n x : ℕ) → k ≤ x → x < k + n → p x ≡ true → Stands (select p k n) x
unfolding select
select_leaves_none_out p k zero x a b e = absurd (omega arith)
select_leaves_none_out p k (suc n) x a b e = by (dec_lt k x) (λ u v. select_leaves_none_out p (k + 1) n x u v e)
  where
    here : (c : Bool) → p k ≡ c → k ≡ x → Stands (cond c (k ∷ select p (k + 1) n) (select p (k + 1) n)) x
    here true q s = record { place = 0; within = omega arith; is = s }
    here false q s = absurd (true_is_not_false e (ap p (sym s) ∙ q))

    there : (c : Bool) → Stands (select p (k + 1) n) x → Stands (cond c (k ∷ select p (k + 1) n) (select p (k + 1) n)) x
    there true s = let w = s.within in record { place = suc s.place; within = omega arith; is = s.is }
    there false s = s

    by : Dec (k < x) → (k + 1 ≤ x → x < k + 1 + n → Stands (select p (k + 1) n) x) → Stands (cond (p k) (k ∷ select p (k + 1) n) (select p (k + 1) n)) x
    by (yes l) again = there (p k) (again (omega arith) (omega arith))
    by (no l) again = here (p k) refl (omega arith)

-- ---- none and all

pub select_none : (p : ℕ → Bool) (k n : ℕ) → ((x : ℕ) → k ≤ x → x < k + n → p x ≡ false) → select p k n ≡ []
unfolding select
select_none p k zero h = refl
select_none p k (suc n) h = rw (h k (omega arith) (omega arith)) (select_none p (k + 1) n (λ x a b. h x (omega arith) (omega arith)))

pub none_selected : (p : ℕ → Bool) (k n x : ℕ) → select p k n ≡ [] → k ≤ x → x < k + n → p x ≡ false
none_selected p k n x e a b =
    is_false (p x) (λ q. let s = select_leaves_none_out p k n x a b q in let z = ap length e in omega (arith, s.within, z))

-- where every number of the range passes, the list is the range
pub select_every : (p : ℕ → Bool) (k n : ℕ) → ((x : ℕ) → k ≤ x → x < k + n → p x ≡ true)
    → (length (select p k n) ≡ n) × ((i : ℕ) → i < n → get_or (select p k n) i 0 ≡ k + i)
unfolding select
select_every p k zero h = (refl, λ i l. absurd (omega arith))
select_every p k (suc n) h =
    let r = select_every p (k + 1) n (λ x a b. h x (omega arith) (omega arith)) in
    rw (h k (omega arith) (omega arith)) (ap suc r.0, λ i l. at i l r.1)
  where
    at : (i : ℕ) → i < suc n → ((i : ℕ) → i < n → get_or (select p (k + 1) n) i 0 ≡ k + 1 + i) → get_or (k ∷ select p (k + 1) n) i 0 ≡ k + i
    at zero l r = omega arith
    at (suc i) l r = r i (omega arith) ∙ omega arith

-- ---- another test, or another range

pub select_same : (p q : ℕ → Bool) (k n : ℕ) → ((x : ℕ) → k ≤ x → x < k + n → p x ≡ q x) → select p k n ≡ select q k n
unfolding select
select_same p q k zero h = refl
select_same p q k (suc n) h =
    rw (h k (omega arith) (omega arith), select_same p q (k + 1) n (λ x a b. h x (omega arith) (omega arith)))

pub select_split : (p : ℕ → Bool) (k n m : ℕ) → select p k (n + m) ≡ select p k n ++ select p (k + n) m
unfolding select
select_split p k zero m =
    let none : 0 + m ≡ m = omega arith in
    let here : k + 0 ≡ k = omega arith in
    rw (none, here)
select_split p k (suc n) m =
    let more : suc n + m ≡ suc (n + m) = omega arith in
    let here : k + 1 + n ≡ k + suc n = omega arith in
    rw more (go (p k) (rw here at (select_split p (k + 1) n m)))
  where
    go : (b : Bool) → select p (k + 1) (n + m) ≡ select p (k + 1) n ++ select p (k + suc n) m
        → cond b (k ∷ select p (k + 1) (n + m)) (select p (k + 1) (n + m)) ≡ cond b (k ∷ select p (k + 1) n) (select p (k + 1) n) ++ select p (k + suc n) m
    go true e = ap (λ (ns : List ℕ). k ∷ ns) e
    go false e = e

-- ---- a list in which numbers were noted

pub noted_long : (ns entry : List ℕ) → length (noted ns entry) ≡ length entry
unfolding noted
noted_long [] entry = refl
noted_long (n ∷ ns) [] = refl
noted_long (n ∷ ns) (x ∷ rest) = ap suc (noted_long ns rest)

pub noted_front : (ns entry : List ℕ) (i : ℕ) → i < length ns → i < length entry → get_or (noted ns entry) i 0 ≡ get_or ns i 0
unfolding noted
noted_front [] entry i a b = absurd (omega arith)
noted_front (n ∷ ns) [] i a b = absurd (omega arith)
noted_front (n ∷ ns) (x ∷ rest) zero a b = refl
noted_front (n ∷ ns) (x ∷ rest) (suc i) a b = noted_front ns rest i (omega arith) (omega arith)

pub noted_beyond : (ns entry : List ℕ) (i : ℕ) → length ns ≤ i → get_or (noted ns entry) i 0 ≡ get_or entry i 0
unfolding noted
noted_beyond [] entry i a = refl
noted_beyond (n ∷ ns) [] i a = refl
noted_beyond (n ∷ ns) (x ∷ rest) zero a = absurd (omega arith)
noted_beyond (n ∷ ns) (x ∷ rest) (suc i) a = noted_beyond ns rest i (omega arith)
