-- Numbers into a lent list one by one: what a loop over the positions keeps, and what it leaves at its end.
-- `put_all` is the loop's own way of writing, `noted` the definition's.
use mathlib.Core.Bool.{Bool, true, false, cond}
use mathlib.Core.List.{List, [], ◌∷◌, ◌++◌}
use mathlib.Core.Path.{◌≡◌, refl, ap, sym, ◌∙◌}
use Prim.Native.Nat.{ℕ, ◌+◌, ◌-◌, ◌≤◌, ◌<◌}
use native.Mathlib.Omega.{arith}
use lib.ListN.{length, set, length-append}
use lib.Seq.{set_out, set_at, append_snoc}
use Rattle.golden.specs.Positions.{noted, select}
use Rattle.golden.proofs.SelectLaws.{select_step, select_none}

abbrev pub put_all : List ℕ → ℕ → List ℕ → List ℕ
put_all l t [] = l
put_all l t (d ∷ ds) = put_all (set l t d) (t + 1) ds

put_full : (ds l : List ℕ) (t : ℕ) → length l ≤ t → put_all l t ds ≡ l
put_full [] l t h = refl
put_full (d ∷ ds) l t h = rw (set_out l t d h) (put_full ds l (t + 1) (omega arith))

put_after : (ds post pre : List ℕ) (t : ℕ) → length pre ≡ t → put_all (pre ++ post) t ds ≡ pre ++ noted ds post
unfolding noted
put_after [] post pre t h = refl
put_after (d ∷ ds) [] pre t h = put_full (d ∷ ds) (pre ++ []) t (omega (arith, length-append pre []))
put_after (d ∷ ds) (x ∷ post) pre t h =
    rw (set_at pre x post d t h, ← append_snoc pre d post)
    (put_after ds post (pre ++ (d ∷ [])) (t + 1) (omega (arith, length-append pre (d ∷ []))) ∙ append_snoc pre d (noted ds post))

put_noted : (ds l : List ℕ) → put_all l 0 ds ≡ noted ds l
put_noted ds l = put_after ds l [] 0 refl

-- ---- one position on

turn_total : (b : Bool) (k t : ℕ) (ks : List ℕ) → cond b (t + 1) t + length ks ≡ t + length (cond b (k ∷ ks) ks)
turn_total true k t ks = omega arith
turn_total false k t ks = refl

turn_list : (b : Bool) (k t : ℕ) (l ks : List ℕ) → put_all (cond b (set l t k) l) (cond b (t + 1) t) ks ≡ put_all l t (cond b (k ∷ ks) ks)
turn_list true k t l ks = refl
turn_list false k t l ks = refl

few_more : (b : Bool) (t k : ℕ) → t ≤ k → cond b (t + 1) t ≤ k + 1
few_more true t k h = omega arith
few_more false t k h = omega arith

-- ---- the loop: at position k, with total t and list l, of a loop to n that began with l₀

pub record Going (p : ℕ → Bool) (n : ℕ) (l₀ l : List ℕ) (t k : ℕ) : Type 0 where
  pub within : k ≤ n
  pub few : t ≤ k
  pub same : length l ≡ length l₀
  pub total : t + length (select p k (n - k)) ≡ length (select p 0 n)
  pub left : put_all l t (select p k (n - k)) ≡ put_all l₀ 0 (select p 0 n)

pub going_on : (p : ℕ → Bool) (n : ℕ) (l₀ l : List ℕ) (t k : ℕ) (l' : List ℕ) (t' : ℕ) → Going p n l₀ l t k → k < n
    → t' ≡ cond (p k) (t + 1) t → l' ≡ cond (p k) (set l t k) l → length l' ≡ length l → Going p n l₀ l' t' (k + 1)
going_on p n l₀ l t k l' t' g h e q s =
    let more = select p (k + 1) (n - (k + 1)) in
    record {
      within = omega arith;
      few = rw e (few_more (p k) t k g.few);
      same = s ∙ g.same;
      total = rw e (turn_total (p k) k t more ∙ ap (λ (ks : List ℕ). t + length ks) (sym (select_step p k n h)) ∙ g.total);
      left = rw (e, q) (turn_list (p k) k t l more ∙ ap (λ (ks : List ℕ). put_all l t ks) (sym (select_step p k n h)) ∙ g.left);
    }

pub going_end : (p : ℕ → Bool) (n : ℕ) (l₀ l : List ℕ) (t k : ℕ) → Going p n l₀ l t k → n ≤ k
    → (t ≡ length (select p 0 n)) × (l ≡ noted (select p 0 n) l₀)
going_end p n l₀ l t k g h =
    let z : select p k (n - k) ≡ [] = select_none p k (n - k) (λ x a b. absurd (omega arith)) in
    (omega (arith, ap length z, g.total), ap (put_all l t) (sym z) ∙ g.left ∙ put_noted (select p 0 n) l₀)
