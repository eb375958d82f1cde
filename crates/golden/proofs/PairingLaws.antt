-- Names and pairs: two live records of one name pair up, and the search below a number.
-- Inductions on the number.
use mathlib.Core.Bool.{Bool, true, false, not}
use mathlib.Core.Path.{◌≡◌, refl, ap, sym, ◌∙◌}
use Prim.Native.Nat.{ℕ, zero, suc, ◌<◌}
use native.Mathlib.Decide.{dec_lt}
use native.Mathlib.Omega.{arith}
use Rattle.std.proofs.Common.{zero-add}
use Rattle.std.proofs.lemmas.List.FromFn.{get_or-range_with_len, length-range_with_len}
use Rattle.std.proofs.lemmas.List.Recursion.{or_is}
use Rattle.std.specs.List.{list_any, range_with_len}
use Rattle.envelope.proofs.BoolLaws.{neither, and-false, true_is_not_false}
use Rattle.envelope.specs.Fields.{Fields}
use Rattle.golden.specs.Finding.{NameFields}
use Rattle.golden.specs.Pairing.{is_named, pairs, any_below}
use Rattle.golden.specs.Record.{Judged, good, bad}
use Rattle.golden.proofs.NameLaws.{named_so}

pub named_pair : (name : NameFields) (j k : Judged) → is_named name j ≡ true → is_named name k ≡ true → pairs j k ≡ true
named_pair name (good true fields) k e h = e
named_pair name (good false fields) k e h = ap (λ (x : NameFields). is_named x k) (named_so name fields e) ∙ h
named_pair name (bad r) k e h = e

-- a retired record pairs with none
pub pairs_with_retired : (j : Judged) (fields : Fields) → pairs j (good true fields) ≡ false
pairs_with_retired (good retired x) fields = and-false (not retired)
pairs_with_retired (bad r) fields = refl

-- ---- one below a number

pub record Below (p : ℕ → Bool) (n : ℕ) : Type 0 where
  pub number : ℕ
  pub within : number < n
  pub passes : p number ≡ true

pub any_below_lem : (p : ℕ → Bool) (n : ℕ) → any_below p n ≡ true → Below p n
unfolding any_below
any_below_lem p zero e = absurd (true_is_not_false e refl)
any_below_lem p (suc n) e = go (p n) refl (any_below_lem p n)
  where
    more : Below p n → Below p (suc n)
    more b = let w = b.within in record { number = b.number; within = omega arith; passes = b.passes }

    go : (b : Bool) → p n ≡ b → (any_below p n ≡ true → Below p n) → Below p (suc n)
    go true q again = record { number = n; within = omega arith; passes = q }
    go false q again = more (again (rw q at e))

pub none_below : (p : ℕ → Bool) (n : ℕ) → any_below p n ≡ false → (i : ℕ) → i < n → p i ≡ false
unfolding any_below
none_below p zero e i l = absurd (omega arith)
none_below p (suc n) e i l = by (neither (p n) (any_below p n) e) (dec_lt i n) (λ q. none_below p n q i)
  where
    by : (p n ≡ false) × (any_below p n ≡ false) → Dec (i < n) → (any_below p n ≡ false → i < n → p i ≡ false) → p i ≡ false
    by h (yes b) again = again h.1 b
    by h (no b) again = let q : i ≡ n = omega arith in rw q h.0

pub below_one : (p : ℕ → Bool) (n i : ℕ) → i < n → p i ≡ true → any_below p n ≡ true
below_one p n i l e = go (any_below p n) refl
  where
    go : (b : Bool) → any_below p n ≡ b → b ≡ true
    go true q = refl
    go false q = absurd (true_is_not_false e (none_below p n q i l))

pub below_none : (p : ℕ → Bool) (n : ℕ) → ((i : ℕ) → i < n → p i ≡ false) → any_below p n ≡ false
unfolding any_below
below_none p zero h = refl
below_none p (suc n) h = rw (h n (omega arith)) (below_none p n (λ i l. h i (omega arith)))

pub below_same : (p q : ℕ → Bool) (n : ℕ) → ((i : ℕ) → i < n → p i ≡ q i) → any_below p n ≡ any_below q n
unfolding any_below
below_same p q zero h = refl
below_same p q (suc n) h = rw (h n (omega arith), below_same p q n (λ i l. h i (omega arith)))

-- one of the numbers from 0 up to n, as an iterator tries them
pub any_of_range : (p : ℕ → Bool) (n : ℕ) → list_any p (range_with_len 0 n) ≡ any_below p n
any_of_range p n =
    sym
    (or_is (list_any p) p refl (λ x xs. refl) (range_with_len 0 n) 0 (any_below p n)
    (λ e.
    let b = any_below_lem p n e in
    (b.number, rw (length-range_with_len 0 n) b.within, rw (get_or-range_with_len 0 n b.number 0 b.within) (rw (zero-add b.number) b.passes)))
    (λ e i l.
    let k : i < n = rw (length-range_with_len 0 n) at l in
    rw (get_or-range_with_len 0 n i 0 k) (rw (zero-add i) (none_below p n e i k))))
