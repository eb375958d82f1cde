-- Telling answers apart: numbers by a test, and the cases of an answer by their constructors.
-- What the refutations of this crate rest on.
use mathlib.Core.Bool.{not}
use mathlib.Core.Path.{◌≡◌, ap, subst}
use Prim.Native.Nat.{ℕ}
use native.Mathlib.Omega.{arith}
use lib.Dec.{T, eqb, eqb_refl, T_not}
use Rattle.envelope.specs.Fields.{Fields, Refusal, accepted, refused, refusal_by, refused_by}

pub apart : (a b : ℕ) → T (not (eqb a b)) → a ≡ b → ⊥
apart a b t e = T_not (eqb a b) t (subst (λ (n : ℕ). T (eqb a n)) e (eqb_refl a))

pub accepted_not_refused : (f : Fields) (r : Refusal) → accepted f ≡ refused r → ⊥
accepted_not_refused f r e = let z : ◌≡◌ {A = ℕ} 0 1 = cc in omega arith

same_refusal : (a b : Refusal) → refused a ≡ refused b → a ≡ b
same_refusal a b e = cc

pub refusal_number : (m p n q : ℕ) → refused_by m p ≡ refused_by n q → m ≡ n
refusal_number m p n q e = ap (λ (r : Refusal). r.number) (same_refusal (refusal_by m p) (refusal_by n q) e)

pub refusal_place : (m p n q : ℕ) → refused_by m p ≡ refused_by n q → p ≡ q
refusal_place m p n q e = ap (λ (r : Refusal). r.place) (same_refusal (refusal_by m p) (refusal_by n q) e)
