-- Tests as facts: what a Bool that is put together says of its parts, and what an answer that may be refused says of its rule.
-- Beside the library's `borrow.Author.Tests`.
use Rattle.std.proofs.Common.{◌≡◌, ℕ, Bool, true, false, cond, ◌&&◌, ◌||◌, eqb, ◌⊎◌, Ok, Err, refl, inl, inr, arith, eq-eqb, ne_eqb, eqb-true}
use borrow.Author.Tests.{eqb-false}
use Rattle.envelope.specs.Helpers.{unless_refused}

pub both : (a b : Bool) → (a && b) ≡ true → (a ≡ true) × (b ≡ true)
both true b e = (refl, e)
both false b e = (e, cc)

pub neither : (a b : Bool) → (a || b) ≡ false → (a ≡ false) × (b ≡ false)
neither true b e = (e, cc)
neither false b e = (refl, e)

pub either : (a b : Bool) → (a || b) ≡ true → (a ≡ true) ⊎ (b ≡ true)
either true b e = inl refl
either false b e = inr e

pub true_is_not_false : {b : Bool} → b ≡ true → b ≡ false → ⊥
true_is_not_false t f = let z : ◌≡◌ {A = ℕ} 0 1 = cc in omega arith

pub and-false : (b : Bool) → (b && false) ≡ false
and-false true = refl
and-false false = refl

-- what cannot be true is false
pub is_false : (b : Bool) → (b ≡ true → ⊥) → b ≡ false
is_false true f = absurd (f refl)
is_false false f = refl

-- a choice that is not its first answer: the test failed
pub past : {A : Type 0} (b : Bool) {x rest z : A} → (x ≡ z → ⊥) → cond b x rest ≡ z → (b ≡ false) × (rest ≡ z)
past true apart e = absurd (apart e)
past false apart e = (refl, e)

-- two tests of equality that say the same
pub same_test : (a b c d : ℕ) → (a ≡ b → c ≡ d) → (c ≡ d → a ≡ b) → eqb a b ≡ eqb c d
same_test a b c d there back = go (eqb c d) refl
  where
    go : (t : Bool) → eqb c d ≡ t → eqb a b ≡ t
    go true e = eq-eqb a b (back (eqb-true c d e))
    go false e = ne_eqb a b (λ p. eqb-false c d e (there p))

-- an answer that is refused, and one that is not
pub broken : {A R : Type 0} (b : Bool) (q r : R) (x : A) → Err q ≡ unless_refused b r x → (b ≡ true) × (q ≡ r)
broken true q r x e = (refl, cc)
broken false q r x e = (cc, cc)

pub kept : {A R : Type 0} (b : Bool) (r : R) (x y : A) → Ok y ≡ unless_refused b r x → (b ≡ false) × (y ≡ x)
kept true r x y e = (cc, cc)
kept false r x y e = (refl, cc)
