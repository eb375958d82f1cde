-- What `map_err` leaves: the value that there was, or another refusal made of the one that there was.
-- `gives` is the clause of what makes it.
use mathlib.Core.Path.{◌≡◌, refl}
use Prim.Native.Nat.{ℕ}
use native.Mathlib.Omega.{arith}
use Rattle.std.specs.Prelude.{Result, Ok, Err, MatchResult, IsErrAnd}

pub kept_ok : {T E D : Type 0} (gives : E → D → Type 0) (o : Result T E) (m : Result T D) → MatchResult o (λ x. m ≡ Ok x) (λ e. IsErrAnd m (gives e))
    → (x : T) → m ≡ Ok x → o ≡ Ok x
kept_ok gives (Ok y) m h x q = cc
kept_ok gives (Err e) m h x q = absurd (rw q at h)

pub made_err : {T E D : Type 0} (gives : E → D → Type 0) (o : Result T E) (m : Result T D) → MatchResult o (λ x. m ≡ Ok x) (λ e. IsErrAnd m (gives e))
    → (d : D) → m ≡ Err d → (e : E) × gives e d × (o ≡ Err e)
made_err gives (Ok y) m h d q = absurd (let z : ◌≡◌ {A = ℕ} 0 1 = cc in omega arith)
made_err gives (Err e) m h d q = (e, rw q at h, refl)
