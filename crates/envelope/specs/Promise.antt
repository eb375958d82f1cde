-- What it means that a promise about an answer and about lent storage leaves one of each alone.
-- `Only₁` and `Bytes`, of the crate `sum`, are passed on to the layer above.
use Rattle.std.specs.Prelude.{◌≡◌}
pub use Rattle.sum.specs.Detection.{Bytes}
pub use Rattle.sum.specs.Promise.{Only₁}

-- for one input, two answers that keep the promise are equal, and so are two later contents
abbrev pub Only₂ : {Out Held : Type 0} → (Out → Held → Type 0) → Type 0
Only₂ {Out} {Held} P = (a b : Out) (x y : Held) → P a x → P b y → (a ≡ b) × (x ≡ y)
