-- One answer alone keeps each promise of the layout.
-- Each promise is an equation, so that two answers are both equal to its other side.
use mathlib.Core.List.{List}
use mathlib.Core.Path.{sym, ◌∙◌}
use Prim.Native.Nat.{ℕ}
use Rattle.envelope.specs.Promise.{Only₁}
use Rattle.layout.specs.Fields.{LiesIn, TellsOrder}
use Rattle.layout.specs.Layout.{LaidOut}
use Rattle.layout.specs.declared.field.Field.{Field}
use Rattle.layout.specs.declared.layout.Layout.{Layout}

pub only_laid_out : (bytes : List ℕ) → Only₁ (LaidOut bytes)
only_laid_out bytes a b p q = p ∙ sym q

pub only_lies_in : (l : Layout) (place : ℕ) → Only₁ (LiesIn l place)
only_lies_in l place a b p q = p ∙ sym q

pub only_tells_order : (f : Field) → Only₁ (TellsOrder f)
only_tells_order f a b p q = p ∙ sym q
