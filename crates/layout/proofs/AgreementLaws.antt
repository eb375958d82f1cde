-- The layout of an accepted message is made of the parts that reading hands out.
-- Reading hands out `fields_of`, whose places are the layout's by definition; where V is 0 there is no destination.
use mathlib.Core.Bool.{Bool, true, false, cond}
use mathlib.Core.List.{List}
use mathlib.Core.Path.{◌≡◌, refl, sym, subst}
use Prim.Native.Nat.{ℕ}
use lib.Dec.{eqb}
use Rattle.envelope.proofs.ReadingLaws.{good}
use Rattle.envelope.specs.Fields.{Span, absent, present, Fields}
use Rattle.envelope.specs.Heading.{variable_size}
use Rattle.envelope.specs.Reading.{addressing_of, fields_of}
use Rattle.envelope.specs.Told.{told_envelope}
use Rattle.layout.specs.Agreement.{MadeOf, LayoutIsReadings}
use Rattle.layout.specs.Layout.{layout_of}
use Rattle.layout.specs.declared.layout.Layout.{Layout}

-- an answer that is present is the one that was found, and so is its destination
same_place : (b : Bool) (t q : ℕ) (a d : Span) (ttl qos : ℕ) (source destination : Span)
    → cond b absent (present t q a d) ≡ present ttl qos source destination → d.place ≡ destination.place
same_place true t q a d ttl qos source destination e = cc
same_place false t q a d ttl qos source destination e = cc

made_of_its_bytes : (s : List ℕ) → MadeOf (layout_of s) (fields_of s)
unfolding layout_of fields_of addressing_of
made_of_its_bytes s = (same_place (eqb (variable_size s) 0) _ _ _ _, (refl, refl))

pub layout_is_readings : LayoutIsReadings
layout_is_readings s e l reads laid =
    subst (λ (f : Fields). MadeOf l f) (sym (good s (told_envelope e) (sym reads)).fields)
    (subst (λ (m : Layout). MadeOf m (fields_of s)) (sym laid) (made_of_its_bytes s))
