-- For each promise about a layout two answers that a careless program would give, each refuted by computing; and that a layout is made of reading's parts.
-- `addressed` is a message of V 7 whose source is the letter A and whose destination is empty, as case i has it.
use Prim.Native.Nat.{ℕ}
use mathlib.Core.List.{List, [], ◌∷◌}
use mathlib.Core.Path.{refl, ap}
use Rattle.envelope.specs.Addresses.{first_zero}
use Rattle.envelope.specs.Numbers.{three_at}
use Rattle.layout.specs.Agreement.{LayoutIsReadings}
use Rattle.layout.specs.Fields.{order_of, variable_field, field_at, LiesIn, TellsOrder}
use Rattle.layout.specs.Layout.{layout_of, LaidOut}
use Rattle.layout.specs.declared.field.Field.TheVariants.{Source, Destination, Body, Beyond}
use Rattle.layout.specs.declared.layout.Layout.{Layout}
use Rattle.layout.proofs.AgreementLaws as agreement
use Rattle.sheet.specs.Cases.{with_addresses}
use Rattle.sheet.proofs.Apart.{apart}

pub layout_is_readings : LayoutIsReadings
layout_is_readings = agreement.layout_is_readings

abbrev pub addressed : List ℕ
addressed = with_addresses 7 (0x41 ∷ 0 ∷ 0 ∷ [])

abbrev pub laid : Layout
laid = record { destination = 23; body = 24; body_size = 0 }

pub addressed_is_laid : LaidOut addressed laid
unfolding layout_of first_zero three_at
addressed_is_laid = refl

-- ---- the layout: the source taken for the destination; a body that begins behind the addresses' first zero

pub layout_does_not_take_the_source_for_the_destination : LaidOut addressed (record { destination = 21; body = 24; body_size = 0 }) → ⊥
unfolding layout_of first_zero three_at
layout_does_not_take_the_source_for_the_destination kept = apart 21 23 tt (ap (λ (l : Layout). l.destination) kept)

pub layout_trusts_V_for_the_body : LaidOut addressed (record { destination = 23; body = 23; body_size = 0 }) → ⊥
unfolding layout_of first_zero three_at
layout_trusts_V_for_the_body kept = apart 23 24 tt (ap (λ (l : Layout). l.body) kept)

-- ---- the field: the source's zero counted to the destination; the integrity field called the body

pub field_counts_the_zero_to_its_address : LiesIn laid 22 Destination → ⊥
unfolding field_at variable_field
field_counts_the_zero_to_its_address kept = apart 11 10 tt (ap order_of kept)

pub field_ends_the_body_before_the_integrity_field : LiesIn laid 24 Body → ⊥
unfolding field_at
field_ends_the_body_before_the_integrity_field kept = apart 12 13 tt (ap order_of kept)

-- ---- the order: what lies past the message named as a field; the addresses the other way round

pub order_has_no_field_past_the_message : TellsOrder Beyond 13 → ⊥
order_has_no_field_past_the_message kept = apart 13 14 tt kept

pub order_has_the_source_first : TellsOrder Source 11 → ⊥
order_has_the_source_first kept = apart 11 10 tt kept
