-- No theorem of find by halving is empty: for each that has hypotheses, a case in which they hold, computed, and what it then says.
-- The file `two` passes and stands in order.
use Rattle.std.specs.Prelude.{Ok}
use mathlib.Core.Bool.{Bool}
use mathlib.Core.List.{[], ◌∷◌, ◌++◌}
use mathlib.Core.Logic.{inr}
use mathlib.Core.Path.{◌≡◌, refl, ap, sym, subst, ◌∙◌}
use Prim.Native.Nat.{ℕ}
use native.Mathlib.Omega.{arith}
use Rattle.envelope.specs.Addresses.{bad_addresses}
use Rattle.envelope.specs.Fields.{Fields, refusal_by}
use Rattle.envelope.specs.Fields as envelope
use Rattle.envelope.specs.Flags.{bad_flags}
use Rattle.envelope.specs.Heading.{heading, announced, bad_variable_size}
use Rattle.envelope.specs.IntegrityField.{bad_integrity}
use Rattle.envelope.specs.Numbers.{two_at, three_at, four_at}
use Rattle.envelope.specs.Reading.{reading, reading_whole, fields_of, header_of, addressing_of, integrity_of}
use Rattle.envelope.specs.Refusals.{plainly, Gives}
use Rattle.golden.specs.File.{bad_file, count_of, record_at, judged_at}
use Rattle.golden.specs.Finding.{NameFields, name_of, found, refused, finding}
use Rattle.golden.specs.Halving.{halving}
use Rattle.golden.specs.Halved.{Earlier, Ascending, NeighboursAscend, SameRecord, RefusedAt}
use Rattle.golden.specs.Ordering.{ascends, ordering}
use Rattle.golden.specs.Making.{record_of}
use Rattle.golden.specs.Record.{stored_word, is_retired, stored_length, all_zero, bad_length, Judged, good, bad, judging, message_of}
use Rattle.golden.specs.declared.finder.Name.{Name}
use Rattle.sheet.specs.SmallFiles.{name, two, broken}
use Rattle.sheet.proofs.Halving.{halved_finds_the_same, neighbours_suffice, halving_gives, halving_passes_on, ascends_is_ascending, ascending_ascends, no_file_opens_none, order_gives, order_passes_on}
use Rattle.sheet.proofs.HalvingCases.{halved, ordered}
use Rattle.sheet.proofs.SmallFiles.{small}

abbrev sought : ℕ → Name
sought n = record { message_type = 6000; number = n }

-- the name of a good record
name_in : Judged → NameFields
name_in (good retired fields) = name_of fields
name_in (bad r) = name 0

name_in_good : (p : Bool) (a : Fields) → name_in (good p a) ≡ name_of a
unfolding name_in
name_in_good p a = refl

first_name : name_in (judged_at two 0) ≡ name 1
unfolding name_in reading reading_whole fields_of header_of addressing_of integrity_of heading announced bad_flags bad_variable_size bad_addresses bad_integrity two_at three_at four_at record_of stored_word all_zero bad_length is_retired stored_length judging judged_at
first_name = refl

second_name : name_in (judged_at two 1) ≡ name 2
unfolding name_in reading reading_whole fields_of header_of addressing_of integrity_of heading announced bad_flags bad_variable_size bad_addresses bad_integrity two_at three_at four_at record_of stored_word all_zero bad_length is_retired stored_length judging judged_at
second_name = refl

two_long : count_of two ≡ 2
unfolding record_of
two_long = refl

named : (k : ℕ) (p : Bool) (a : Fields) (x : NameFields) → name_in (judged_at two k) ≡ x → judged_at two k ≡ good p a → name_of a ≡ x
named k p a x e j = sym (name_in_good p a) ∙ ap name_in (sym j) ∙ e

one_before_two : Earlier (name 1) (name 2)
one_before_two = inr (refl, omega arith)

near : NeighboursAscend two
near k p q a b l x y =
    let count = two_long in
    let z : k ≡ 0 = omega (arith, count, l) in
    let first = named 0 p a (name 1) first_name (rw z at x) in
    let second = named 1 q b (name 2) second_name (rw z at y) in
    subst (λ (x : NameFields). Earlier x (name_of b)) (sym first) (subst (λ (y : NameFields). Earlier (name 1) y) (sym second) one_before_two)

pub two_ascend : Ascending two
two_ascend = neighbours_suffice two 2 small.two_pass near

pub two_is_told_in_order : ordering two ≡ ascends
two_is_told_in_order = ascending_ascends two 2 small.two_pass two_ascend

pub and_is_in_order : Ascending two
and_is_in_order = ascends_is_ascending two 2 small.two_pass two_is_told_in_order

pub order_gave_21 : Gives (21 ∷ 23 ∷ 24 ∷ []) (25 ∷ []) (plainly 21)
order_gave_21 = order_gives (7 ∷ []) 0 (plainly 21) ordered.no_file

pub order_passed_7_on : reading (message_of (record_at (two ++ broken) 2)) ≡ envelope.refused (refusal_by 7 17)
order_passed_7_on = order_passes_on (two ++ broken) 2 25 (refusal_by 7 17) ordered.bad_record

pub lower_is_found_by_both : SameRecord (found 0 2) (finding two (name 1))
lower_is_found_by_both = halved_finds_the_same two (sought 1) (Ok (record { «record» = 0; opened = 2 })) 2 (sym halved.lower) small.two_pass two_ascend

pub halving_gives_21 : Gives (21 ∷ 23 ∷ 24 ∷ 27 ∷ []) (25 ∷ []) (plainly 21)
halving_gives_21 = halving_gives (7 ∷ []) (name 1) (plainly 21) 0 halved.no_file

pub halving_passes_7_on : RefusedAt broken (refusal_by 7 17)
halving_passes_7_on = halving_passes_on broken (name 1) 1 25 (refusal_by 7 17) halved.bad_record

pub one_byte_opens_none : halving (7 ∷ []) (name 1) ≡ refused (plainly 21) 0
unfolding bad_file
one_byte_opens_none = no_file_opens_none (7 ∷ []) (name 1) refl
