-- Answers that a careless find by halving, or a careless order, would give, each refuted by computing.
-- The files are those of specs/SmallFiles.
use Rattle.std.specs.Prelude.{Ok, Err, Some, None}
use mathlib.Core.Path.{◌≡◌, ap, ◌∙◌}
use Prim.Native.Nat.{ℕ}
use native.Mathlib.Omega.{arith}
use Rattle.exports.specs.Goldens.{find_slots, name_for, HalvesForC, order_slots, OrdersForC}
use Rattle.exports.specs.Word.{slots, word}
use Rattle.golden.specs.Finding.{FindAnswer, found, refused}
use Rattle.golden.specs.Halved.{order_number}
use Rattle.golden.specs.Halving.{Halves}
use Rattle.golden.specs.Ordering.{OrderAnswer, Orders}
use Rattle.golden.specs.Retiring.{marked}
use Rattle.golden.specs.Theorems.{opened_number}
use Rattle.golden.specs.declared.finder.Name.{Name}
use Rattle.golden.specs.declared.refusal.Refusal.TheVariants.{NotFound}
use Rattle.sheet.specs.SmallFiles.{two, three, withdrawn, descending, twice}
use Rattle.sheet.proofs.Apart.{apart}
use Rattle.sheet.proofs.HalvingCases.{halved, ordered}

abbrev sought : ℕ → Name
sought n = record { message_type = 6000; number = n }

-- ---- an opening left out; records counted and not openings; the half rounded up; the middle's neighbour left out

pub halving_counts_each_opening : Halves two (sought 1) (Ok (record { «record» = 0; opened = 1 })) → ⊥
halving_counts_each_opening kept = apart 1 2 tt (ap opened_number (kept ∙ halved.lower))

pub halving_counts_openings_not_records : Halves two (sought 2) (Ok (record { «record» = 1; opened = 2 })) → ⊥
halving_counts_openings_not_records kept = apart 2 1 tt (ap opened_number (kept ∙ halved.upper))

pub halving_rounds_down : Halves three (sought 2) (Ok (record { «record» = 1; opened = 2 })) → ⊥
halving_rounds_down kept = apart 2 1 tt (ap opened_number (kept ∙ halved.middle_of_three))

pub halving_leaves_out_no_neighbour : Halves three (sought 3) (Err (record { refusal = NotFound; opened = 1 })) → ⊥
halving_leaves_out_no_neighbour kept = apart 1 2 tt (ap opened_number (kept ∙ halved.last_of_three))

-- ---- a retired match found; a retired match passed over

pub halving_finds_no_retired_record : Halves withdrawn (sought 1) (Ok (record { «record» = 0; opened = 2 })) → ⊥
halving_finds_no_retired_record kept =
    let z : found 0 2 ≡ refused _ 2 = kept ∙ halved.retired_match in
    let y : ◌≡◌ {A = ℕ} 0 1 = cc in
    omega arith

pub halving_passes_over_no_retired_match : Halves (marked twice 1) (sought 1) (Ok (record { «record» = 0; opened = 2 })) → ⊥
halving_passes_over_no_retired_match kept = apart 2 1 tt (ap opened_number (kept ∙ halved.ends_at_retired))

-- ---- the order: told of a file without it; the wrong record named

ascends_number : OrderAnswer → ℕ
ascends_number a = order_number a

pub order_does_not_ascend : Orders descending (Ok None) → ⊥
unfolding ascends_number
order_does_not_ascend kept = apart 0 1 tt (ap ascends_number (kept ∙ ordered.falls_back))

pub order_breaks_at_the_later : Orders twice (Ok (Some 0)) → ⊥
unfolding ascends_number
order_breaks_at_the_later kept = apart 0 1 tt (ap ascends_number (kept ∙ ordered.not_strictly))

-- ---- for C: an opening left out; the record's number lost; an order told that is not there; the record of its break lost

pub halving_for_c_counts_each_opening : HalvesForC two (name_for 6000 1) (word (slots 0 0 1 0)) → ⊥
unfolding word
halving_for_c_counts_each_opening kept = apart 65536 131072 tt (kept ∙ ap (λ (a : FindAnswer). word (find_slots a)) halved.lower)

pub halving_for_c_tells_the_record : HalvesForC two (name_for 6000 2) (word (slots 0 0 1 0)) → ⊥
unfolding word
halving_for_c_tells_the_record kept = apart 65536 4295032832 tt (kept ∙ ap (λ (a : FindAnswer). word (find_slots a)) halved.upper)

pub order_for_c_does_not_ascend : OrdersForC descending (word (slots 0 0 0 1)) → ⊥
unfolding word
order_for_c_does_not_ascend kept = apart 4294967296 65536 tt (kept ∙ ap (λ (a : OrderAnswer). word (order_slots a)) ordered.falls_back)

pub order_for_c_tells_where_it_breaks : OrdersForC descending (word (slots 0 0 0 0)) → ⊥
unfolding word
order_for_c_tells_where_it_breaks kept = apart 0 65536 tt (kept ∙ ap (λ (a : OrderAnswer). word (order_slots a)) ordered.falls_back)
