-- The theorems of find by halving, of the function's own answer by its promise; and how large its answer can be and what it passes on, by its ways to end.
use mathlib.Core.Bool.{Bool, true, false}
use mathlib.Core.List.{List}
use mathlib.Core.Path.{◌≡◌, refl, sym, subst}
use Prim.Native.Nat.{ℕ, ◌≤◌}
use native.Mathlib.Omega.{arith}
use Rattle.envelope.specs.Fields.{Refusal}
use Rattle.envelope.specs.Refusals.{plainly, passing_on}
use Rattle.golden.specs.File.{most_records, bad_file}
use Rattle.golden.specs.Finding.{FindAnswer, found, refused, told_name}
use Rattle.golden.specs.Halved.{HalvedFindsTheSame, HalvedIsTrue, HalvedOpensEight, HalvingFindsFew, HalvingPointsShort, RefusedAt, HalvingPassesOn, NoFileOpensNone, EmptyOpensNone}
use Rattle.golden.specs.Halving.{halving_from, halving}
use Rattle.golden.specs.Record.{message_room}
use Rattle.golden.specs.Theorems.{found_number, find_place}
use Rattle.golden.proofs.FileLaws.{whole_file}
use Rattle.golden.proofs.HalvingLaws.{halving_ends, halving_21, halving_finds_the_same, halving_is_true, eight_openings}
use Rattle.golden.proofs.PassLaws.{bad_on}
use Rattle.golden.proofs.PointLaws.{bad_points}

-- ---- of the function's own answer

pub halved_finds_the_same : HalvedFindsTheSame
halved_finds_the_same f name a n kept e o =
    let told = kept in
    rw told (halving_finds_the_same f (told_name name) n e o)

pub halved_is_true : HalvedIsTrue
halved_is_true f name a kept = let told = kept in rw told (halving_is_true f (told_name name))

pub halved_opens_eight : HalvedOpensEight
halved_opens_eight f name a kept = let told = kept in rw told (eight_openings f (told_name name))

-- ---- how large, and what it passes on

pub halving_finds_few : HalvingFindsFew
halving_finds_few f name = go (bad_file f) refl
  where
    few : bad_file f ≡ false → found_number (halving f name) ≤ most_records
    few h =
        let most = (whole_file f h).few in
        halving_ends (λ (a : FindAnswer). found_number a ≤ most_records) f name (λ k. omega arith) (λ k opened x l j. omega arith) (λ k opened l. omega (arith, most, l)) (omega arith)

    none : bad_file f ≡ true → found_number (halving f name) ≤ most_records
    none h = subst (λ (a : FindAnswer). found_number a ≤ most_records) (halving_21 f name h) (omega arith)

    go : (b : Bool) → bad_file f ≡ b → found_number (halving f name) ≤ most_records
    go true h = none h
    go false h = few h

pub halving_points_short : HalvingPointsShort
halving_points_short f name =
    halving_ends (λ (a : FindAnswer). find_place a ≤ message_room) f name (λ k. omega arith) (λ k opened x l j. bad_points f k x j) (λ k opened l. omega arith) (omega arith)

abbrev PassedOn : List ℕ → FindAnswer → Type 0
PassedOn f (found n opened) = Unit
PassedOn f (refused x opened) = (number : ℕ) (r : Refusal) → x ≡ passing_on number r → RefusedAt f r

none_on : (f : List ℕ) (n number : ℕ) (r : Refusal) → plainly n ≡ passing_on number r → RefusedAt f r
none_on f n number r e = absurd (let z : ◌≡◌ {A = ℕ} 0 1 = cc in omega arith)

pub halving_passes_on : HalvingPassesOn
halving_passes_on f name opened number r e =
    subst (PassedOn f) e
    (halving_ends (PassedOn f) f name (λ k number r q. none_on f 27 number r q)
    (λ k opened x l j number r q. record { number = k; there = l; reads = bad_on f k x j number r q })
    (λ k opened l. tt)
    (λ number r q. none_on f 21 number r q))
    number r refl

-- ---- no record opened

pub no_file_opens_none : NoFileOpensNone
no_file_opens_none f name h = sym (halving_21 f name h)

pub empty_opens_none : EmptyOpensNone
unfolding halving halving_from bad_file
empty_opens_none name = refl
