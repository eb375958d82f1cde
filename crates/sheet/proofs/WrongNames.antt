-- Answers that a careless check would give of two records of one name, each refuted by computing.
-- The files are those of specs/NameCases.
use Rattle.std.specs.Prelude.{Ok, Err}
use mathlib.Core.Path.{◌≡◌, ap, ◌∙◌}
use Prim.Native.Nat.{ℕ}
use native.Mathlib.Omega.{arith}
use Rattle.envelope.specs.Refusals.{Refused, plainly, numbers_of}
use Rattle.golden.specs.Checking.{counted, refused, Checks}
use Rattle.golden.specs.declared.refusal.Refusal.TheVariants.{BadLength, NameTaken}
use Rattle.sheet.specs.NameCases.{other_type, far_apart_file, bad_between, bad_behind, bad_itself}
use Rattle.sheet.specs.SmallFiles.{two, twice, by25}
use Rattle.sheet.proofs.Apart.{apart}
use Rattle.sheet.proofs.NameCases.{names}

passed_not_refused : (n k : ℕ) (r : Refused) → counted n ≡ refused k r → ⊥
passed_not_refused n k r e = let z : ◌≡◌ {A = ℕ} 0 1 = cc in omega arith

refused_not_passed : (n k : ℕ) (r : Refused) → refused k r ≡ counted n → ⊥
refused_not_passed n k r e = let z : ◌≡◌ {A = ℕ} 0 1 = cc in omega arith

same_record : (k m : ℕ) (r s : Refused) → refused k r ≡ refused m s → k ≡ m
same_record k m r s e = cc

same_refusal : (k m : ℕ) (r s : Refused) → refused k r ≡ refused m s → r ≡ s
same_refusal k m r s e = cc

-- ---- the pair missed: next to each other, and three records apart

pub check_does_not_pass_over_26 : (n : ℕ) → Checks twice (Ok n) → ⊥
check_does_not_pass_over_26 n kept = passed_not_refused n 1 (plainly 26) (kept ∙ names.the_later)

pub check_looks_back_to_the_first : (n : ℕ) → Checks far_apart_file (Ok n) → ⊥
check_looks_back_to_the_first n kept = passed_not_refused n 3 (plainly 26) (kept ∙ names.far_apart)

-- ---- the wrong record or refusal told: the earlier of the two; 26 of a record that is bad by 25; 26 past a bad record between the two; a later bad record

pub check_names_the_later : Checks twice (Err (record { «record» = 0; refusal = NameTaken })) → ⊥
check_names_the_later kept = apart 0 1 tt (same_record 0 1 (plainly 26) (plainly 26) (kept ∙ names.the_later))

pub check_tells_25_before_26 : Checks bad_itself (Err (record { «record» = 1; refusal = NameTaken })) → ⊥
check_tells_25_before_26 kept =
    apart 26 25 tt (ap (λ (r : Refused). (numbers_of r).number) (same_refusal 1 1 (plainly 26) by25 (kept ∙ names.bad_itself_lem)))

pub check_tells_a_bad_record_between : Checks bad_between (Err (record { «record» = 2; refusal = NameTaken })) → ⊥
check_tells_a_bad_record_between kept = apart 2 1 tt (same_record 2 1 (plainly 26) (plainly 23) (kept ∙ names.bad_between_lem))

pub check_tells_26_before_a_later_record : Checks bad_behind (Err (record { «record» = 2; refusal = BadLength })) → ⊥
check_tells_26_before_a_later_record kept = apart 2 1 tt (same_record 2 1 (plainly 23) (plainly 26) (kept ∙ names.bad_behind_lem))

-- ---- half a name compared: the type alone, the number alone

pub check_compares_numbers_too : Checks two (Err (record { «record» = 1; refusal = NameTaken })) → ⊥
check_compares_numbers_too kept = refused_not_passed 2 1 (plainly 26) (kept ∙ names.other_number)

pub check_compares_types_too : Checks other_type (Err (record { «record» = 1; refusal = NameTaken })) → ⊥
check_compares_types_too kept = refused_not_passed 2 1 (plainly 26) (kept ∙ names.other_type_lem)
