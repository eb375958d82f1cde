-- Check and find, one record on as their loops meet them; and what opening a record says of its judgement.
-- `n` is the record at hand, and `count - n` are left with it.
use mathlib.Core.Bool.{Bool, true, false}
use mathlib.Core.List.{List}
use mathlib.Core.Path.{◌≡◌, ap, sym, ◌∙◌}
use Prim.Native.Nat.{ℕ, suc, ◌+◌, ◌-◌, ◌≤◌, ◌<◌}
use native.Mathlib.Omega.{arith}
use Rattle.std.specs.Prelude.{Result, Ok, Err}
use Rattle.envelope.specs.Fields.{Fields}
use Rattle.envelope.specs.Told.{told_envelope}
use Rattle.envelope.specs.Refusals.{Refused, plainly}
use Rattle.golden.specs.Checking.{CheckAnswer, counted, repeats, unless_bad, check_from, checking}
use Rattle.golden.specs.Checking as check
use Rattle.golden.specs.File.{bad_file, count_of, record_at, judged_at}
use Rattle.golden.specs.Finding.{NameFields, name_of, FindAnswer, decides, find_from, finding}
use Rattle.golden.specs.Finding as find
use Rattle.golden.specs.Listing.{counting}
use Rattle.golden.specs.Listing as list
use Rattle.golden.specs.Helpers.{holding, bad, opened_as, opening, told_opening, is_written, repeats_by}
use Rattle.golden.specs.Pairing.{pairs}
use Rattle.golden.specs.Record.{stored_length, Judged, good, bad, judging}
use Rattle.golden.specs.Theorems.{GoodAt}
use Rattle.golden.specs.Refusal.{told_golden_refusal}
use Rattle.golden.specs.declared.record.GoodRecord.{GoodRecord}
use Rattle.golden.specs.declared.refusal.Refusal.{Refusal}
use Rattle.golden.proofs.FileLaws.{uncounted_so}
use Rattle.golden.proofs.NameLaws.{named_by_bytes}
use Rattle.golden.proofs.PairingLaws.{below_none, below_same}

-- ---- what opening a record says of its judgement

as_bad : (size : ℕ) (j : Judged) (r : Refused) → bad r ≡ opened_as size j → j ≡ bad r
as_bad size (good retired f) r e = cc
as_bad size (bad x) r e = cc

as_holding : (size l : ℕ) (j : Judged) (retired : Bool) (f : Fields) → holding l retired f ≡ opened_as size j → (j ≡ good retired f) × (l ≡ size)
as_holding size l (good mark g) retired f e = (cc, cc)
as_holding size l (bad x) retired f e = (cc, cc)

pub judged_bad : (s : List ℕ) (n : ℕ) (r : Refused) → bad r ≡ opening (record_at s n) → judged_at s n ≡ bad r
unfolding opening judged_at
judged_bad s n r e = as_bad (stored_length (record_at s n)) (judging (record_at s n)) r e

pub judged_good : (s : List ℕ) (n l : ℕ) (retired : Bool) (f : Fields) → holding l retired f ≡ opening (record_at s n)
    → (judged_at s n ≡ good retired f) × (l ≡ stored_length (record_at s n))
unfolding opening judged_at
judged_good s n l retired f e = as_holding (stored_length (record_at s n)) l (judging (record_at s n)) retired f e

pub opened_good : (s : List ℕ) (n : ℕ) (g : GoodRecord) {o : Result GoodRecord Refusal} → o ≡ Ok g → told_opening o ≡ opening (record_at s n)
    → judged_at s n ≡ good g.retired (told_envelope g.envelope)
opened_good s n g q e = (judged_good s n _ _ _ (ap told_opening (sym q) ∙ e)).0

pub opened_bad : (s : List ℕ) (n : ℕ) (r : Refusal) {o : Result GoodRecord Refusal} → o ≡ Err r → told_opening o ≡ opening (record_at s n)
    → judged_at s n ≡ bad (told_golden_refusal r)
opened_bad s n r q e = judged_bad s n _ (ap told_opening (sym q) ∙ e)

-- ---- check

module _ (f : List ℕ) where
  pub check_21 : bad_file f ≡ true → check.refused 0 (plainly 21) ≡ checking f
  unfolding checking
  check_21 h = rw h

  pub check_all : bad_file f ≡ false → (x : CheckAnswer) → check_from f 0 (count_of f) ≡ x → x ≡ checking f
  unfolding checking
  check_all h x e = rw h (sym e)

  pub check_on : (n count : ℕ) → n < count → (b : Bool) → repeats f n ≡ b → (j : Judged) → judged_at f n ≡ j
      → check_from f n (count - n) ≡ unless_bad n b j (check_from f (n + 1) (count - (n + 1)))
  unfolding check_from
  check_on n count h b q j e =
      let k : count - n ≡ suc (count - (n + 1)) = omega arith in
      rw (k, e, q)

  -- 26 by the bytes of type and number, behind records that are good
  pub repeats_by_bytes : (n : ℕ) (retired : Bool) (fields : Fields) → judged_at f n ≡ good retired fields → ((k : ℕ) → k < n → GoodAt f k)
      → repeats f n ≡ repeats_by retired fields f n
  unfolding repeats
  repeats_by_bytes n true fields e before =
      below_none (λ k. pairs (judged_at f n) (judged_at f k)) n (λ k l. ap (λ (j : Judged). pairs j (judged_at f k)) e)
  repeats_by_bytes n false fields e before =
      below_same (λ k. pairs (judged_at f n) (judged_at f k)) (λ k. is_written (name_of fields) (record_at f k)) n
      (λ k l. ap (λ (j : Judged). pairs j (judged_at f k)) e ∙ named_by_bytes f (name_of fields) k (before k l))

  pub check_uncounted : (r : Refused) → list.refused r ≡ counting f → check.refused 0 r ≡ checking f
  check_uncounted r e = let u = uncounted_so f r e in ap (check.refused 0) u.1 ∙ check_21 u.0

  pub check_end : (n count : ℕ) → count ≤ n → check_from f n (count - n) ≡ counted n
  unfolding check_from
  check_end n count h = let k : count - n ≡ 0 = omega arith in rw k

-- ---- find

module _ (f : List ℕ) (name : NameFields) where
  pub find_21 : bad_file f ≡ true → find.refused (plainly 21) 0 ≡ finding f name
  unfolding finding
  find_21 h = rw h

  pub find_all : bad_file f ≡ false → (x : FindAnswer) → find_from f name 0 (count_of f) ≡ x → x ≡ finding f name
  unfolding finding
  find_all h x e = rw h (sym e)

  pub find_on : (n count : ℕ) → n < count → (j : Judged) → judged_at f n ≡ j
      → find_from f name n (count - n) ≡ decides name n j (find_from f name (n + 1) (count - (n + 1)))
  unfolding find_from
  find_on n count h j e =
      let k : count - n ≡ suc (count - (n + 1)) = omega arith in
      rw (k, e)

  pub find_uncounted : (r : Refused) → list.refused r ≡ counting f → find.refused r 0 ≡ finding f name
  find_uncounted r e = let u = uncounted_so f r e in ap (λ (x : Refused). find.refused x 0) u.1 ∙ find_21 u.0

  pub find_end : (n count : ℕ) → count ≤ n → find_from f name n (count - n) ≡ find.refused (plainly 27) n
  unfolding find_from
  find_end n count h = let k : count - n ≡ 0 = omega arith in rw k
