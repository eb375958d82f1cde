-- A record whose stored length has no top bit is judged as it was, and is live. So check, find, walk, stored message, listing and compare answer as before.
-- And what passed the check before has no top bit, since a length is at most 510.
use mathlib.Core.Bool.{Bool, true, false, cond, not}
use mathlib.Core.List.{List}
use mathlib.Core.Path.{◌≡◌, refl, ap, ap₂, ◌∙◌}
use Prim.Native.Nat.{ℕ, zero, suc, ◌+◌, ◌*◌, ◌<◌}
use native.Mathlib.Omega.{arith}
use borrow.Author.Tests.{lt-leb, leb-false}
use lib.ListN.{take, drop}
use Rattle.envelope.proofs.BoolLaws.{past}
use Rattle.envelope.specs.Fields.{Fields}
use Rattle.envelope.specs.Reading.{reading}
use Rattle.envelope.specs.Refusals.{plainly}
use Rattle.golden.specs.Checking.{CheckAnswer, counted, repeats, unless_bad, check_from, checking}
use Rattle.golden.specs.Checking as check
use Rattle.golden.specs.Comparing.{with_record, comparing}
use Rattle.golden.specs.Comparing as compare
use Rattle.golden.specs.File.{bad_file, count_of, not_there, record_at, judged_at}
use Rattle.golden.specs.Finding.{NameFields, FindAnswer, decides, find_from, finding}
use Rattle.golden.specs.Finding as find
use Rattle.golden.specs.Listing.{line, entry_of, entry_at}
use Rattle.golden.specs.Listing as list
use Rattle.golden.specs.Pairing.{pairs}
use Rattle.golden.specs.Record.{record_size, head_size, stored_word, retired_mark, is_retired, stored_length, message_of, all_zero, bad_length, not_clear, Judged, good, bad, by_reading, judging}
use Rattle.golden.specs.Stepping.{message, end, step_of, step_at, message_part, nowhere, stored_message}
use Rattle.golden.specs.Stepping as step
use Rattle.golden.specs.WithoutMark.{message_before, judging_before, judged_before, repeats_before, check_from_before, checking_before, find_from_before, finding_before, part_before, stored_before, step_of_before, step_before, entry_of_before, entry_before, comparing_before, MeansTheSame, UnmarkedMeansTheSame, PassedStillPasses}
use Rattle.golden.proofs.FileLaws.{one_more}
use Rattle.golden.proofs.PairingLaws.{below_same}
use Rattle.golden.proofs.RecordLaws.{length_most, bad_is_not_good}

-- ---- one record

module _ (r : List ℕ) (small : stored_word r < retired_mark) where
  same_length : stored_length r ≡ stored_word r
  unfolding stored_length
  same_length = omega arith

  not_retired : is_retired r ≡ false
  unfolding is_retired
  not_retired = lt-leb retired_mark (stored_word r) small

  same_message : message_of r ≡ message_before r
  same_message = ap (λ (l : ℕ). take l (drop head_size r)) same_length

  same_clear : not_clear r ≡ not (all_zero (drop (head_size + stored_word r) r))
  same_clear = ap (λ (l : ℕ). not (all_zero (drop (head_size + l) r))) same_length

  pub judged_same : judging r ≡ judging_before r
  unfolding judging judging_before
  judged_same = λ i.
      cond (bad_length (same_length i)) (bad (plainly 23)) (cond (same_clear i) (bad (plainly 24)) (by_reading (not_retired i) (reading (same_message i))))

-- ---- a file

module _ (f : List ℕ) (small : (k : ℕ) → k < count_of f → stored_word (record_at f k) < retired_mark) where
  judged_as_before : (k : ℕ) → k < count_of f → judged_at f k ≡ judged_before f k
  unfolding judged_at
  judged_as_before k l = judged_same (record_at f k) (small k l)

  repeats_as_before : (k : ℕ) → k < count_of f → repeats f k ≡ repeats_before f k
  unfolding repeats repeats_before
  repeats_as_before k l =
      below_same (λ i. pairs (judged_at f k) (judged_at f i)) (λ i. pairs (judged_before f k) (judged_before f i)) k
      (λ i b. ap₂ pairs (judged_as_before k l) (judged_as_before i (omega arith)))

  check_from_lem : (left k : ℕ) → k + left ≡ count_of f → check_from f k left ≡ check_from_before f k left
  unfolding check_from check_from_before
  check_from_lem zero k e = refl
  check_from_lem (suc left) k e =
      let l : k < count_of f = omega arith in
      λ i. unless_bad k (repeats_as_before k l i) (judged_as_before k l i) (check_from_lem left (k + 1) (omega arith) i)

  check_same : checking f ≡ checking_before f
  unfolding checking checking_before
  check_same = ap (λ (x : CheckAnswer). cond (bad_file f) (check.refused 0 (plainly 21)) x) (check_from_lem (count_of f) 0 (omega arith))

  find_from_lem : (name : NameFields) (left k : ℕ) → k + left ≡ count_of f → find_from f name k left ≡ find_from_before f name k left
  unfolding find_from find_from_before
  find_from_lem name zero k e = refl
  find_from_lem name (suc left) k e = λ i. decides name k (judged_as_before k (omega arith) i) (find_from_lem name left (k + 1) (omega arith) i)

  find_same : (name : NameFields) → finding f name ≡ finding_before f name
  unfolding finding finding_before
  find_same name = ap (λ (x : FindAnswer). cond (bad_file f) (find.refused (plainly 21) 0) x) (find_from_lem name (count_of f) 0 (omega arith))

  size_same : (n : ℕ) → n < count_of f → stored_length (record_at f n) ≡ stored_word (record_at f n)
  size_same n l = same_length (record_at f n) (small n l)

  step_of_lem : (n : ℕ) → n < count_of f → (j : Judged) → step_of f n j ≡ step_of_before f n j
  step_of_lem n l (good retired fields) = λ i. message retired (record { place = n * record_size + head_size; size = size_same n l i })
  step_of_lem n l (bad r) = refl

  step_same : (n : ℕ) → step_at f n ≡ step_before f n
  unfolding step_at step_before
  step_same n = go (bad_file f) (not_there f n) refl
    where
      go : (a b : Bool) → not_there f n ≡ b
          → cond a (step.refused (plainly 21)) (cond b end (step_of f n (judged_at f n)))
          ≡ cond a (step.refused (plainly 21)) (cond b end (step_of_before f n (judged_before f n)))
      go true b e = refl
      go false true e = refl
      go false false e =
          let l = leb-false (count_of f) n e in
          ap (step_of f n) (judged_as_before n l) ∙ step_of_lem n l (judged_before f n)

  stored_same : (n : ℕ) → stored_message f n ≡ stored_before f n
  unfolding stored_message stored_before
  stored_same n = go (bad_file f) (not_there f n) refl
    where
      go : (a b : Bool) → not_there f n ≡ b → cond a nowhere (cond b nowhere (message_part f n)) ≡ cond a nowhere (cond b nowhere (part_before f n))
      go true b e = refl
      go false true e = refl
      go false false e = λ i. record { place = n * record_size + head_size; size = size_same n (leb-false (count_of f) n e) i }

  entry_of_lem : (n : ℕ) → n < count_of f → (j : Judged) → entry_of f n j ≡ entry_of_before f n j
  entry_of_lem n l (good retired fields) = λ i. line fields.header.message_type fields.header.number (size_same n l i) retired
  entry_of_lem n l (bad r) = refl

  entry_same : (n : ℕ) → entry_at f n ≡ entry_before f n
  unfolding entry_at entry_before
  entry_same n = go (bad_file f) (not_there f n) refl
    where
      go : (a b : Bool) → not_there f n ≡ b
          → cond a (list.refused (plainly 21)) (cond b (list.refused (plainly 22)) (entry_of f n (judged_at f n)))
          ≡ cond a (list.refused (plainly 21)) (cond b (list.refused (plainly 22)) (entry_of_before f n (judged_before f n)))
      go true b e = refl
      go false true e = refl
      go false false e =
          let l = leb-false (count_of f) n e in
          ap (entry_of f n) (judged_as_before n l) ∙ entry_of_lem n l (judged_before f n)

  compare_same : (n : ℕ) (radio : List ℕ) → comparing f n radio ≡ comparing_before f n radio
  unfolding comparing comparing_before
  compare_same n radio = go (bad_file f) (not_there f n) refl
    where
      go : (a b : Bool) → not_there f n ≡ b
          → cond a (compare.refused (plainly 21)) (cond b (compare.refused (plainly 22)) (with_record (message_of (record_at f n)) radio (judged_at f n)))
          ≡ cond a (compare.refused (plainly 21)) (cond b (compare.refused (plainly 22)) (with_record (message_before (record_at f n)) radio (judged_before f n)))
      go true b e = refl
      go false true e = refl
      go false false e =
          let l = leb-false (count_of f) n e in
          λ i. with_record (same_message (record_at f n) (small n l) i) radio (judged_as_before n l i)

  means_the_same : MeansTheSame f
  means_the_same = record { checks = check_same; finds = find_same; steps = step_same; stores = stored_same; lines = entry_same; compares = compare_same }

pub unmarked_means_the_same : UnmarkedMeansTheSame
unmarked_means_the_same f small = means_the_same f small

-- ---- a file that passed before

record GoesOn (j : Judged) (others : CheckAnswer) (n : ℕ) : Type 0 where
  retired : Bool
  fields : Fields
  judged : j ≡ good retired fields
  rest : others ≡ counted n

goes_on : (k : ℕ) (b : Bool) (j : Judged) (others : CheckAnswer) (n : ℕ) → unless_bad k b j others ≡ counted n → GoesOn j others n
goes_on k true (good retired fields) others n e = absurd (let z : ◌≡◌ {A = ℕ} 0 1 = cc in omega arith)
goes_on k false (good retired fields) others n e = record { retired = retired; fields = fields; judged = refl; rest = e }
goes_on k b (bad r) others n e = absurd (let z : ◌≡◌ {A = ℕ} 0 1 = cc in omega arith)

good_is_small : (r : List ℕ) (retired : Bool) (fields : Fields) → judging_before r ≡ good retired fields → stored_word r < retired_mark
unfolding judging_before
good_is_small r retired fields e =
    let p = past (bad_length (stored_word r)) bad_is_not_good e in
    omega (arith, length_most (stored_word r) p.0)

module _ (f : List ℕ) (n : ℕ) where
  abbrev Small : ℕ → Type 0
  Small k = stored_word (record_at f k) < retired_mark

  small_from : (left k : ℕ) → k + left ≡ count_of f → ((i : ℕ) → i < k → Small i) → check_from_before f k left ≡ counted n → (i : ℕ) → i < count_of f → Small i
  unfolding check_from_before
  small_from zero k e before q = λ i l. before i (omega arith)
  small_from (suc left) k e before q =
      let g = goes_on k (repeats_before f k) (judged_before f k) (check_from_before f (k + 1) left) n q in
      small_from left (k + 1) (omega arith) (one_more Small k before (good_is_small (record_at f k) g.retired g.fields g.judged)) g.rest

  passed_is_small : checking_before f ≡ counted n → (i : ℕ) → i < count_of f → Small i
  unfolding checking_before
  passed_is_small e = go (bad_file f) e
    where
      go : (b : Bool) → cond b (check.refused 0 (plainly 21)) (check_from_before f 0 (count_of f)) ≡ counted n → (i : ℕ) → i < count_of f → Small i
      go true x = absurd (let z : ◌≡◌ {A = ℕ} 0 1 = cc in omega arith)
      go false x = small_from (count_of f) 0 (omega arith) (λ i l. absurd (omega arith)) x

pub passed_still_passes : PassedStillPasses
passed_still_passes f n e = let m = means_the_same f (passed_is_small f n e) in (m.checks ∙ e, m)
