-- The count of the retired records: no more than there are, none where none is retired, and one more when one is retired.
-- Inductions on the records that are counted.
use mathlib.Core.Bool.{Bool, true, false, cond, not}
use mathlib.Core.List.{List}
use mathlib.Core.Path.{◌≡◌, refl}
use Prim.Native.Nat.{ℕ, zero, suc, ◌+◌, ◌≤◌, ◌<◌}
use native.Mathlib.Decide.{dec_lt}
use native.Mathlib.Numerals.{add-one}
use native.Mathlib.Omega.{arith}
use lib.ListN.{drop}
use Rattle.std.specs.Prelude.{Result, Ok, Err, MatchResult}
use Rattle.envelope.specs.Fields.{Fields, Answer, accepted}
use Rattle.envelope.specs.Fields as envelope
use Rattle.envelope.specs.Reading.{reading}
use Rattle.envelope.specs.Refusals.{plainly}
use Rattle.golden.specs.File.{most_records, bad_file, count_of, record_at, judged_at}
use Rattle.golden.specs.Helpers.{told_opening, opening}
use Rattle.golden.specs.Listing.{counted, refused, one_if_retired, retired_below, counting_retired}
use Rattle.golden.specs.Record.{head_size, stored_word, retired_mark, all_zero, bad_length, Judged, good, bad, by_reading}
use Rattle.golden.specs.Retired.{RetiredOne, RetireCountsOne}
use Rattle.golden.specs.WithoutMark.{message_before, judging_before, NoneRetired}
use Rattle.golden.specs.Retiring.{marked}
use Rattle.golden.specs.Theorems.{counted_number, RetiredAreFew}
use Rattle.golden.specs.declared.record.GoodRecord.{GoodRecord}
use Rattle.golden.specs.declared.refusal.Refusal.{Refusal}
use Rattle.golden.proofs.FileLaws.{whole_file}
use Rattle.golden.proofs.FindingLaws.{judged_bad, judged_good}
use Rattle.golden.proofs.RetiredLaws.{same_or_not, same_count, same_whole, retire_marks_one}
use Rattle.golden.proofs.RetiringLaws.{allowed}
use Rattle.golden.proofs.WithoutMarkLaws.{judged_same}

-- ---- as the loop meets it

-- an opened record is good and retired, or adds nothing
pub one_or_none : (f : List ℕ) (n : ℕ) (o : Result GoodRecord Refusal) (b : Bool) (marks : GoodRecord → Type 0) → ((g : GoodRecord) → marks g → b ≡ g.retired)
    → told_opening o ≡ opening (record_at f n) → MatchResult o marks (λ r. b ≡ false) → cond b 1 0 ≡ one_if_retired (judged_at f n)
one_or_none f n (Ok g) b marks one e m = rw ((judged_good f n _ _ _ e).0, one g m)
one_or_none f n (Err r) b marks one e m = rw (judged_bad f n _ e, m)

pub none_below : (f : List ℕ) → 0 ≡ retired_below f 0
unfolding retired_below
none_below f = refl

pub one_on : (f : List ℕ) (n before here : ℕ) → before ≡ retired_below f n → here ≡ one_if_retired (judged_at f n) → before + here ≡ retired_below f (n + 1)
unfolding retired_below
one_on f n before here e h = rw (add-one, e, h)

-- ---- how many

few : (f : List ℕ) (n : ℕ) → retired_below f n ≤ n
unfolding retired_below
few f zero = omega arith
few f (suc n) = by (judged_at f n) (few f n)
  where
    by : (j : Judged) → retired_below f n ≤ n → retired_below f n + one_if_retired j ≤ suc n
    by (good true fields) l = omega arith
    by (good false fields) l = omega arith
    by (bad r) l = omega arith

pub retired_are_few : RetiredAreFew
unfolding counting_retired
retired_are_few f = go (bad_file f) refl
  where
    go : (b : Bool) → bad_file f ≡ b → counted_number (cond b (refused (plainly 21)) (counted (retired_below f (count_of f)))) ≤ most_records
    go true e = omega arith
    go false e = let a = few f (count_of f) in let b = (whole_file f e).few in omega arith

-- ---- none, where no stored length has its top bit

no_mark : (r : List ℕ) → one_if_retired (judging_before r) ≡ 0
unfolding judging_before
no_mark r = by (bad_length (stored_word r)) (not (all_zero (drop (head_size + stored_word r) r))) (reading (message_before r))
  where
    by : (a b : Bool) (m : Answer) → one_if_retired (cond a (bad (plainly 23)) (cond b (bad (plainly 24)) (by_reading false m))) ≡ 0
    by true b m = refl
    by false true m = refl
    by false false (accepted fields) = refl
    by false false (envelope.refused r) = refl

none_marked : (f : List ℕ) (n : ℕ) → ((k : ℕ) → k < n → stored_word (record_at f k) < retired_mark) → retired_below f n ≡ 0
unfolding retired_below judged_at
none_marked f zero h = refl
none_marked f (suc n) h =
    rw (none_marked f n (λ k l. h k (omega arith)), judged_same (record_at f n) (h n (omega arith)), no_mark (record_at f n))

pub none_retired : NoneRetired
unfolding counting_retired
none_retired f h marks = rw (h, none_marked f (count_of f) marks)

-- ---- one more

module _ (f : List ℕ) (n : ℕ) (w : RetiredOne f n (marked f n)) where
  before_it : (k : ℕ) → k ≤ n → retired_below (marked f n) k ≡ retired_below f k
  unfolding retired_below
  before_it zero l = refl
  before_it (suc k) l = rw (w.others k (λ e. omega arith), before_it k (omega arith))

  behind_it : (k : ℕ) → n < k → retired_below (marked f n) k ≡ retired_below f k + 1
  unfolding retired_below
  behind_it zero l = absurd (omega arith)
  behind_it (suc k) l = by (same_or_not k n) (behind_it k)
    where
      by : Dec (k ≡ n) → (n < k → retired_below (marked f n) k ≡ retired_below f k + 1)
          → retired_below (marked f n) k + one_if_retired (judged_at (marked f n) k) ≡ retired_below f k + one_if_retired (judged_at f k) + 1
      by (yes e) again = rw (e, before_it n (omega arith), w.is, w.was) (omega arith)
      by (no ne) again =
          let q = again (past ne) in
          rw (w.others k ne, q) (omega arith)
        where
          past : (k ≡ n → ⊥) → n < k
          past ne = go (dec_lt n k)
            where
              go : Dec (n < k) → n < k
              go (yes d) = d
              go (no d) = absurd (ne (omega arith))

same_counted : (a b : ℕ) → counted a ≡ counted b → a ≡ b
same_counted a b e = cc

pub retire_counts_one : RetireCountsOne
unfolding counting_retired
retire_counts_one f n room m e c =
    let w = retire_marks_one f n room e in
    let a = allowed f n room e in
    let here : counted (retired_below f (count_of f)) ≡ counted m = rw a.whole at c in
    rw (same_whole f n w a.whole, same_count f n w, behind_it f n w (count_of f) a.there, same_counted (retired_below f (count_of f)) m here)
