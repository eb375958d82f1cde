-- Find gives its reason in any file, and each reason settles its answer: induction on the records that are left.
use mathlib.Core.Bool.{Bool, true, false, cond}
use mathlib.Core.List.{List, [], ◌∷◌}
use mathlib.Core.Path.{◌≡◌, refl, ap, sym, ◌∙◌, subst}
use Prim.Native.Nat.{ℕ, zero, suc, ◌+◌, ◌-◌, ◌≤◌, ◌<◌}
use native.Mathlib.Omega.{arith}
use Rattle.envelope.proofs.BoolLaws.{true_is_not_false}
use Rattle.envelope.specs.Fields.{Fields}
use Rattle.envelope.specs.Refusals.{Refused, plainly, numbers_of, Gives}
use Rattle.golden.specs.File.{bad_file, count_of, judged_at}
use Rattle.golden.specs.Finding.{NameFields, has_name, FindAnswer, found, refused, decides, find_from, finding}
use Rattle.golden.specs.Pairing.{is_named}
use Rattle.golden.specs.Record.{Judged, good, bad}
use Rattle.golden.specs.Theorems.{NotNamed, FindReason, no_file, first_bad, first_named_lem, none_named, FindGivesItsReason, ReasonSettlesFind}
use Rattle.golden.proofs.FileLaws.{one_more, bad_gives}

-- ---- the reason

module _ (f : List ℕ) (name : NameFields) where
  -- all records before k are good, and retired or of another name
  abbrev Before : ℕ → Type 0
  Before k = (i : ℕ) → i < k → NotNamed f name i

  module _ (h : bad_file f ≡ false) where
    reason_here : (k : ℕ) → k < count_of f → Before k → (j : Judged) → judged_at f k ≡ j → (others : FindAnswer)
        → (Before (k + 1) → FindReason f name others) → FindReason f name (decides name k j others)
    reason_here k l before (bad r) e others later = first_bad k r h l e before
    reason_here k l before (good true fields) e others later =
        later (one_more (NotNamed f name) k before (record { retired = true; fields = fields; judged = e; other = refl }))
    reason_here k l before (good false fields) e others later = by (has_name name fields) refl
      where
        by : (b : Bool) → has_name name fields ≡ b → FindReason f name (cond b (found k (k + 1)) others)
        by true q = first_named_lem k fields h l e q before
        by false q = later (one_more (NotNamed f name) k before (record { retired = false; fields = fields; judged = e; other = q }))

    reason_from : (left k : ℕ) → k + left ≡ count_of f → Before k → FindReason f name (find_from f name k left)
    unfolding find_from
    reason_from zero k e before = let q : k ≡ count_of f = omega arith in rw q (none_named h (rw q at before))
    reason_from (suc left) k e before =
        reason_here k (omega arith) before (judged_at f k) refl (find_from f name (k + 1) left) (reason_from left (k + 1) (omega arith))

pub find_gives_its_reason : FindGivesItsReason
unfolding finding
find_gives_its_reason f name = by (bad_file f) refl
  where
    by : (b : Bool) → bad_file f ≡ b → FindReason f name (cond b (refused (plainly 21) 0) (find_from f name 0 (count_of f)))
    by true e = no_file e
    by false e = reason_from f name e (count_of f) 0 (omega arith) (λ i l. absurd (omega arith))

-- ---- and back

module _ (f : List ℕ) (name : NameFields) where
  -- records that are good, and retired or of another name, are passed over
  passed_over : (k start left : ℕ) → ((i : ℕ) → start ≤ i → i < start + k → NotNamed f name i)
      → find_from f name start (k + left) ≡ find_from f name (start + k) left
  unfolding find_from
  passed_over zero start left before =
      let none : 0 + left ≡ left = omega arith in
      let here : start + 0 ≡ start = omega arith in
      rw (none, here)
  passed_over (suc k) start left before =
      let more : suc k + left ≡ suc (k + left) = omega arith in
      let this = before start (omega arith) (omega arith) in
      let on : start + 1 + k ≡ start + suc k = omega arith in
      rw (more, this.judged, this.other) (rw on at (passed_over k (start + 1) left (λ i a b. before i (omega arith) (omega arith))))

  module _ (k : ℕ) (h : bad_file f ≡ false) (before : (i : ℕ) → i < k → NotNamed f name i) where
    find_goes_to : (left : ℕ) → k + left ≡ count_of f → finding f name ≡ find_from f name k left
    unfolding finding
    find_goes_to left e = rw (h, ← e) (passed_over k 0 left (λ i a b. before i (omega arith)) ∙ ap (λ (n : ℕ). find_from f name n left) (omega arith))

    find_decides : (j : Judged) → k < count_of f → judged_at f k ≡ j
        → finding f name ≡ decides name k j (find_from f name (k + 1) (count_of f - (k + 1)))
    unfolding find_from
    find_decides j l e = find_goes_to (suc (count_of f - (k + 1))) (omega arith) ∙ ap (λ (x : Judged). decides name k x (find_from f name (k + 1) (count_of f - (k + 1)))) e

    find_ends : k ≡ count_of f → finding f name ≡ refused (plainly 27) k
    unfolding find_from
    find_ends e = find_goes_to 0 (omega arith)

pub reason_settles_find : ReasonSettlesFind
unfolding finding
reason_settles_find f name _ (no_file h) = rw h
reason_settles_find f name _ (first_bad k r h l e before) = find_decides f name k h before (bad r) l e
reason_settles_find f name _ (first_named_lem k fields h l e q before) = find_decides f name k h before (good false fields) l e ∙ rw q
reason_settles_find f name _ (none_named h others) = find_ends f name (count_of f) h others refl

-- ---- the reason of one answer

-- of a record that was passed over, the fields have another name, if it is live
pub other_name : (f : List ℕ) (name : NameFields) (k : ℕ) (fields : Fields) → NotNamed f name k → judged_at f k ≡ good false fields → has_name name fields ≡ false
other_name f name k fields o j = ap (is_named name) (sym j ∙ o.judged) ∙ o.other

-- record k is the first live one of the name
pub record First (f : List ℕ) (name : NameFields) (k : ℕ) : Type 0 where
  pub whole : bad_file f ≡ false
  pub there : k < count_of f
  pub fields : Fields
  pub judged : judged_at f k ≡ good false fields
  pub named : has_name name fields ≡ true
  pub before : (i : ℕ) → i < k → NotNamed f name i

pub found_is_first : (f : List ℕ) (name : NameFields) (k opened : ℕ) → finding f name ≡ found k opened → First f name k × (opened ≡ k + 1)
found_is_first f name k opened e = by (finding f name) (find_gives_its_reason f name) e
  where
    by : (a : FindAnswer) → FindReason f name a → a ≡ found k opened → First f name k × (opened ≡ k + 1)
    by _ (no_file h) q = absurd (let z : ◌≡◌ {A = ℕ} 0 1 = cc in omega arith)
    by _ (first_bad i r h l j before) q = absurd (let z : ◌≡◌ {A = ℕ} 0 1 = cc in omega arith)
    by _ (first_named_lem i fields h l j n before) q =
        let same : i ≡ k = cc in
        let count : i + 1 ≡ opened = cc in
        (rw (← same) (record { whole = h; there = l; fields = fields; judged = j; named = n; before = before }), omega arith)
    by _ (none_named h others) q = absurd (let z : ◌≡◌ {A = ℕ} 0 1 = cc in omega arith)

-- no live record has the name, and all are good
pub record Missing (f : List ℕ) (name : NameFields) : Type 0 where
  pub whole : bad_file f ≡ false
  pub others : (i : ℕ) → i < count_of f → NotNamed f name i

same_refusal : (r s : Refused) (m n : ℕ) → refused r m ≡ refused s n → (r ≡ s) × (m ≡ n)
same_refusal r s m n e = (cc, cc)

pub missing_27 : (f : List ℕ) (name : NameFields) (opened : ℕ) → finding f name ≡ refused (plainly 27) opened → Missing f name × (opened ≡ count_of f)
missing_27 f name opened e = by (finding f name) (find_gives_its_reason f name) e
  where
    by : (a : FindAnswer) → FindReason f name a → a ≡ refused (plainly 27) opened → Missing f name × (opened ≡ count_of f)
    by _ (no_file h) q = absurd (let z = ap (λ (x : Refused). (numbers_of x).number) (same_refusal (plainly 21) (plainly 27) 0 opened q).0 in omega (arith, z))
    by _ (first_bad k r h l j before) q =
        absurd (true_is_not_false (subst (Gives (23 ∷ 24 ∷ []) (25 ∷ [])) (same_refusal r (plainly 27) (k + 1) opened q).0 (bad_gives f k r j)) refl)
    by _ (first_named_lem k fields h l j n before) q = absurd (let z : ◌≡◌ {A = ℕ} 0 1 = cc in omega arith)
    by _ (none_named h others) q =
        let z = (same_refusal (plainly 27) (plainly 27) (count_of f) opened q).1 in
        (record { whole = h; others = others }, omega (arith, z))
