-- Find by halving. Its range always holds every record of the name, so an empty range says that there is none.
-- And each opening leaves less than half of the range, so eight are enough for 128.
use mathlib.Core.Bool.{Bool, true, false, cond, ◌&&◌, ◌||◌}
use mathlib.Core.List.{List}
use mathlib.Core.Logic.{inl, inr, ⊎_elim}
use mathlib.Core.Path.{◌≡◌, refl, sym, ap, ap₂, ◌∙◌}
use Prim.Native.Nat.{ℕ, zero, suc, ◌+◌, ◌-◌, ◌^◌, ◌≤◌, ◌<◌}
use native.Mathlib.Decide.{dec_lt}
use native.Mathlib.Nat.{pow-suc}
use native.Mathlib.Omega.{arith}
use borrow.Author.Tests.{ltb-true, lt-ltb, le-leb, lt-leb, leb-true, leb-false, eqb-true, eq-eqb}
use lib.Dec.{eqb, leb, ltb}
use Rattle.envelope.proofs.BoolLaws.{both, either, is_false, true_is_not_false}
use Rattle.envelope.specs.Fields.{Fields}
use Rattle.golden.specs.File.{bad_file, count_of, judged_at}
use Rattle.golden.specs.Finding.{NameFields, has_name, FindAnswer, found, refused, name_of, finding}
use Rattle.envelope.specs.Refusals.{Refused, plainly}
use Rattle.golden.specs.Halved.{Earlier, Ascending, NeighboursAscend, NeighboursSuffice, SameRecord, both_find, both_miss, HalvingFindsTheSame, TrueMatch, match, no_match, HalvingIsTrue, EightOpenings}
use Rattle.golden.specs.Halving.{precedes, half, decides_half, halving_from, halving}
use Rattle.golden.specs.Pairing.{is_named}
use Rattle.golden.specs.Record.{Judged, good, bad}
use Rattle.golden.specs.Theorems.{GoodAt, Sound, TheOne, opened_number}
use Rattle.golden.proofs.CheckedLaws.{checked_are_sound, finds_the_one, finds, finds_none}
use Rattle.golden.proofs.FileLaws.{whole_file}
use Rattle.golden.proofs.NameLaws.{named_so}

-- ---- the order of names

pub earlier : (a b : NameFields) → precedes a b ≡ true → Earlier a b
unfolding precedes
earlier a b e =
    ⊎_elim (λ h. inl (ltb-true _ _ h))
    (λ h. let p = both (eqb a.message_type b.message_type) (ltb a.number b.number) h in inr (eqb-true _ _ p.0, ltb-true _ _ p.1))
    (either (ltb a.message_type b.message_type) (eqb a.message_type b.message_type && ltb a.number b.number) e)

or-true : (b : Bool) → (b || true) ≡ true
or-true true = refl
or-true false = refl

pub from_earlier : (a b : NameFields) → Earlier a b → precedes a b ≡ true
unfolding precedes
from_earlier a b (inl h) = rw (lt-ltb a.message_type b.message_type h)
from_earlier a b (inr h) =
    rw (eq-eqb a.message_type b.message_type h.0, lt-ltb a.number b.number h.1) (or-true (ltb a.message_type b.message_type))

not_both : (a b : NameFields) → Earlier a b → Earlier b a → ⊥
not_both a b (inl h) (inl k) = omega arith
not_both a b (inl h) (inr k) = let z = k.0 in omega arith
not_both a b (inr h) (inl k) = let z = h.0 in omega arith
not_both a b (inr h) (inr k) = let x = h.1 in let y = k.1 in omega arith

chain : (a b c : NameFields) → Earlier a b → Earlier b c → Earlier a c
chain a b c (inl h) (inl k) = inl (omega arith)
chain a b c (inl h) (inr k) = let z = k.0 in inl (omega arith)
chain a b c (inr h) (inl k) = let z = h.0 in inl (omega arith)
chain a b c (inr h) (inr k) = let x = h.0 in let y = k.0 in let u = h.1 in let v = k.1 in inr (omega arith, omega arith)

pub precedes_one_way : (a b : NameFields) → precedes a b ≡ true → precedes b a ≡ true → ⊥
precedes_one_way a b h k = not_both a b (earlier a b h) (earlier b a k)

-- ---- what holds of each way to end holds of the answer

module _ (P : FindAnswer → Type 0) (f : List ℕ) (name : NameFields) (misses : (opened : ℕ) → P (refused (plainly 27) opened))
    (meets-bad : (k opened : ℕ) (r : Refused) → k < count_of f → judged_at f k ≡ bad r → P (refused r opened))
    (finds-one : (k opened : ℕ) → k < count_of f → P (found k opened)) where
  ends_here : (k opened : ℕ) → k < count_of f → (j : Judged) → judged_at f k ≡ j → (after before : FindAnswer) → P after → P before
      → P (decides_half name k opened j after before)
  ends_here k opened l (bad r) e after before a b = meets-bad k opened r l e
  ends_here k opened l (good ret fields) e after before a b = go ret (has_name name fields) (precedes (name_of fields) name)
    where
      go : (r h p : Bool) → P (cond h (cond r (refused (plainly 27) opened) (found k opened)) (cond p after before))
      go true true p = misses opened
      go false true p = finds-one k opened l
      go r false true = a
      go r false false = b

  ends_from : (most first end opened : ℕ) → end ≤ count_of f → P (halving_from f name most first end opened)
  unfolding halving_from
  ends_from zero first end opened l = misses opened
  ends_from (suc most) first end opened l =
      go (leb end first) refl (ends_from most (half first end + 1) end (opened + 1) l) (λ m. ends_from most first (half first end) (opened + 1) m)
    where
      go : (b : Bool) → leb end first ≡ b → P (halving_from f name most (half first end + 1) end (opened + 1))
          → (half first end ≤ count_of f → P (halving_from f name most first (half first end) (opened + 1)))
          → P
          (cond b (refused (plainly 27) opened)
          (decides_half name (half first end) (opened + 1) (judged_at f (half first end))
          (halving_from f name most (half first end + 1) end (opened + 1))
          (halving_from f name most first (half first end) (opened + 1))))
      go true e up down = misses opened
      go false e up down =
          let q = leb-false end first e in
          ends_here (half first end) (opened + 1) (omega arith) (judged_at f (half first end)) refl _ _ up (down (omega arith))

  pub halving_ends : P (refused (plainly 21) 0) → P (halving f name)
  unfolding halving
  halving_ends no_file = go (bad_file f)
    where
      go : (b : Bool) → P (cond b (refused (plainly 21) 0) (halving_from f name (count_of f) 0 (count_of f) 0))
      go true = no_file
      go false = ends_from (count_of f) 0 (count_of f) 0 (omega arith)

-- ---- in any file

module _ (f : List ℕ) (name : NameFields) (h : bad_file f ≡ false) where
  true_here : (k opened : ℕ) → k < count_of f → (j : Judged) → judged_at f k ≡ j → (after before : FindAnswer)
      → TrueMatch f name after → TrueMatch f name before → TrueMatch f name (decides_half name k opened j after before)
  true_here k opened l (bad r) e after before ta tb = no_match r opened
  true_here k opened l (good ret fields) e after before ta tb = go ret refl (has_name name fields) refl (precedes (name_of fields) name)
    where
      go : (c : Bool) → ret ≡ c → (b : Bool) → has_name name fields ≡ b → (p : Bool)
          → TrueMatch f name (cond b (cond c (refused (plainly 27) opened) (found k opened)) (cond p after before))
      go true ec true eb p = no_match (plainly 27) opened
      go false ec true eb p = match k opened h l (rw (e, ec) eb)
      go c ec false eb true = ta
      go c ec false eb false = tb

  true_from : (most first end opened : ℕ) → end ≤ count_of f → TrueMatch f name (halving_from f name most first end opened)
  unfolding halving_from
  true_from zero first end opened l = no_match (plainly 27) opened
  true_from (suc most) first end opened l =
      go (leb end first) refl (true_from most (half first end + 1) end (opened + 1) l) (λ m. true_from most first (half first end) (opened + 1) m)
    where
      go : (b : Bool) → leb end first ≡ b
          → TrueMatch f name (halving_from f name most (half first end + 1) end (opened + 1))
          → (half first end ≤ count_of f → TrueMatch f name (halving_from f name most first (half first end) (opened + 1)))
          → TrueMatch f name
          (cond b (refused (plainly 27) opened)
          (decides_half name (half first end) (opened + 1) (judged_at f (half first end))
          (halving_from f name most (half first end + 1) end (opened + 1))
          (halving_from f name most first (half first end) (opened + 1))))
      go true e up down = no_match (plainly 27) opened
      go false e up down =
          let q = leb-false end first e in
          true_here (half first end) (opened + 1) (omega arith) (judged_at f (half first end)) refl _ _ up (down (omega arith))

pub halving_is_true : HalvingIsTrue
unfolding halving
halving_is_true f name = go (bad_file f) refl
  where
    go : (b : Bool) → bad_file f ≡ b → TrueMatch f name (cond b (refused (plainly 21) 0) (halving_from f name (count_of f) 0 (count_of f) 0))
    go true e = no_match (plainly 21) 0
    go false e = true_from f name e (count_of f) 0 (count_of f) 0 (omega arith)

-- ---- eight openings

few_here : (name : NameFields) (k opened bound : ℕ) (j : Judged) (after before : FindAnswer) → opened ≤ bound
    → opened_number after ≤ bound → opened_number before ≤ bound → opened_number (decides_half name k opened j after before) ≤ bound
few_here name k opened bound (bad r) after before l a b = l
few_here name k opened bound (good ret fields) after before l a b = go ret (has_name name fields) (precedes (name_of fields) name)
  where
    go : (r h p : Bool) → opened_number (cond h (cond r (refused (plainly 27) opened) (found k opened)) (cond p after before)) ≤ bound
    go true true p = l
    go false true p = l
    go r false true = a
    go r false false = b

-- a range of fewer than 2^d records is settled by d openings
few_from : (f : List ℕ) (name : NameFields) (most d first end opened : ℕ) → end - first < 2 ^ d
    → opened_number (halving_from f name most first end opened) ≤ opened + d
unfolding halving_from
few_from f name zero d first end opened l = omega arith
few_from f name (suc most) d first end opened l =
    go (leb end first) refl d l (λ d. few_from f name most d (half first end + 1) end (opened + 1)) (λ d. few_from f name most d first (half first end) (opened + 1))
  where
    go : (b : Bool) → leb end first ≡ b → (d : ℕ) → end - first < 2 ^ d
        → ((d : ℕ) → end - (half first end + 1) < 2 ^ d → opened_number (halving_from f name most (half first end + 1) end (opened + 1)) ≤ opened + 1 + d)
        → ((d : ℕ) → half first end - first < 2 ^ d → opened_number (halving_from f name most first (half first end) (opened + 1)) ≤ opened + 1 + d)
        → opened_number
        (cond b (refused (plainly 27) opened)
        (decides_half name (half first end) (opened + 1) (judged_at f (half first end))
        (halving_from f name most (half first end + 1) end (opened + 1))
        (halving_from f name most first (half first end) (opened + 1))))
        ≤ opened + d
    go true e d l up down = omega arith
    go false e zero l up down = let q = leb-false end first e in absurd (omega arith)
    go false e (suc d) l up down =
        let q = leb-false end first e in
        let w = pow-suc 2 d in
        let a = up d (omega arith) in
        let b = down d (omega arith) in
        few_here name (half first end) (opened + 1) (opened + suc d) (judged_at f (half first end)) _ _ (omega arith) (omega (arith, a)) (omega (arith, b))

pub eight_openings : EightOpenings
unfolding halving
eight_openings f name = go (bad_file f) refl
  where
    go : (b : Bool) → bad_file f ≡ b
        → opened_number (cond b (refused (plainly 21) 0) (halving_from f name (count_of f) 0 (count_of f) 0)) ≤ 8
    go true e = omega arith
    go false e = let h = (whole_file f e).few in few_from f name (count_of f) 8 0 (count_of f) 0 (omega arith)

-- ---- in a file that passed and stands in order

-- a record of the name, retired or not
abbrev bears : NameFields → Judged → Bool
bears name (good ret fields) = has_name name fields
bears name (bad r) = false

named_bears : (name : NameFields) (j : Judged) → is_named name j ≡ true → bears name j ≡ true
named_bears name (good true fields) e = absurd (true_is_not_false e refl)
named_bears name (good false fields) e = e
named_bears name (bad r) e = e

record Bears (name : NameFields) (j : Judged) : Type 0 where
  retired : Bool
  fields : Fields
  judged : j ≡ good retired fields
  name_is : name_of fields ≡ name

borne : (name : NameFields) (j : Judged) → bears name j ≡ true → Bears name j
borne name (good ret fields) e = record { retired = ret; fields = fields; judged = refl; name_is = named_so name fields e }
borne name (bad r) e = absurd (true_is_not_false e refl)

data Settled (f : List ℕ) (name : NameFields) (n : ℕ) : FindAnswer → Type 0 where
  at : (k opened : ℕ) → k < n → is_named name (judged_at f k) ≡ true → Settled f name n (found k opened)
  nowhere : (opened : ℕ) → ((i : ℕ) → i < n → is_named name (judged_at f i) ≡ false) → Settled f name n (refused (plainly 27) opened)

module _ (f : List ℕ) (name : NameFields) (records : (k : ℕ) → k < count_of f → GoodAt f k) (ordered : Ascending f) where
  -- every record of the name stands in the range
  abbrev Inside : ℕ → ℕ → Type 0
  Inside first end = (i : ℕ) → i < count_of f → bears name (judged_at f i) ≡ true → (first ≤ i) × (i < end)

  empty : (first end opened : ℕ) → end ≤ first → Inside first end → Settled f name (count_of f) (refused (plainly 27) opened)
  empty first end opened l inside =
      nowhere opened
      (λ i m. is_false _ (λ q. let w = inside i m (named_bears name (judged_at f i) q) in let a = w.0 in let b = w.1 in omega arith))

  -- the record opened: `mid`, good, with these fields
  module _ (mid : ℕ) (l : mid < count_of f) (ret : Bool) (fields : Fields) (j : judged_at f mid ≡ good ret fields) where
    -- a record of the name before mid precedes it, one after mid comes after it
    before_mid : (i : ℕ) → i < mid → Bears name (judged_at f i) → precedes name (name_of fields) ≡ true
    before_mid i b w = ap (λ (x : NameFields). precedes x (name_of fields)) (sym w.name_is) ∙ from_earlier _ _ (ordered i mid w.retired ret w.fields fields b l w.judged j)

    after_mid : (i : ℕ) → mid < i → i < count_of f → Bears name (judged_at f i) → precedes (name_of fields) name ≡ true
    after_mid i b m w = ap (λ (x : NameFields). precedes (name_of fields) x) (sym w.name_is) ∙ from_earlier _ _ (ordered mid i ret w.retired fields w.fields b m j w.judged)

    -- where mid itself has the name, no other record has
    only_mid : has_name name fields ≡ true → (i : ℕ) → i < count_of f → bears name (judged_at f i) ≡ true → i ≡ mid
    only_mid q i m b = by (dec_lt i mid) (dec_lt mid i)
      where
        w : Bears name (judged_at f i)
        w = borne name (judged_at f i) b

        same : name_of fields ≡ name
        same = named_so name fields q

        twice : precedes name name ≡ true → ⊥
        twice p = precedes_one_way name name p p

        by : Dec (i < mid) → Dec (mid < i) → i ≡ mid
        by (yes x) y = absurd (twice (ap (λ (z : NameFields). precedes name z) (sym same) ∙ before_mid i x w))
        by (no x) (yes y) = absurd (twice (ap (λ (z : NameFields). precedes z name) (sym same) ∙ after_mid i y m w))
        by (no x) (no y) = omega arith

    not_mid : has_name name fields ≡ false → (i : ℕ) → bears name (judged_at f i) ≡ true → i ≡ mid → ⊥
    not_mid q i b e =
        let c : bears name (judged_at f mid) ≡ true = rw e at b in
        true_is_not_false (ap (bears name) (sym j) ∙ c) q

    narrow_up : (first end : ℕ) → Inside first end → has_name name fields ≡ false → precedes (name_of fields) name ≡ true → Inside (mid + 1) end
    narrow_up first end inside q p i m b = (by (dec_lt mid i) (dec_lt i mid), (inside i m b).1)
      where
        by : Dec (mid < i) → Dec (i < mid) → mid + 1 ≤ i
        by (yes x) y = omega arith
        by (no x) (yes y) = absurd (precedes_one_way (name_of fields) name p (before_mid i y (borne name (judged_at f i) b)))
        by (no x) (no y) = absurd (not_mid q i b (omega arith))

    narrow_down : (first end : ℕ) → Inside first end → has_name name fields ≡ false → precedes (name_of fields) name ≡ false → Inside first mid
    narrow_down first end inside q p i m b = ((inside i m b).0, by (dec_lt i mid) (dec_lt mid i))
      where
        by : Dec (i < mid) → Dec (mid < i) → i < mid
        by (yes x) y = x
        by (no x) (yes y) = absurd (true_is_not_false (after_mid i y m (borne name (judged_at f i) b)) p)
        by (no x) (no y) = absurd (not_mid q i b (omega arith))

    retired_miss : ret ≡ true → has_name name fields ≡ true → (i : ℕ) → i < count_of f → is_named name (judged_at f i) ≡ false
    retired_miss r q i m =
        is_false _
        (λ t.
        let e = only_mid q i m (named_bears name (judged_at f i) t) in
        let c : is_named name (judged_at f mid) ≡ true = rw e at t in
        true_is_not_false c (rw (j, r)))

    settled_here : (opened first end : ℕ) → Inside first end → (after before : FindAnswer)
        → (Inside (mid + 1) end → Settled f name (count_of f) after) → (Inside first mid → Settled f name (count_of f) before)
        → Settled f name (count_of f) (decides_half name mid opened (good ret fields) after before)
    settled_here opened first end inside after before sa sb = go ret refl (has_name name fields) refl (precedes (name_of fields) name) refl
      where
        go : (c : Bool) → ret ≡ c → (b : Bool) → has_name name fields ≡ b → (p : Bool) → precedes (name_of fields) name ≡ p
            → Settled f name (count_of f) (cond b (cond c (refused (plainly 27) opened) (found mid opened)) (cond p after before))
        go true ec true eb p ep = nowhere opened (retired_miss ec eb)
        go false ec true eb p ep = at mid opened l (rw (j, ec) eb)
        go c ec false eb true ep = sa (narrow_up first end inside eb ep)
        go c ec false eb false ep = sb (narrow_down first end inside eb ep)

  settled_from : (most first end opened : ℕ) → end ≤ count_of f → end - first ≤ most → Inside first end
      → Settled f name (count_of f) (halving_from f name most first end opened)
  unfolding halving_from
  settled_from zero first end opened l m inside = empty first end opened (omega arith) inside
  settled_from (suc most) first end opened l m inside =
      go (leb end first) refl (settled_from most (half first end + 1) end (opened + 1) l) (λ u. settled_from most first (half first end) (opened + 1) u)
    where
      go : (b : Bool) → leb end first ≡ b
          → (end - (half first end + 1) ≤ most → Inside (half first end + 1) end → Settled f name (count_of f) (halving_from f name most (half first end + 1) end (opened + 1)))
          → (half first end ≤ count_of f → half first end - first ≤ most → Inside first (half first end)
          → Settled f name (count_of f) (halving_from f name most first (half first end) (opened + 1)))
          → Settled f name (count_of f)
          (cond b (refused (plainly 27) opened)
          (decides_half name (half first end) (opened + 1) (judged_at f (half first end))
          (halving_from f name most (half first end + 1) end (opened + 1))
          (halving_from f name most first (half first end) (opened + 1))))
      go true e up down = empty first end opened (leb-true end first e) inside
      go false e up down =
          let q = leb-false end first e in
          let here = records (half first end) (omega arith) in
          rw here.judged
          (settled_here (half first end) (omega arith) here.retired here.fields here.judged (opened + 1) first end inside
          (halving_from f name most (half first end + 1) end (opened + 1))
          (halving_from f name most first (half first end) (opened + 1))
          (up (omega arith))
          (down (omega arith) (omega arith)))

settled : (f : List ℕ) (name : NameFields) → bad_file f ≡ false → Sound f (count_of f) → Ascending f → Settled f name (count_of f) (halving f name)
unfolding halving
settled f name h s o =
    rw h (settled_from f name s.records o (count_of f) 0 (count_of f) 0 (omega arith) (omega arith) (λ i l b. (omega arith, l)))

same_record : (f : List ℕ) (name : NameFields) (n : ℕ) (a b : FindAnswer) → Settled f name n a → TheOne f name n b → SameRecord a b
same_record f name n _ b (at k opened l q) t = rw (finds f name n b t k l q) (both_find k opened (k + 1))
same_record f name n _ b (nowhere opened u) t = rw (finds_none f name n b t u) (both_miss opened n)

pub halving_finds_the_same : HalvingFindsTheSame
halving_finds_the_same f name n e o =
    let p = checked_are_sound f n e in
    let c = p.count in
    let s : Sound f (count_of f) = rw c at p.sound in
    let t : TheOne f name (count_of f) (finding f name) = rw c at (finds_the_one f name n e) in
    same_record f name (count_of f) (halving f name) (finding f name) (settled f name p.whole s o) t

-- ---- order asked of neighbours alone

module _ (f : List ℕ) (records : (k : ℕ) → k < count_of f → GoodAt f k) (near : NeighboursAscend f) where
  ascend : (k i : ℕ) (p q : Bool) (a b : Fields) → i < k → k < count_of f → judged_at f i ≡ good p a → judged_at f k ≡ good q b
      → Earlier (name_of a) (name_of b)
  ascend zero i p q a b h l x y = absurd (omega arith)
  ascend (suc k) i p q a b h l x y = by (dec_lt i k) (records k (omega arith)) (λ q' b' m. ascend k i p q' a b' m)
    where
      by : Dec (i < k) → GoodAt f k
          → ((q' : Bool) (b' : Fields) → i < k → k < count_of f → judged_at f i ≡ good p a → judged_at f k ≡ good q' b' → Earlier (name_of a) (name_of b'))
          → Earlier (name_of a) (name_of b)
      by (yes m) here again =
          chain (name_of a) (name_of here.fields) (name_of b)
          (again here.retired here.fields m (omega arith) x here.judged)
          (near k here.retired q here.fields b l here.judged y)
      by (no m) here again = let e : i ≡ k = omega arith in near k p q a b l (rw e at x) y

pub neighbours_suffice : NeighboursSuffice
neighbours_suffice f n e near i k p q a b h l x y =
    let c = checked_are_sound f n e in
    let s : Sound f (count_of f) = rw c.count at c.sound in
    ascend f s.records near k i p q a b h l x y

-- ---- as a loop meets it: the bound on the halvings to come is of no matter, once it is the range's size

module _ (f : List ℕ) (name : NameFields) where
  same_most : (most other first end opened : ℕ) → end - first ≤ most → end - first ≤ other
      → halving_from f name most first end opened ≡ halving_from f name other first end opened
  unfolding halving_from
  same_most zero zero first end opened l m = refl
  same_most zero (suc other) first end opened l m = rw (le-leb end first (omega arith))
  same_most (suc most) zero first end opened l m = rw (le-leb end first (omega arith))
  same_most (suc most) (suc other) first end opened l m =
      go (leb end first) refl (same_most most other (half first end + 1) end (opened + 1)) (same_most most other first (half first end) (opened + 1))
    where
      go : (b : Bool) → leb end first ≡ b
          → (end - (half first end + 1) ≤ most → end - (half first end + 1) ≤ other
          → halving_from f name most (half first end + 1) end (opened + 1) ≡ halving_from f name other (half first end + 1) end (opened + 1))
          → (half first end - first ≤ most → half first end - first ≤ other
          → halving_from f name most first (half first end) (opened + 1) ≡ halving_from f name other first (half first end) (opened + 1))
          → cond b (refused (plainly 27) opened)
          (decides_half name (half first end) (opened + 1) (judged_at f (half first end))
          (halving_from f name most (half first end + 1) end (opened + 1))
          (halving_from f name most first (half first end) (opened + 1)))
          ≡ cond b (refused (plainly 27) opened)
          (decides_half name (half first end) (opened + 1) (judged_at f (half first end))
          (halving_from f name other (half first end + 1) end (opened + 1))
          (halving_from f name other first (half first end) (opened + 1)))
      go true e up down = refl
      go false e up down =
          let q = leb-false end first e in
          ap₂ (λ (x y : FindAnswer). decides_half name (half first end) (opened + 1) (judged_at f (half first end)) x y)
          (up (omega arith) (omega arith))
          (down (omega arith) (omega arith))

  pub halving_21 : bad_file f ≡ true → refused (plainly 21) 0 ≡ halving f name
  unfolding halving
  halving_21 h = rw h

  pub halving_start : bad_file f ≡ false → halving f name ≡ halving_from f name (count_of f - 0) 0 (count_of f) 0
  unfolding halving
  halving_start h = rw h (ap (λ (k : ℕ). halving_from f name k 0 (count_of f) 0) (omega arith))

  pub halving_end : (first end opened : ℕ) → end ≤ first → halving_from f name (end - first) first end opened ≡ refused (plainly 27) opened
  unfolding halving_from
  halving_end first end opened l = let z : end - first ≡ 0 = omega arith in rw z

  pub halving_on : (first end opened : ℕ) → first < end → (j : Judged) → judged_at f (half first end) ≡ j
      → halving_from f name (end - first) first end opened
      ≡ decides_half name (half first end) (opened + 1) j
      (halving_from f name (end - (half first end + 1)) (half first end + 1) end (opened + 1))
      (halving_from f name (half first end - first) first (half first end) (opened + 1))
  unfolding halving_from
  halving_on first end opened l j e =
      let z : end - first ≡ suc (end - first - 1) = omega arith in
      rw (z, lt-leb end first l, e)
      (ap₂ (λ (x y : FindAnswer). decides_half name (half first end) (opened + 1) j x y)
      (same_most (end - first - 1) (end - (half first end + 1)) (half first end + 1) end (opened + 1) (omega arith) (omega arith))
      (same_most (end - first - 1) (half first end - first) first (half first end) (opened + 1) (omega arith) (omega arith)))
