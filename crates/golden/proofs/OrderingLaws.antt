-- The order of a file: as the loop meets it; its ways to end; and that it is the order of find by halving, both ways.
-- Inductions on the records that are left.
use mathlib.Core.Bool.{Bool, true, false, cond, not, ◌&&◌, ◌||◌}
use mathlib.Core.List.{List, [], ◌∷◌}
use mathlib.Core.Path.{◌≡◌, refl, ap, sym, ◌∙◌, subst}
use Prim.Native.Nat.{ℕ, zero, suc, ◌+◌, ◌-◌, ◌≤◌, ◌<◌}
use native.Mathlib.Omega.{arith}
use lib.Dec.{eqb, ltb}
use Rattle.std.proofs.lemmas.Bool.Decides.{nat_tests}
use Rattle.std.specs.Ordering.{nat_cmp, ordering_then, is_le}
use Rattle.std.specs.Prelude.{Option, Some, None, MatchOption}
use Rattle.envelope.proofs.PassLaws.{On, on_plainly}
use Rattle.envelope.specs.Fields.{Fields}
use Rattle.envelope.specs.Refusals.{Refused, plainly, Gives}
use Rattle.golden.specs.File.{most_records, bad_file, count_of, record_at, judged_at}
use Rattle.golden.specs.Finding.{NameFields, name_of, told_name}
use Rattle.golden.specs.Gives.{OrderGives}
use Rattle.golden.specs.Halved.{Ascending, AscendsIsAscending, AscendingAscends, InOrderTo, OrderReason, no_golden_file, bad_there, breaks_there, all_in_order, OrderGivesItsReason, order_number, order_place, OrderNamesFew, OrderPointsShort, OrderPassesOn}
use Rattle.golden.specs.Halving.{precedes}
use Rattle.golden.specs.Listing.{counting}
use Rattle.golden.specs.Listing as list
use Rattle.golden.specs.Ordering.{OrderAnswer, ascends, breaks, refused, in_place, unless_out, order_from, ordering}
use Rattle.golden.specs.Record.{message_room, message_of, Judged, good, bad}
use Rattle.golden.specs.Theorems.{GoodAt}
use Rattle.golden.specs.declared.finder.Name.{Name}
use Rattle.golden.proofs.CheckedLaws.{checked_are_sound}
use Rattle.golden.proofs.FileLaws.{whole_file, uncounted_so, one_more, judged_gives, InJudged}
use Rattle.golden.proofs.HalvingLaws.{earlier, from_earlier, neighbours_suffice}
use Rattle.golden.proofs.PassLaws.{bad_on}
use Rattle.golden.proofs.PointLaws.{bad_points}

-- ---- as the loop meets it

-- record k is good and has that name
pub record NameAt (f : List ℕ) (k : ℕ) (name : NameFields) : Type 0 where
  pub retired : Bool
  pub fields : Fields
  pub judged : judged_at f k ≡ good retired fields
  pub named : name_of fields ≡ name

-- so the one before record n, where there is one
abbrev pub LastBefore : List ℕ → ℕ → Option Name → Type 0
LastBefore f n None = n ≡ 0
LastBefore f n (Some last) = (k : ℕ) × (n ≡ suc k) × NameAt f k (told_name last)

-- none comes before each name
abbrev pub comes_after : Option Name → NameFields → Bool
comes_after None name = true
comes_after (Some last) name = precedes (told_name last) name

module _ (f : List ℕ) where
  pub order_21 : bad_file f ≡ true → refused 0 (plainly 21) ≡ ordering f
  unfolding ordering
  order_21 h = rw h

  pub order_all : bad_file f ≡ false → (x : OrderAnswer) → order_from f 0 (count_of f) ≡ x → x ≡ ordering f
  unfolding ordering
  order_all h x e = rw h (sym e)

  pub order_uncounted : (r : Refused) → list.refused r ≡ counting f → refused 0 r ≡ ordering f
  order_uncounted r e = let u = uncounted_so f r e in ap (refused 0) u.1 ∙ order_21 u.0

  pub order_on : (n count : ℕ) → n < count → (b : Bool) → in_place f n ≡ b → (j : Judged) → judged_at f n ≡ j
      → order_from f n (count - n) ≡ unless_out n b j (order_from f (n + 1) (count - (n + 1)))
  unfolding order_from
  order_on n count h b q j e =
      let k : count - n ≡ suc (count - (n + 1)) = omega arith in
      rw (k, e, q)

  pub order_end : (n count : ℕ) → count ≤ n → order_from f n (count - n) ≡ ascends
  unfolding order_from
  order_end n count h = let k : count - n ≡ 0 = omega arith in rw k

  pub placed : (n : ℕ) (last : Option Name) (retired : Bool) (fields : Fields) → judged_at f n ≡ good retired fields → LastBefore f n last
      → in_place f n ≡ comes_after last (name_of fields)
  unfolding in_place
  placed n None retired fields e before = rw before
  placed n (Some last) retired fields e before =
      let b = before.2 in
      let h = rw before.1 at e in
      rw (before.1, b.judged, h, b.named)

-- what the code's comparison of a name with the last says
not_upto : (a b c d : ℕ) → (ltb b a || (eqb b a && ltb d c)) ≡ not (is_le (ordering_then (nat_cmp a b) (nat_cmp c d)))
not_upto a b c d = grind (arith, nat_tests)

pub after_so : (own : Name) (last : Option Name) (b : Bool) (upto : Name → Type 0)
    → ((x : Name) → upto x → b ≡ is_le (ordering_then (nat_cmp own.message_type x.message_type) (nat_cmp own.number x.number)))
    → MatchOption last (b ≡ false) upto → comes_after last (told_name own) ≡ not b
unfolding precedes
after_so own None b upto one m = rw m
after_so own (Some last) b upto one m = rw (one last m) (not_upto own.message_type last.message_type own.number last.number)

-- ---- its ways to end

module _ (P : OrderAnswer → Type 0) (f : List ℕ) (up : P ascends) (out : (k : ℕ) → k < count_of f → P (breaks k))
    (at-bad : (k : ℕ) (r : Refused) → k < count_of f → judged_at f k ≡ bad r → P (refused k r)) where
  ends_at : (k : ℕ) → k < count_of f → (b : Bool) (j : Judged) → judged_at f k ≡ j → (others : OrderAnswer) → P others → P (unless_out k b j others)
  ends_at k l b (bad r) e others p = at-bad k r l e
  ends_at k l true (good retired fields) e others p = p
  ends_at k l false (good retired fields) e others p = out k l

  ends_from : (left k : ℕ) → k + left ≡ count_of f → P (order_from f k left)
  unfolding order_from
  ends_from zero k e = up
  ends_from (suc left) k e =
      ends_at k (omega arith) (in_place f k) (judged_at f k) refl (order_from f (k + 1) left) (ends_from left (k + 1) (omega arith))

  pub order_ends : P (refused 0 (plainly 21)) → P (ordering f)
  unfolding ordering
  order_ends p = by (bad_file f)
    where
      by : (b : Bool) → P (cond b (refused 0 (plainly 21)) (order_from f 0 (count_of f)))
      by true = p
      by false = ends_from (count_of f) 0 (omega arith)

abbrev InOrder : OrderAnswer → Type 0
InOrder ascends = Unit
InOrder (breaks n) = Unit
InOrder (refused n r) = Gives (21 ∷ 23 ∷ 24 ∷ []) (25 ∷ []) r

pub order_gives : OrderGives
order_gives f n r e =
    subst InOrder e
    (order_ends InOrder f tt (λ k l. tt)
    (λ k x l j. subst (InJudged (21 ∷ 23 ∷ 24 ∷ []) (25 ∷ []) refl refl refl) j (judged_gives (21 ∷ 23 ∷ 24 ∷ []) (25 ∷ []) refl refl refl f k))
    refl)

pub order_points_short : OrderPointsShort
order_points_short f =
    order_ends (λ (a : OrderAnswer). order_place a ≤ message_room) f (omega arith) (λ k l. omega arith) (λ k x l j. bad_points f k x j) (omega arith)

pub order_names_few : OrderNamesFew
order_names_few f = by (bad_file f) refl
  where
    few : bad_file f ≡ false → order_number (ordering f) ≤ most_records
    few h =
        let most = (whole_file f h).few in
        order_ends (λ (a : OrderAnswer). order_number a ≤ most_records) f (omega arith) (λ k l. omega (arith, most, l)) (λ k x l j. omega (arith, most, l)) (omega arith)

    by : (b : Bool) → bad_file f ≡ b → order_number (ordering f) ≤ most_records
    by true h = subst (λ (a : OrderAnswer). order_number a ≤ most_records) (order_21 f h) (omega arith)
    by false h = few h

abbrev OrderOn : List ℕ → OrderAnswer → Type 0
OrderOn f ascends = Unit
OrderOn f (breaks n) = Unit
OrderOn f (refused n r) = On (message_of (record_at f n)) r

pub order_passes_on : OrderPassesOn
order_passes_on f n number r e =
    subst (OrderOn f) e
    (order_ends (OrderOn f) f tt (λ k l. tt) (λ k x l j. bad_on f k x j) (on_plainly (message_of (record_at f 0)) 21))
    number
    r
    refl

-- ---- it is the order of find by halving

-- where one record decides for `ascends`, it is in place and the others do too
record GoesOn (b : Bool) (others : OrderAnswer) : Type 0 where
  in_place : b ≡ true
  rest : others ≡ ascends

goes_on : (k : ℕ) (b : Bool) (j : Judged) (others : OrderAnswer) → unless_out k b j others ≡ ascends → GoesOn b others
goes_on k b (bad r) others e = absurd (let z : ◌≡◌ {A = ℕ} 0 1 = cc in omega arith)
goes_on k true (good retired fields) others e = record { in_place = refl; rest = e }
goes_on k false (good retired fields) others e = absurd (let z : ◌≡◌ {A = ℕ} 0 1 = cc in omega arith)

all_in_place : (f : List ℕ) (left k : ℕ) → ((i : ℕ) → i < k → in_place f i ≡ true) → order_from f k left ≡ ascends → (i : ℕ) → i < k + left → in_place f i ≡ true
unfolding order_from
all_in_place f zero k before e i l = before i (omega arith)
all_in_place f (suc left) k before e i l =
    let g = goes_on k (in_place f k) (judged_at f k) (order_from f (k + 1) left) e in
    all_in_place f left (k + 1) (one_more (λ x. in_place f x ≡ true) k before g.in_place) g.rest i (omega arith)

pub ascends_is_ascending : AscendsIsAscending
unfolding in_place
ascends_is_ascending f n c o =
    let p = checked_are_sound f n c in
    let every = all_in_place f (count_of f) 0 (λ i l. absurd (omega arith)) (order_all f p.whole (order_from f 0 (count_of f)) refl ∙ o) in
    neighbours_suffice f n c (λ k p q a b l x y. earlier (name_of a) (name_of b) (rw (x, y) at (every (suc k) (omega arith))))

goes_over : (f : List ℕ) → ((k : ℕ) → k < count_of f → GoodAt f k) → ((k : ℕ) → k < count_of f → in_place f k ≡ true)
    → (left k : ℕ) → k + left ≡ count_of f → order_from f k left ≡ ascends
unfolding order_from
goes_over f records every zero k e = refl
goes_over f records every (suc left) k e =
    rw (every k (omega arith), (records k (omega arith)).judged) (goes_over f records every left (k + 1) (omega arith))

ordered : (f : List ℕ) → Ascending f → ((k : ℕ) → k < count_of f → GoodAt f k) → (k : ℕ) → k < count_of f → in_place f k ≡ true
unfolding in_place
ordered f o records zero l = refl
ordered f o records (suc k) l =
    let a = records k (omega arith) in
    let b = records (suc k) l in
    rw (a.judged, b.judged)
    (from_earlier (name_of a.fields) (name_of b.fields) (o k (suc k) a.retired b.retired a.fields b.fields (omega arith) l a.judged b.judged))

pub ascending_ascends : AscendingAscends
ascending_ascends f n c o =
    let p = checked_are_sound f n c in
    let count = p.count in
    let records : (k : ℕ) → k < count_of f → GoodAt f k = λ k l. p.sound.records k (omega (arith, count)) in
    sym (order_all f p.whole ascends (goes_over f records (ordered f o records) (count_of f) 0 (omega arith)))

-- ---- the reason

module _ (f : List ℕ) (h : bad_file f ≡ false) where
  reason_here : (k : ℕ) → k < count_of f → InOrderTo f k → (b : Bool) → in_place f k ≡ b → (j : Judged) → judged_at f k ≡ j → (others : OrderAnswer)
      → (InOrderTo f (k + 1) → OrderReason f others) → OrderReason f (unless_out k b j others)
  reason_here k l before b q (bad r) e others later = bad_there k r h l e before
  reason_here k l before true q (good retired fields) e others later =
      later
      (record {
        records = one_more (GoodAt f) k before.records (record { retired = retired; fields = fields; judged = e });
        placed = one_more (λ i. in_place f i ≡ true) k before.placed q;
      })
  reason_here k l before false q (good retired fields) e others later =
      breaks_there k h l (record { retired = retired; fields = fields; judged = e }) q before

  reason_from : (left k : ℕ) → k + left ≡ count_of f → InOrderTo f k → OrderReason f (order_from f k left)
  unfolding order_from
  reason_from zero k e before = let q : k ≡ count_of f = omega arith in all_in_order h (rw q at before)
  reason_from (suc left) k e before =
      reason_here k (omega arith) before (in_place f k) refl (judged_at f k) refl (order_from f (k + 1) left) (reason_from left (k + 1) (omega arith))

pub order_gives_its_reason : OrderGivesItsReason
unfolding ordering
order_gives_its_reason f = by (bad_file f) refl
  where
    by : (b : Bool) → bad_file f ≡ b → OrderReason f (cond b (refused 0 (plainly 21)) (order_from f 0 (count_of f)))
    by true h = no_golden_file h
    by false h = reason_from f h (count_of f) 0 (omega arith) (record { records = λ i l. absurd (omega arith); placed = λ i l. absurd (omega arith) })
