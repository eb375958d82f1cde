-- What `same` says: the messages have the same bytes.
-- No place that is selected: none differs, so the lengths and the bytes are the same.
use mathlib.Core.Bool.{true, false, not, ◌||◌}
use mathlib.Core.List.{List, [], ◌∷◌}
use mathlib.Core.Path.{◌≡◌, refl}
use Prim.Native.Nat.{ℕ, ◌<◌}
use native.Mathlib.Decide.{dec_lt}
use native.Mathlib.Omega.{arith}
use borrow.Author.Tests.{eqb-true, ne_eqb, not-false, leb-false, lt-ltb, le-ltb}
use lib.Dec.{eqb, leb}
use lib.ListN.{length, get_or}
use lib.Seq.{ext_get_or}
use Rattle.envelope.proofs.BoolLaws.{neither, past}
use Rattle.envelope.specs.Fields.{Answer, accepted}
use Rattle.envelope.specs.Fields as envelope
use Rattle.envelope.specs.Reading.{reading}
use Rattle.envelope.specs.Refusals.{Refused}
use Rattle.golden.specs.Comparing.{differs_at, longer, differing, CompareOutcome, positions, refused, with_radio, with_record, comparing, same, different, answer_to_comparing}
use Rattle.golden.specs.File.{bad_file, not_there, record_at, judged_at}
use Rattle.golden.specs.Record.{Judged, good, bad, message_of}
use Rattle.golden.specs.Theorems.{SameIsEqual}
use Rattle.golden.proofs.SelectLaws.{none_selected}

module _ (g r : List ℕ) (e : differing g r ≡ []) where
  no_difference : (k : ℕ) → k < longer g r → differs_at g r k ≡ false
  unfolding differing
  no_difference k h = none_selected (differs_at g r) 0 (longer g r) k e (omega arith) (omega arith)

  in_both : (k : ℕ) → k < longer g r → (k < length g) × (k < length r) × (get_or g k 0 ≡ get_or r k 0)
  unfolding differs_at
  in_both k h =
      let outer = neither (leb (length g) k) (leb (length r) k || not (eqb (get_or g k 0) (get_or r k 0))) (no_difference k h) in
      let inner = neither (leb (length r) k) (not (eqb (get_or g k 0) (get_or r k 0))) outer.1 in
      (leb-false (length g) k outer.0, leb-false (length r) k inner.0, eqb-true (get_or g k 0) (get_or r k 0) (not-false _ inner.1))

  equal_messages : g ≡ r
  equal_messages = by (dec_lt (length g) (length r)) (dec_lt (length r) (length g))
    where
      by : Dec (length g < length r) → Dec (length r < length g) → g ≡ r
      by (yes l) b = absurd (let x = (in_both (length g) (rw (lt-ltb (length g) (length r) l) l)).0 in omega arith)
      by (no l) (yes m) = absurd (let x = (in_both (length r) (rw (le-ltb (length g) (length r) (omega arith)) m)).1 in omega arith)
      by (no l) (no m) =
          let lengths : length g ≡ length r = omega arith in
          ext_get_or 0 g r lengths (λ k h. (in_both k (rw (le-ltb (length g) (length r) (omega arith)) h)).2)

-- an outcome that is told as same has no position
no_position : (o : CompareOutcome) → answer_to_comparing o ≡ same → o ≡ positions []
unfolding answer_to_comparing
no_position (positions []) e = refl
no_position (positions (k ∷ ks)) e =
    let d : different (length (k ∷ ks)) ≡ same = rw (ne_eqb (length (k ∷ ks)) 0 (λ h. omega arith)) at e in
    absurd (let z : ◌≡◌ {A = ℕ} 0 1 = cc in omega arith)
no_position (refused x) e = absurd (let z : ◌≡◌ {A = ℕ} 0 1 = cc in omega arith)

refused_has_none : {x : Refused} {ks : List ℕ} → refused x ≡ positions ks → ⊥
refused_has_none e = let z : ◌≡◌ {A = ℕ} 0 1 = cc in omega arith

of_messages : (g r : List ℕ) → positions (differing g r) ≡ positions [] → g ≡ r
of_messages g r e =
    let d : differing g r ≡ [] = cc in
    equal_messages g r d

of_radio : (g r : List ℕ) (a : Answer) → with_radio g r a ≡ positions [] → g ≡ r
of_radio g r (envelope.refused x) e = absurd (refused_has_none e)
of_radio g r (accepted f) e = of_messages g r e

of_record : (g r : List ℕ) (j : Judged) → with_record g r j ≡ positions [] → g ≡ r
of_record g r (bad x) e = absurd (refused_has_none e)
of_record g r (good true f) e = absurd (refused_has_none e)
of_record g r (good false f) e = of_radio g r (reading r) e

pub same_is_equal : SameIsEqual
unfolding comparing
same_is_equal f n radio e =
    of_record (message_of (record_at f n)) radio (judged_at f n)
    (past (not_there f n) refused_has_none (past (bad_file f) refused_has_none (no_position (comparing f n radio) e)).1).1
