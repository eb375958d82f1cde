-- Why no accepted message is a proper beginning of another, and so why compare has no refusal 32.
-- What compare was with it, and what it is without it, are the same outcome.
use mathlib.Core.Bool.{Bool, true, false, cond, ◌||◌}
use mathlib.Core.List.{List, [], ◌∷◌}
use mathlib.Core.Path.{◌≡◌, refl, sym, ap, ap₂, ◌∙◌}
use Prim.Native.Nat.{ℕ, zero, suc, ◌≤◌, ◌<◌}
use native.Mathlib.Decide.{dec_lt}
use native.Mathlib.Omega.{arith}
use borrow.Author.Tests.{lt-ltb, le-ltb, eqb-true}
use lib.Dec.{eqb}
use lib.ListN.{length, take}
use Rattle.envelope.proofs.BoolLaws.{both, true_is_not_false}
use Rattle.envelope.proofs.HeadingLaws.{announced_by_heading}
use Rattle.envelope.proofs.ReadingLaws.{accepted_least, accepted-length}
use Rattle.envelope.specs.Fields.{Fields, Answer, accepted}
use Rattle.envelope.specs.Fields as envelope
use Rattle.envelope.specs.Heading.{announced}
use Rattle.envelope.specs.Layout.{header_size}
use Rattle.envelope.specs.Reading.{reading}
use Rattle.envelope.specs.Refusals.{plainly}
use Rattle.golden.specs.Beginning.{is_beginning, is_proper_beginning, NeverABeginning, messages_and32, with_radio_and32, with_record_and32, comparing_with32, Never32, CompareIsUnchanged, CompareNeverGives32}
use Rattle.golden.specs.Comparing.{CompareOutcome, refused, with_radio, with_record, comparing, answer_to_comparing}
use Rattle.golden.specs.File.{bad_file, not_there, record_at, judged_at}
use Rattle.golden.specs.Record.{message_of, Judged, good, bad}
use Rattle.golden.proofs.FileLaws.{good_at}
use Rattle.golden.proofs.GivesLaws.{compare_gives}

or_false : (b : Bool) → b ≡ (b || false)
or_false true = refl
or_false false = refl

module _ (g r : List ℕ) where
  proper_first : (x : Bool) → length g < length r → x ≡ is_beginning g r → x ≡ is_proper_beginning g r
  unfolding is_proper_beginning
  proper_first x h e = simp (lt-ltb _ _ h, le-ltb (length r) (length g) (omega arith)) (e ∙ or_false (is_beginning g r))

  proper_second : (x : Bool) → length r ≤ length g → length r < length g → x ≡ is_beginning r g → x ≡ is_proper_beginning g r
  unfolding is_proper_beginning
  proper_second x k h e = simp (le-ltb _ _ k, lt-ltb _ _ h) e

  proper_none : length r ≤ length g → length g ≤ length r → false ≡ is_proper_beginning g r
  unfolding is_proper_beginning
  proper_none h k = simp (le-ltb _ _ h, le-ltb _ _ k)

-- ---- two accepted messages: the heading states the length, so neither begins the other

same_front : (n : ℕ) (a b : List ℕ) → n ≤ length a → is_beginning a b ≡ true → take n a ≡ take n b
unfolding is_beginning
same_front zero a b h e = refl
same_front (suc n) [] b h e = absurd (omega arith)
same_front (suc n) (x ∷ s) [] h e = absurd (let z : ◌≡◌ {A = ℕ} 0 1 = cc in omega arith)
same_front (suc n) (x ∷ s) (y ∷ t) h e =
    let p = both (eqb x y) (is_beginning s t) e in
    ap₂ (λ (z : ℕ) (u : List ℕ). z ∷ u) (eqb-true x y p.0) (same_front n s t (omega arith) p.1)

module _ (a b : List ℕ) (f g : Fields) (ea : reading a ≡ accepted f) (eb : reading b ≡ accepted g) where
  same_length : is_beginning a b ≡ true → length a ≡ length b
  same_length e =
      accepted-length a f ea
      ∙ sym (announced_by_heading a)
      ∙ ap announced (same_front header_size a b (omega (arith, accepted_least a f ea)) e)
      ∙ announced_by_heading b
      ∙ sym (accepted-length b g eb)

  no_beginning : (x : Bool) → is_beginning a b ≡ x → length a < length b → is_beginning a b ≡ false
  no_beginning true e h = absurd (omega (arith, same_length e))
  no_beginning false e h = e

pub never_a_beginning : NeverABeginning
never_a_beginning g r fg fr eg er = by (dec_lt (length g) (length r)) (dec_lt (length r) (length g))
  where
    by : Dec (length g < length r) → Dec (length r < length g) → is_proper_beginning g r ≡ false
    by (yes h) k = sym (proper_first g r false h (sym (no_beginning g r fg fr eg er (is_beginning g r) refl h)))
    by (no h) (yes k) = sym (proper_second g r false (omega arith) k (sym (no_beginning r g fr fg er eg (is_beginning r g) refl k)))
    by (no h) (no k) = sym (proper_none g r (omega arith) (omega arith))

-- ---- so compare is what it was

of_radio : (g r : List ℕ) (f : Fields) → reading g ≡ accepted f → (a : Answer) → reading r ≡ a → with_radio g r a ≡ with_radio_and32 g r a
unfolding messages_and32
of_radio g r f e (envelope.refused x) q = refl
of_radio g r f e (accepted x) q = rw (never_a_beginning g r f x e q)

of_record : (f : List ℕ) (n : ℕ) (radio : List ℕ) (j : Judged) → judged_at f n ≡ j
    → with_record (message_of (record_at f n)) radio j ≡ with_record_and32 (message_of (record_at f n)) radio j
of_record f n radio (bad x) e = refl
of_record f n radio (good true x) e = refl
of_record f n radio (good false x) e = of_radio (message_of (record_at f n)) radio x (good_at f n false x e).accepts (reading radio) refl

pub compare_is_unchanged : CompareIsUnchanged
unfolding comparing comparing_with32
compare_is_unchanged f n radio =
    ap (λ (o : CompareOutcome). cond (bad_file f) (refused (plainly 21)) (cond (not_there f n) (refused (plainly 22)) o)) (of_record f n radio (judged_at f n) refl)

told_32 : (o : CompareOutcome) → o ≡ refused (plainly 32) → answer_to_comparing o ≡ refused (plainly 32)
unfolding answer_to_comparing
told_32 o e = rw e

not_32 : (f : List ℕ) (n : ℕ) (radio : List ℕ) → answer_to_comparing (comparing f n radio) ≡ refused (plainly 32) → ⊥
not_32 f n radio e = true_is_not_false (compare_gives f n radio (plainly 32) e) refl

pub never_32 : Never32
never_32 f n radio e = not_32 f n radio (told_32 (comparing f n radio) (compare_is_unchanged f n radio ∙ e))

pub compare_never_gives_32 : CompareNeverGives32
compare_never_gives_32 f n radio entry exit a kept e = not_32 f n radio (sym kept.0 ∙ e)
