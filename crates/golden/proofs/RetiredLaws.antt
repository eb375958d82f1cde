-- What retiring a record does: the marked file by its records. A sound file stays sound, and find loses one name alone.
-- By what `done` says of the record, and what check and find say of sound files.
use mathlib.Core.Bool.{Bool, true, false, cond, not}
use mathlib.Core.List.{List}
use mathlib.Core.Path.{◌≡◌, refl, ap, sym, ◌∙◌, subst}
use Prim.Native.Nat.{ℕ, ◌+◌, ◌*◌, ◌/◌, ◌≤◌, ◌<◌}
use native.Mathlib.Decide.{dec_lt}
use native.Mathlib.Omega.{arith}
use borrow.Author.Tests.{lt-leb}
use lib.Dec.{eqb}
use lib.ListN.{length}
use Rattle.envelope.proofs.BoolLaws.{true_is_not_false}
use Rattle.envelope.proofs.PassLaws.{On, on_plainly}
use Rattle.envelope.specs.Numbers.{byte_at}
use Rattle.envelope.specs.Refusals.{Refused, plainly}
use Rattle.golden.specs.Checking.{counted, checking}
use Rattle.golden.specs.File.{bad_file, count_of, not_there, record_at, judged_at}
use Rattle.golden.specs.Finding.{NameFields, FindAnswer, found, finding}
use Rattle.golden.specs.Finding as find
use Rattle.golden.specs.Pairing.{is_named, pairs}
use Rattle.golden.specs.Record.{record_size, message_room, message_of, Judged, good, bad}
use Rattle.golden.specs.Retired.{RetiredOne, RetireMarksOne, RetiredIsWritten, RetiredStillPasses, RetiredIsNotFound, OthersAreFound, NameIsWithdrawn, RetiredTwice, RetiredAreBytes, RefusedRetiringKeepsBuffer, retire_place, RetirePointsShort, RetirePassesOn}
use Rattle.golden.specs.Retiring.{marked, RetireAnswer, done, refused, retiring_judged, retiring, after_retiring}
use Rattle.golden.specs.Theorems.{GoodAt, Passed, NotNamed, TheOne, one, none, FindReason, no_file, first_bad, first_named_lem, none_named}
use Rattle.golden.proofs.CheckedLaws.{checked_are_sound, sound_are_checked, only, finds_the_one}
use Rattle.golden.proofs.FileLaws.{whole_file, file_whole}
use Rattle.golden.proofs.FoundLaws.{find_gives_its_reason, reason_settles_find, found_is_first}
use Rattle.golden.proofs.MarkedLaws.{marked_one}
use Rattle.golden.proofs.PairingLaws.{pairs_with_retired}
use Rattle.golden.proofs.PassLaws.{bad_on}
use Rattle.golden.proofs.PointLaws.{bad_points}
use Rattle.golden.proofs.RecordLaws.{bad_is_not_good}
use Rattle.golden.proofs.RetiringLaws.{allowed}

pub retire_marks_one : RetireMarksOne
retire_marks_one f n room e = let a = allowed f n room e in marked_one f n a.there a.fields a.live

pub retired_is_written : RetiredIsWritten
retired_is_written f n entry exit a kept e =
    let o : retiring f n (length entry) ≡ done = sym kept.0 ∙ e in
    let x : exit ≡ marked f n = kept.1 ∙ ap (λ (y : RetireAnswer). after_retiring y f n entry) o in
    rw x (retire_marks_one f n (length entry) o)

-- ---- the marked file, by its records

pub same_or_not : (k n : ℕ) → Dec (k ≡ n)
same_or_not k n = by (dec_lt k n) (dec_lt n k)
  where
    by : Dec (k < n) → Dec (n < k) → Dec (k ≡ n)
    by (yes l) m = no (λ e. omega arith)
    by (no l) (yes m) = no (λ e. omega arith)
    by (no l) (no m) = yes (omega arith)

module _ (f : List ℕ) (n : ℕ) (w : RetiredOne f n (marked f n)) where
  abbrev g : List ℕ
  g = marked f n

  pub same_count : count_of g ≡ count_of f
  same_count = ap (λ (x : ℕ). x / record_size) w.size

  pub same_whole : bad_file f ≡ false → bad_file g ≡ false
  same_whole h =
      let v = whole_file f h in
      let c = same_count in
      file_whole g (record { full = omega (arith, w.size, v.full, c); few = omega (arith, v.few, c) })

  good_still : (k : ℕ) → GoodAt f k → GoodAt g k
  good_still k here = by (same_or_not k n)
    where
      by : Dec (k ≡ n) → GoodAt g k
      by (yes e) = rw e (record { retired = true; fields = w.fields; judged = w.is })
      by (no ne) = record { retired = here.retired; fields = here.fields; judged = w.others k ne ∙ here.judged }

  apart_still : (i k : ℕ) → pairs (judged_at f k) (judged_at f i) ≡ false → pairs (judged_at g k) (judged_at g i) ≡ false
  apart_still i k e = by (same_or_not k n) (same_or_not i n)
    where
      by : Dec (k ≡ n) → Dec (i ≡ n) → pairs (judged_at g k) (judged_at g i) ≡ false
      by (yes p) q = rw (p, w.is)
      by (no p) (yes q) = rw (q, w.is) (pairs_with_retired (judged_at g k) w.fields)
      by (no p) (no q) = rw (w.others k p, w.others i q) e

  passed_still : (m : ℕ) → Passed f m → Passed g m
  passed_still m p =
      record {
        whole = same_whole p.whole;
        count = p.count ∙ sym same_count;
        sound = record { records = λ k b. good_still k (p.sound.records k b); apart = λ i k a b. apart_still i k (p.sound.apart i k a b) };
      }

  unnamed_now : (name : NameFields) → is_named name (judged_at g n) ≡ false
  unnamed_now name = rw w.is

  -- ---- find

  not_named_still : (name : NameFields) (i : ℕ) → NotNamed f name i → NotNamed g name i
  not_named_still name i o = by (same_or_not i n)
    where
      by : Dec (i ≡ n) → NotNamed g name i
      by (yes e) = rw e (record { retired = true; fields = w.fields; judged = w.is; other = refl })
      by (no ne) = record { retired = o.retired; fields = o.fields; judged = w.others i ne ∙ o.judged; other = o.other }

  -- each reason for an answer, but that the record itself was found, is a reason in the marked file
  same_reason : bad_file f ≡ bad_file g → (name : NameFields) (a : FindAnswer) → FindReason f name a → ((opened : ℕ) → a ≡ found n opened → ⊥) → FindReason g name a
  same_reason h name _ (no_file q) ne = no_file (sym h ∙ q)
  same_reason h name _ (first_bad k r q l j before) ne =
      first_bad k r (sym h ∙ q) (rw same_count l) (w.others k (λ e. bad_is_not_good (sym j ∙ ap (judged_at f) e ∙ w.was)) ∙ j) (λ i b. not_named_still name i (before i b))
  same_reason h name _ (first_named_lem k fields q l j has before) ne =
      first_named_lem k fields (sym h ∙ q) (rw same_count l) (w.others k (λ e. ne (k + 1) (ap (λ (x : ℕ). found x (k + 1)) e)) ∙ j) has (λ i b. not_named_still name i (before i b))
  same_reason h name _ (none_named q others) ne =
      let c = same_count in
      rw (← c) (none_named (sym h ∙ q) (λ i l. not_named_still name i (others i (omega (arith, c)))))

pub retired_still_passes : RetiredStillPasses
retired_still_passes f n room m e c =
    sound_are_checked (marked f n) m (passed_still f n (retire_marks_one f n room e) m (checked_are_sound f m c))

retired_is_not_live : (x y : _) → good true x ≡ good false y → ⊥
retired_is_not_live x y e = let z : true ≡ false = cc in true_is_not_false refl z

pub retired_is_not_found : RetiredIsNotFound
retired_is_not_found f n room name opened e q =
    let w = retire_marks_one f n room e in
    let first = (found_is_first (marked f n) name n opened q).0 in
    retired_is_not_live w.fields first.fields (sym w.is ∙ first.judged)

same_bad : (f : List ℕ) (n : ℕ) (w : RetiredOne f n (marked f n)) → bad_file f ≡ false → bad_file f ≡ bad_file (marked f n)
same_bad f n w h = h ∙ sym (same_whole f n w h)

pub others_are_found : OthersAreFound
others_are_found f n room name e ne =
    let w = retire_marks_one f n room e in
    let h = same_bad f n w (allowed f n room e).whole in
    reason_settles_find (marked f n) name (finding f name) (same_reason f n w h name (finding f name) (find_gives_its_reason f name) ne)

pub name_is_withdrawn : NameIsWithdrawn
name_is_withdrawn f n room m opened name e c q = by (finding g name) refl (finds_the_one g name m passes)
  where
    g : List ℕ
    g = marked f n

    passes : checking g ≡ counted m
    passes = retired_still_passes f n room m e c

    w : RetiredOne f n g
    w = retire_marks_one f n room e

    -- the only other live record of the name would have paired with it
    only_one : (k : ℕ) → k < m → is_named name (judged_at g k) ≡ true → ⊥
    only_one k l p = go (same_or_not k n)
      where
        go : Dec (k ≡ n) → ⊥
        go (yes d) = true_is_not_false p (rw (d, w.is))
        go (no d) =
            let a = checked_are_sound f m c in
            let first = (found_is_first f name n opened q).0 in
            let there = (allowed f n room e).there in
            d (only f name m a.sound n (omega (arith, a.count)) (rw first.judged first.named) k l (ap (is_named name) (sym (w.others k d)) ∙ p))

    by : (a : FindAnswer) → finding g name ≡ a → TheOne g name m a → finding g name ≡ find.refused (plainly 27) m
    by _ x (one k l p u) = absurd (only_one k l p)
    by _ x (none u) = x

pub retired_twice : RetiredTwice
unfolding retiring
retired_twice f n room again e =
    let a = allowed f n room e in
    let w = retire_marks_one f n room e in
    rw (same_whole f n w a.whole, same_count f n w, lt-leb (count_of f) n a.there, w.is)

pub retired_are_bytes : RetiredAreBytes
retired_are_bytes f n room e bytes i = by (same_or_not i (n * record_size))
  where
    w : RetiredOne f n (marked f n)
    w = retire_marks_one f n room e

    by : Dec (i ≡ n * record_size) → byte_at (marked f n) i < 256
    by (yes p) = rw p (omega (arith, w.set_now, w.not_set))
    by (no ne) = rw (w.no_other i ne) (bytes i)

-- ---- a refusal

buffer_kept : (o : RetireAnswer) (f : List ℕ) (n : ℕ) (entry : List ℕ) (r : Refused) → o ≡ refused r → after_retiring o f n entry ≡ entry
buffer_kept (refused x) f n entry r e = refl
buffer_kept done f n entry r e = absurd (let z : ◌≡◌ {A = ℕ} 0 1 = cc in omega arith)

pub refused_retiring_keeps_buffer : RefusedRetiringKeepsBuffer
refused_retiring_keeps_buffer f n entry exit a r kept e = kept.1 ∙ buffer_kept (retiring f n (length entry)) f n entry r (sym kept.0 ∙ e)

abbrev RetireOn : List ℕ → RetireAnswer → Type 0
RetireOn m done = Unit
RetireOn m (refused x) = On m x

retire_on : (f : List ℕ) (n room : ℕ) → RetireOn (message_of (record_at f n)) (retiring f n room)
unfolding retiring
retire_on f n room = go (bad_file f) (not_there f n) (judged_at f n) refl
  where
    m : List ℕ
    m = message_of (record_at f n)

    fits : (b : Bool) → RetireOn m (cond b (refused (plainly 37)) done)
    fits true = on_plainly m 37
    fits false = tt

    go : (a b : Bool) (j : Judged) → judged_at f n ≡ j
        → RetireOn m (cond a (refused (plainly 21)) (cond b (refused (plainly 22)) (retiring_judged j (length f) room)))
    go true b j e = on_plainly m 21
    go false true j e = on_plainly m 22
    go false false (bad x) e = bad_on f n x e
    go false false (good true x) e = on_plainly m 36
    go false false (good false x) e = fits (not (eqb room (length f)))

pub retire_passes_on : RetirePassesOn
retire_passes_on f n room number r e = subst (RetireOn (message_of (record_at f n))) e (retire_on f n room) number r refl

pub retire_points_short : RetirePointsShort
unfolding retiring
retire_points_short f n room = go (bad_file f) (not_there f n) (judged_at f n) refl
  where
    fits : (b : Bool) → retire_place (cond b (refused (plainly 37)) done) ≤ message_room
    fits true = omega arith
    fits false = omega arith

    go : (a b : Bool) (j : Judged) → judged_at f n ≡ j
        → retire_place (cond a (refused (plainly 21)) (cond b (refused (plainly 22)) (retiring_judged j (length f) room))) ≤ message_room
    go true b j e = omega arith
    go false true j e = omega arith
    go false false (bad x) e = bad_points f n x e
    go false false (good true x) e = omega arith
    go false false (good false x) e = fits (not (eqb room (length f)))
