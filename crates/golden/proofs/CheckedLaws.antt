-- Check passes exactly the files whose records are all good, the live ones with names apart, and names the first bad record of any other, or the later of the first two live ones of one name.
-- Inductions on the records that are left, behind a sound beginning. Where it passes, find answers the only live record of the name, or 27.
use mathlib.Core.Bool.{Bool, true, false, cond, ◌&&◌}
use mathlib.Core.List.{List, [], ◌∷◌}
use mathlib.Core.Path.{◌≡◌, refl, ap, ap₂, sym, ◌∙◌, subst}
use Prim.Native.Nat.{ℕ, zero, suc, ◌+◌, ◌-◌, ◌≤◌, ◌<◌}
use native.Mathlib.Decide.{dec_lt}
use native.Mathlib.Omega.{arith}
use borrow.Author.Tests.{eqb-true, eq-eqb}
use lib.Dec.{eqb}
use Rattle.envelope.proofs.BoolLaws.{both, true_is_not_false}
use Rattle.envelope.specs.Fields.{Fields}
use Rattle.envelope.specs.Refusals.{Refused, plainly, numbers_of, Gives}
use Rattle.golden.specs.Checking.{CheckAnswer, counted, repeats, unless_bad, check_from, checking}
use Rattle.golden.specs.Checking as check
use Rattle.golden.specs.File.{bad_file, count_of, judged_at}
use Rattle.golden.specs.Finding.{NameFields, has_name, name_of, FindAnswer, found, refused, finding}
use Rattle.golden.specs.Pairing.{is_named, pairs}
use Rattle.golden.specs.Record.{Judged, good, bad}
use Rattle.golden.specs.Theorems.{GoodAt, Sound, Passed, CheckedAreSound, SoundAreChecked, FirstRefused, not_a_file, bad_record, repeated, CheckNamesTheFirst, FirstRefusedIsNamed, OneName, NoTwoOfOneName, Later, RefusesTheLater, LaterIsRefused, NamedBy, AnyTwoAreRefused, EarlierIsFound, FewerStillPass, NotNamed, FirstNamed, first, none, FindsTheFirst, TheOne, one, FindsTheOne, FindReason, no_file, first_bad, first_named_lem, none_named}
use Rattle.golden.proofs.FileLaws.{one_more, same_judged, bad_gives}
use Rattle.golden.proofs.FoundLaws.{find_gives_its_reason, reason_settles_find}
use Rattle.golden.proofs.NameLaws.{has_its_own_name}
use Rattle.golden.proofs.PairingLaws.{named_pair, Below, any_below_lem, none_below, below_one, below_none}
use Rattle.golden.proofs.RecordLaws.{bad_is_not_good}

-- ---- a sound beginning

module _ (f : List ℕ) where
  sound_none : Sound f 0
  sound_none = record { records = λ k l. absurd (omega arith); apart = λ i k a b. absurd (omega arith) }

  sound_more : (k : ℕ) → Sound f k → GoodAt f k → repeats f k ≡ false → Sound f (k + 1)
  unfolding repeats
  sound_more k s here e = record { records = one_more (GoodAt f) k s.records here; apart = λ i m a b. apart_by i m a b (dec_lt m k) }
    where
      apart_by : (i m : ℕ) → i < m → m < k + 1 → Dec (m < k) → pairs (judged_at f m) (judged_at f i) ≡ false
      apart_by i m a l (yes b) = s.apart i m a b
      apart_by i m a l (no b) =
          let q : m ≡ k = omega arith in
          rw q (none_below (λ x. pairs (judged_at f k) (judged_at f x)) k e i (omega arith))

  earlier : (k : ℕ) → repeats f k ≡ true → Below (λ x. pairs (judged_at f k) (judged_at f x)) k
  unfolding repeats
  earlier k e = any_below_lem _ k e

  no_earlier : (k n : ℕ) → k < n → Sound f n → repeats f k ≡ false
  unfolding repeats
  no_earlier k n l s = below_none (λ x. pairs (judged_at f k) (judged_at f x)) k (λ i b. s.apart i k b l)

  one_earlier : (i k : ℕ) → i < k → pairs (judged_at f k) (judged_at f i) ≡ true → repeats f k ≡ true
  unfolding repeats
  one_earlier i k l e = below_one (λ x. pairs (judged_at f k) (judged_at f x)) k i l e

-- ---- check

-- why check answers as it does
data Verdict (f : List ℕ) : CheckAnswer → Type 0 where
  passes : Passed f (count_of f) → Verdict f (counted (count_of f))
  refuses : (n : ℕ) (r : Refused) → FirstRefused f n r → Verdict f (check.refused n r)

module _ (f : List ℕ) (h : bad_file f ≡ false) where
  verdict_here : (k : ℕ) → k < count_of f → Sound f k → (b : Bool) → repeats f k ≡ b → (j : Judged) → judged_at f k ≡ j → (others : CheckAnswer)
      → (Sound f (k + 1) → Verdict f others) → Verdict f (unless_bad k b j others)
  verdict_here k l s b q (bad r) e others later = refuses k r (bad_record k r h l e s)
  verdict_here k l s true q (good retired fields) e others later =
      let b = earlier f k q in
      refuses k (plainly 26) (repeated b.number k h l (record { retired = retired; fields = fields; judged = e }) b.within b.passes s)
  verdict_here k l s false q (good retired fields) e others later = later (sound_more f k s (record { retired = retired; fields = fields; judged = e }) q)

  verdict_from : (left k : ℕ) → k + left ≡ count_of f → Sound f k → Verdict f (check_from f k left)
  unfolding check_from
  verdict_from zero k e s =
      let q : k ≡ count_of f = omega arith in
      rw q (passes (record { whole = h; count = refl; sound = rw q at s }))
  verdict_from (suc left) k e s =
      verdict_here k (omega arith) s (repeats f k) refl (judged_at f k) refl (check_from f (k + 1) left) (verdict_from left (k + 1) (omega arith))

verdict : (f : List ℕ) → Verdict f (checking f)
unfolding checking
verdict f = by (bad_file f) refl
  where
    by : (b : Bool) → bad_file f ≡ b → Verdict f (cond b (check.refused 0 (plainly 21)) (check_from f 0 (count_of f)))
    by true e = refuses 0 (plainly 21) (not_a_file e)
    by false e = verdict_from f e (count_of f) 0 (omega arith) (sound_none f)

pub checked_are_sound : CheckedAreSound
checked_are_sound f n e = by (checking f) (verdict f) e
  where
    by : (a : CheckAnswer) → Verdict f a → a ≡ counted n → Passed f n
    by _ (passes a) q = let c : n ≡ count_of f = cc in rw c a
    by _ (refuses k r b) q = absurd (let z : ◌≡◌ {A = ℕ} 0 1 = cc in omega arith)

pub check_names_the_first : CheckNamesTheFirst
check_names_the_first f n r e = by (checking f) (verdict f) e
  where
    by : (a : CheckAnswer) → Verdict f a → a ≡ check.refused n r → FirstRefused f n r
    by _ (passes a) q = absurd (let z : ◌≡◌ {A = ℕ} 0 1 = cc in omega arith)
    by _ (refuses k x b) q =
        let en : k ≡ n = cc in
        let er : x ≡ r = cc in
        rw (← en, ← er) b

-- and back: a sound beginning is passed over
goes_over : (f : List ℕ) (n : ℕ) → Sound f n → (k start left : ℕ) → start + k ≤ n → check_from f start (k + left) ≡ check_from f (start + k) left
unfolding check_from
goes_over f n s zero start left l =
    let none : 0 + left ≡ left = omega arith in
    let here : start + 0 ≡ start = omega arith in
    rw (none, here)
goes_over f n s (suc k) start left l =
    let more : suc k + left ≡ suc (k + left) = omega arith in
    let this = s.records start (omega arith) in
    let on : start + 1 + k ≡ start + suc k = omega arith in
    rw (more, this.judged, no_earlier f start n (omega arith) s) (rw on at (goes_over f n s k (start + 1) left (omega arith)))

check_goes_to : (f : List ℕ) (k left : ℕ) → bad_file f ≡ false → k + left ≡ count_of f → Sound f k → checking f ≡ check_from f k left
unfolding checking
check_goes_to f k left h e s =
    rw (h, ← e) (goes_over f k s k 0 left (omega arith) ∙ ap (λ (n : ℕ). check_from f n left) (omega arith))

pub sound_are_checked : SoundAreChecked
unfolding check_from
sound_are_checked f n a = check_goes_to f n 0 a.whole (omega (arith, a.count)) a.sound

pub first_refused_is_named : FirstRefusedIsNamed
unfolding checking check_from
first_refused_is_named f _ _ (not_a_file h) = rw h
first_refused_is_named f n r (bad_record _ _ h l j s) =
    let left = count_of f - (n + 1) in
    check_goes_to f n (suc left) h (omega arith) s ∙ ap (λ (x : Judged). unless_bad n (repeats f n) x (check_from f (n + 1) left)) j
first_refused_is_named f _ _ (repeated i n h l g b p s) =
    let left = count_of f - (n + 1) in
    check_goes_to f n (suc left) h (omega arith) s ∙ rw (g.judged, one_earlier f i n b p)

-- ---- in plain words

one_name_pairs : (f : List ℕ) (i k : ℕ) → OneName f i k → pairs (judged_at f k) (judged_at f i) ≡ true
one_name_pairs f i k o =
    rw (o.first_lives, o.second_lives)
    (ap₂ (λ (x y : Bool). x && y)
    (eq-eqb o.first.header.message_type o.second.header.message_type o.same_type)
    (eq-eqb o.first.header.number o.second.header.number o.same_number))

pub no_two_of_one_name : NoTwoOfOneName
no_two_of_one_name f n i k e a b o = true_is_not_false (one_name_pairs f i k o) ((checked_are_sound f n e).sound.apart i k a b)

pairs_one_name : (f : List ℕ) (i k : ℕ) (x y : Judged) → judged_at f k ≡ x → judged_at f i ≡ y → pairs x y ≡ true → OneName f i k
pairs_one_name f i k (good true a) y ex ey p = absurd (true_is_not_false p refl)
pairs_one_name f i k (good false a) (good true b) ex ey p = absurd (true_is_not_false p refl)
pairs_one_name f i k (good false a) (good false b) ex ey p =
    let q = both (eqb b.header.message_type a.header.message_type) (eqb b.header.number a.header.number) p in
    record {
      first = b;
      second = a;
      first_lives = ey;
      second_lives = ex;
      same_type = eqb-true b.header.message_type a.header.message_type q.0;
      same_number = eqb-true b.header.number a.header.number q.1;
    }
pairs_one_name f i k (good false a) (bad r) ex ey p = absurd (true_is_not_false p refl)
pairs_one_name f i k (bad r) y ex ey p = absurd (true_is_not_false p refl)

-- of the reasons for a refusal only that of two of one name is told as 26
abbrev If26 : List ℕ → ℕ → Refused → Type 0
If26 f k r = r ≡ plainly 26 → Later f k

of_26 : (f : List ℕ) (k : ℕ) (r : Refused) → FirstRefused f k r → If26 f k r
of_26 f _ _ (not_a_file h) e = absurd (let z = ap (λ (x : Refused). (numbers_of x).number) e in omega (arith, z))
of_26 f k r (bad_record _ _ h l j s) e = absurd (true_is_not_false (subst (Gives (23 ∷ 24 ∷ []) (25 ∷ [])) e (bad_gives f k r j)) refl)
of_26 f _ _ (repeated i k h l g b p s) e =
    record { earlier = i; before = b; there = l; one_name = pairs_one_name f i k (judged_at f k) (judged_at f i) refl refl p; sound = s }

pub refuses_the_later : RefusesTheLater
refuses_the_later f k e = of_26 f k (plainly 26) (check_names_the_first f k (plainly 26) e) refl

pub later_is_refused : LaterIsRefused
later_is_refused f k h w =
    let o = w.one_name in
    first_refused_is_named f k (plainly 26)
    (repeated w.earlier k h w.there (record { retired = false; fields = o.second; judged = o.second_lives }) w.before (one_name_pairs f w.earlier k o) w.sound)

pub any_two_are_refused : AnyTwoAreRefused
any_two_are_refused f i k h a l good-to o = by (checking f) refl (verdict f)
  where
    pair : pairs (judged_at f k) (judged_at f i) ≡ true
    pair = one_name_pairs f i k o

    sound_so_far : (m : ℕ) → Sound f m → k < m → NamedBy f k
    sound_so_far m s b = absurd (true_is_not_false pair (s.apart i k a b))

    of : (m : ℕ) (r : Refused) → checking f ≡ check.refused m r → FirstRefused f m r → Dec (k < m) → NamedBy f k
    of _ _ e (not_a_file q) d = absurd (true_is_not_false q h)
    of m r e (bad_record _ _ q b j s) (yes d) = sound_so_far m s d
    of m r e (bad_record _ _ q b j s) (no d) = absurd (bad_is_not_good (sym j ∙ (good-to m (omega arith)).judged))
    of _ _ e (repeated x m q b g z p s) (yes d) = sound_so_far m s d
    of _ _ e (repeated x m q b g z p s) (no d) = record { later = m; not_past = omega arith; refuses = e }

    by : (x : CheckAnswer) → checking f ≡ x → Verdict f x → NamedBy f k
    by _ e (passes p) = sound_so_far (count_of f) p.sound l
    by _ e (refuses m r b) = of m r e b (dec_lt k m)

-- a name that is new to the records before it is new to find too
not_yet : (f : List ℕ) (i k : ℕ) (name : NameFields) (earlier : Fields) → judged_at f k ≡ good false earlier → name_of earlier ≡ name → GoodAt f i
    → pairs (judged_at f k) (judged_at f i) ≡ false → NotNamed f name i
not_yet f i k name earlier e same g p =
    record { retired = g.retired; fields = g.fields; judged = g.judged; other = subst (λ (x : NameFields). is_named x (good g.retired g.fields) ≡ false) same (rw (e, g.judged) at p) }

pub earlier_is_found : EarlierIsFound
earlier_is_found f k h w =
    let o = w.one_name in
    let i = w.earlier in
    let name = name_of o.second in
    let same : name_of o.first ≡ name = λ j. record { message_type = o.same_type j; number = o.same_number j } in
    let b = w.before in
    let l = w.there in
    reason_settles_find f name (found i (i + 1))
    (first_named_lem
    i
    o.first
    h
    (omega arith)
    o.first_lives
    (subst (λ (x : NameFields). has_name x o.first ≡ true) same (has_its_own_name o.first))
    (λ m a. not_yet f m i name o.first o.first_lives same (w.sound.records m (omega arith)) (w.sound.apart m i a b)))

pub fewer_still_pass : FewerStillPass
fewer_still_pass f g n e t =
    sound_are_checked g (count_of g)
    (record { whole = t.whole; count = refl; sound = record { records = good_there; apart = apart_there } })
  where
    sound : Sound f (count_of f)
    sound = let a = checked_are_sound f n e in rw (← a.count) a.sound

    moved : (k : ℕ) → k < count_of g → judged_at g k ≡ judged_at f (t.from k)
    moved k l = same_judged g f k (t.from k) (t.records k l)

    good_there : (k : ℕ) → k < count_of g → GoodAt g k
    good_there k l =
        let here = sound.records (t.from k) (t.there k l) in
        record { retired = here.retired; fields = here.fields; judged = moved k l ∙ here.judged }

    apart_there : (i k : ℕ) → i < k → k < count_of g → pairs (judged_at g k) (judged_at g i) ≡ false
    apart_there i k a l =
        rw (moved k l, moved i (omega arith)) (sound.apart (t.from i) (t.from k) (t.in_order i k a l) (t.there k l))

-- ---- find

pub finds_the_first : FindsTheFirst
finds_the_first f name n e =
    let a = checked_are_sound f n e in
    let c = a.count in
    rw c (by (finding f name) (find_gives_its_reason f name) a.whole (λ k l. a.sound.records k (omega (arith, c))))
  where
    by : (x : FindAnswer) → FindReason f name x → bad_file f ≡ false → ((k : ℕ) → k < count_of f → GoodAt f k) → FirstNamed f name (count_of f) x
    by _ (no_file h) whole records = absurd (true_is_not_false h whole)
    by _ (first_bad k r h l j before) whole records = absurd (bad_is_not_good (sym j ∙ (records k l).judged))
    by _ (first_named_lem k fields h l j q before) whole records = first k fields l j q before
    by _ (none_named h others) whole records = none others

-- a second live record of the name would pair with the first
pub only : (f : List ℕ) (name : NameFields) (n : ℕ) → Sound f n → (k : ℕ) → k < n → is_named name (judged_at f k) ≡ true
    → (i : ℕ) → i < n → is_named name (judged_at f i) ≡ true → i ≡ k
only f name n s k l p i m q = by (dec_lt i k) (dec_lt k i)
  where
    by : Dec (i < k) → Dec (k < i) → i ≡ k
    by (yes a) b = absurd (true_is_not_false (named_pair name (judged_at f k) (judged_at f i) p q) (s.apart i k a l))
    by (no a) (yes b) = absurd (true_is_not_false (named_pair name (judged_at f i) (judged_at f k) q p) (s.apart k i b m))
    by (no a) (no b) = omega arith

not_named : (f : List ℕ) (name : NameFields) (i : ℕ) → NotNamed f name i → is_named name (judged_at f i) ≡ false
not_named f name i o = rw o.judged o.other

pub finds_the_one : FindsTheOne
finds_the_one f name n e = by (finding f name) (finds_the_first f name n e)
  where
    by : (x : FindAnswer) → FirstNamed f name n x → TheOne f name n x
    by _ (first k fields l j q before) =
        let named : is_named name (judged_at f k) ≡ true = rw j q in
        one k l named (only f name n (checked_are_sound f n e).sound k l named)
    by _ (none others) = none (λ i l. not_named f name i (others i l))

-- so find is settled by any live record of the name, or by there being none
pub finds : (f : List ℕ) (name : NameFields) (n : ℕ) (a : FindAnswer) → TheOne f name n a
    → (k : ℕ) → k < n → is_named name (judged_at f k) ≡ true → a ≡ found k (k + 1)
finds f name n _ (one i l p u) k m q = let e : k ≡ i = u k m q in rw e
finds f name n _ (none u) k m q = absurd (true_is_not_false q (u k m))

pub finds_none : (f : List ℕ) (name : NameFields) (n : ℕ) (a : FindAnswer) → TheOne f name n a
    → ((i : ℕ) → i < n → is_named name (judged_at f i) ≡ false) → a ≡ refused (plainly 27) n
finds_none f name n _ (one i l p u) h = absurd (true_is_not_false p (h i l))
finds_none f name n _ (none u) h = refl
