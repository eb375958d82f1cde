-- A refusal of reading is passed on whole: where an answer carries one, it is what reading gives of the message that it speaks of.
-- Of a record first, and then through each operation by its reason or its tests.
use mathlib.Core.Bool.{Bool, true, false, cond, not}
use mathlib.Core.List.{List, [], ◌∷◌}
use mathlib.Core.Path.{◌≡◌, refl, subst}
use Prim.Native.Nat.{ℕ, ◌+◌}
use native.Mathlib.Omega.{arith}
use lib.Dec.{eqb, ltb}
use lib.ListN.{length}
use Rattle.envelope.proofs.BoolLaws.{true_is_not_false}
use Rattle.envelope.proofs.PassLaws.{On, on_plainly, on_passing}
use Rattle.envelope.specs.Fields.{Refusal, Answer, accepted}
use Rattle.envelope.specs.Fields as envelope
use Rattle.envelope.specs.Reading.{reading}
use Rattle.envelope.specs.Refusals.{Refused, plainly, passing_on, Gives}
use Rattle.golden.specs.Comparing.{CompareAnswer, same, different, refused, differing, with_radio, with_record, comparing, answer_to_comparing}
use Rattle.golden.specs.File.{bad_file, not_there, record_at, judged_at}
use Rattle.golden.specs.Finding.{FindAnswer, finding}
use Rattle.golden.specs.Finding as find
use Rattle.golden.specs.Listing.{EntryAnswer, entry_of, entry_at}
use Rattle.golden.specs.Listing as listing
use Rattle.golden.specs.Making.{MakeAnswer, making, making_read}
use Rattle.golden.specs.Making as make
use Rattle.golden.specs.Record.{record_size, message_room, is_retired, stored_length, message_of, bad_length, not_clear, Judged, good, bad, by_reading, judging}
use Rattle.golden.specs.Stepping.{StepAnswer, step_of, step_at}
use Rattle.golden.specs.Stepping as step
use Rattle.golden.specs.Theorems.{FirstRefused, not_a_file, bad_record, repeated, FindReason, no_file, first_bad, first_named_lem, none_named, CheckPassesOn, FindPassesOn, StepPassesOn, EntryPassesOn, ComparePassesOn, MakePassesOn}
use Rattle.golden.proofs.CheckedLaws.{check_names_the_first}
use Rattle.golden.proofs.FileLaws.{bad_gives}
use Rattle.golden.proofs.FoundLaws.{find_gives_its_reason}
use Rattle.golden.proofs.SteppingLaws.{Reason, at_21, at_end, at_record, reason}

-- ---- a record

abbrev JudgedOn : List ℕ → Judged → Type 0
JudgedOn m (good retired f) = Unit
JudgedOn m (bad x) = On m x

by_reading_lem : (m : List ℕ) (mark : Bool) (x : Answer) → reading m ≡ x → JudgedOn m (by_reading mark x)
by_reading_lem m mark (accepted f) e = tt
by_reading_lem m mark (envelope.refused q) e = on_passing m 25 q e

judged_on : (f : List ℕ) (n : ℕ) → JudgedOn (message_of (record_at f n)) (judged_at f n)
unfolding judged_at judging
judged_on f n = go (bad_length (stored_length (record_at f n))) (not_clear (record_at f n))
  where
    go : (a b : Bool)
        → JudgedOn (message_of (record_at f n)) (cond a (bad (plainly 23)) (cond b (bad (plainly 24)) (by_reading (is_retired (record_at f n)) (reading (message_of (record_at f n))))))
    go true b = on_plainly (message_of (record_at f n)) 23
    go false true = on_plainly (message_of (record_at f n)) 24
    go false false = by_reading_lem (message_of (record_at f n)) (is_retired (record_at f n)) (reading (message_of (record_at f n))) refl

pub bad_on : (f : List ℕ) (n : ℕ) (x : Refused) → judged_at f n ≡ bad x → On (message_of (record_at f n)) x
bad_on f n x e = subst (JudgedOn (message_of (record_at f n))) e (judged_on f n)

-- ---- the file

pub check_passes_on : CheckPassesOn
check_passes_on f n number r e = at n (passing_on number r) (check_names_the_first f n (passing_on number r) e) number r refl
  where
    at : (k : ℕ) (x : Refused) → FirstRefused f k x → On (message_of (record_at f k)) x
    at _ _ (not_a_file h) = on_plainly (message_of (record_at f 0)) 21
    at k x (bad_record _ _ h l j before) = bad_on f k x j
    at _ _ (repeated i k h l g b p before) = on_plainly (message_of (record_at f k)) 26

abbrev FoundOn : List ℕ → FindAnswer → Type 0
FoundOn f (find.found n opened) = Unit
FoundOn f (find.refused x opened) = (n : ℕ) → opened ≡ n + 1 → On (message_of (record_at f n)) x

found_on : (f : List ℕ) (name : find.NameFields) (a : FindAnswer) → FindReason f name a → FoundOn f a
found_on f name _ (no_file h) = λ n e. on_plainly (message_of (record_at f n)) 21
found_on f name _ (first_bad k x h l j before) = λ n e. let same : k ≡ n = omega (arith, e) in subst (λ (i : ℕ). On (message_of (record_at f i)) x) same (bad_on f k x j)
found_on f name _ (first_named_lem k fields h l j n before) = tt
found_on f name _ (none_named h others) = λ n e. on_plainly (message_of (record_at f n)) 27

pub find_passes_on : FindPassesOn
find_passes_on f name n number r e =
    subst (FoundOn f) e (found_on f name (finding f name) (find_gives_its_reason f name)) n refl number r refl

abbrev StepOn : List ℕ → StepAnswer → Type 0
StepOn m (step.message retired part) = Unit
StepOn m (step.refused x) = On m x
StepOn m step.end = Unit

step_on : (f : List ℕ) (n : ℕ) → StepOn (message_of (record_at f n)) (step_at f n)
step_on f n = by (step_at f n) (reason f n)
  where
    of : (j : Judged) → judged_at f n ≡ j → StepOn (message_of (record_at f n)) (step_of f n j)
    of (good retired x) q = tt
    of (bad x) q = bad_on f n x q

    by : (a : StepAnswer) → Reason f n a → StepOn (message_of (record_at f n)) a
    by _ (at_21 e) = on_plainly (message_of (record_at f n)) 21
    by _ (at_end e there) = tt
    by _ (at_record e there j q) = of j q

pub step_passes_on : StepPassesOn
step_passes_on f n number r e = subst (StepOn (message_of (record_at f n))) e (step_on f n) number r refl

abbrev EntryOn : List ℕ → EntryAnswer → Type 0
EntryOn m (listing.line message_type number size retired) = Unit
EntryOn m (listing.refused x) = On m x

entry_on : (f : List ℕ) (n : ℕ) → EntryOn (message_of (record_at f n)) (entry_at f n)
unfolding entry_at
entry_on f n = go (bad_file f) (not_there f n) (judged_at f n) (judged_on f n)
  where
    go : (a b : Bool) (j : Judged) → JudgedOn (message_of (record_at f n)) j
        → EntryOn (message_of (record_at f n)) (cond a (listing.refused (plainly 21)) (cond b (listing.refused (plainly 22)) (entry_of f n j)))
    go true b j h = on_plainly (message_of (record_at f n)) 21
    go false true j h = on_plainly (message_of (record_at f n)) 22
    go false false (good retired x) h = tt
    go false false (bad x) h = h

pub entry_passes_on : EntryPassesOn
entry_passes_on f n number r e = subst (EntryOn (message_of (record_at f n))) e (entry_on f n) number r refl

-- ---- the radio's message, and one for a record

abbrev ComparedOn : (stored radio : List ℕ) → CompareAnswer → Type 0
ComparedOn stored radio same = Unit
ComparedOn stored radio (different n) = Unit
ComparedOn stored radio (refused x) =
    ((r : Refusal) → x ≡ passing_on 25 r → reading stored ≡ envelope.refused r) × ((r : Refusal) → x ≡ passing_on 31 r → reading radio ≡ envelope.refused r)

neither_on : (m radio : List ℕ) (n : ℕ) → ComparedOn m radio (refused (plainly n))
neither_on m radio n = (λ r e. on_plainly m n 25 r e, λ r e. on_plainly radio n 31 r e)

-- a bad record gives no 31
record_on : (f : List ℕ) (n : ℕ) (radio : List ℕ) (x : Refused) → judged_at f n ≡ bad x → ComparedOn (message_of (record_at f n)) radio (refused x)
record_on f n radio x j = (
  λ r e. bad_on f n x j 25 r e,
  λ r e. absurd (true_is_not_false (subst (Gives (23 ∷ 24 ∷ []) (25 ∷ [])) e (bad_gives f n x j)) refl),
)

-- reading's refusal of the radio's message gives no 25
radio_on : (m g radio : List ℕ) (a : Answer) → reading radio ≡ a → ComparedOn m radio (answer_to_comparing (with_radio g radio a))
unfolding answer_to_comparing
radio_on m g radio (envelope.refused q) e =
    (λ r s. absurd (let z : ◌≡◌ {A = ℕ} 31 25 = cc in omega (arith, z)), λ r s. on_passing radio 31 q e 31 r s)
radio_on m g radio (accepted f) e = told (eqb (length (differing g radio)) 0)
  where
    told : (b : Bool) → ComparedOn m radio (cond b same (different (length (differing g radio))))
    told true = tt
    told false = tt

compared_on : (f : List ℕ) (n : ℕ) (radio : List ℕ) → ComparedOn (message_of (record_at f n)) radio (answer_to_comparing (comparing f n radio))
unfolding comparing answer_to_comparing
compared_on f n radio = go (bad_file f) (not_there f n) (judged_at f n) refl
  where
    m : List ℕ
    m = message_of (record_at f n)

    go : (a b : Bool) (j : Judged) → judged_at f n ≡ j
        → ComparedOn m radio (answer_to_comparing (cond a (refused (plainly 21)) (cond b (refused (plainly 22)) (with_record m radio j))))
    go true b j e = neither_on m radio 21
    go false true j e = neither_on m radio 22
    go false false (bad x) e = record_on f n radio x e
    go false false (good true x) e = neither_on m radio 38
    go false false (good false x) e = radio_on m m radio (reading radio) refl

pub compare_passes_on : ComparePassesOn
compare_passes_on f n radio r = (
  λ e. (subst (ComparedOn (message_of (record_at f n)) radio) e (compared_on f n radio)).0 r refl,
  λ e. (subst (ComparedOn (message_of (record_at f n)) radio) e (compared_on f n radio)).1 r refl,
)

abbrev MadeOn : List ℕ → MakeAnswer → Type 0
MadeOn m make.made = Unit
MadeOn m (make.refused x) = On m x

made_on : (m : List ℕ) (room : ℕ) → MadeOn m (making m room)
unfolding making
made_on m room = go (ltb message_room (length m)) (reading m) refl
  where
    fits : (b : Bool) → MadeOn m (cond b (make.refused (plainly 35)) make.made)
    fits true = on_plainly m 35
    fits false = tt

    go : (a : Bool) (x : Answer) → reading m ≡ x → MadeOn m (cond a (make.refused (plainly 33)) (making_read x room))
    go true x e = on_plainly m 33
    go false (envelope.refused q) e = on_passing m 34 q e
    go false (accepted f) e = fits (not (eqb room record_size))

pub make_passes_on : MakePassesOn
make_passes_on m room number r e = subst (MadeOn m) e (made_on m room) number r refl
