-- Which refusals each operation can give: whatever it answers, a refusal in it is one of its line.
-- Each is shown of the whole answer, by the tests in their order.
use Prim.Native.Nat.{ℕ, zero, suc, ◌+◌}
use mathlib.Core.Bool.{Bool, true, false, cond, not, ◌&&◌}
use mathlib.Core.List.{List, [], ◌∷◌}
use mathlib.Core.Path.{refl, subst}
use lib.Dec.{eqb, ltb}
use lib.ListN.{length}
use Rattle.envelope.specs.Fields.{Answer, accepted}
use Rattle.envelope.specs.Fields as envelope
use Rattle.envelope.specs.Reading.{reading}
use Rattle.envelope.specs.Refusals.{plainly, Gives}
use Rattle.golden.specs.Checking as check
use Rattle.golden.specs.Comparing as compare
use Rattle.golden.specs.File.{bad_file, count_of, not_there, record_at, judged_at}
use Rattle.golden.specs.Finding as find
use Rattle.golden.specs.Gives.{CountGives, CountRetiredGives, CheckGives, FindGives, HalvingGives, StepGives, EntryGives, CompareGives, MakeGives, RetireGives}
use Rattle.golden.specs.Listing as list
use Rattle.golden.specs.Making as make
use Rattle.golden.specs.Record.{record_size, message_room, message_of, Judged, good, bad}
use Rattle.golden.specs.Retiring as retire
use Rattle.golden.specs.Stepping as step
use Rattle.golden.proofs.FileLaws.{InJudged, judged_gives}
use Rattle.golden.proofs.HalvingLaws.{halving_ends}

-- ---- count

abbrev InCount : list.CountAnswer → Type 0
InCount (list.counted n) = Unit
InCount (list.refused r) = Gives (21 ∷ []) [] r

counts_or_21 : (b : Bool) (n : ℕ) → InCount (cond b (list.refused (plainly 21)) (list.counted n))
counts_or_21 true n = refl
counts_or_21 false n = tt

pub count_gives : CountGives
unfolding list.counting
count_gives f r e = subst InCount e (counts_or_21 (bad_file f) (count_of f))

pub count_retired_gives : CountRetiredGives
unfolding list.counting_retired
count_retired_gives f r e = subst InCount e (counts_or_21 (bad_file f) (list.retired_below f (count_of f)))

-- ---- check

abbrev InCheck : check.CheckAnswer → Type 0
InCheck (check.counted n) = Unit
InCheck (check.refused n r) = Gives (21 ∷ 23 ∷ 24 ∷ 26 ∷ []) (25 ∷ []) r

check_on : (n : ℕ) (b : Bool) (j : Judged) (others : check.CheckAnswer) → InJudged (21 ∷ 23 ∷ 24 ∷ 26 ∷ []) (25 ∷ []) refl refl refl j → InCheck others → InCheck (check.unless_bad n b j others)
check_on n true (good retired f) others here later = refl
check_on n false (good retired f) others here later = later
check_on n b (bad r) others here later = here

check_from_lem : (f : List ℕ) (n left : ℕ) → InCheck (check.check_from f n left)
unfolding check.check_from
check_from_lem f n zero = tt
check_from_lem f n (suc left) =
    check_on n (check.repeats f n) (judged_at f n) (check.check_from f (n + 1) left) (judged_gives (21 ∷ 23 ∷ 24 ∷ 26 ∷ []) (25 ∷ []) refl refl refl f n) (check_from_lem f (n + 1) left)

pub check_gives : CheckGives
unfolding check.checking
check_gives f n r e = subst InCheck e (go (bad_file f))
  where
    go : (b : Bool) → InCheck (cond b (check.refused 0 (plainly 21)) (check.check_from f 0 (count_of f)))
    go true = refl
    go false = check_from_lem f 0 (count_of f)

-- ---- find

abbrev InFind : find.FindAnswer → Type 0
InFind (find.found n opened) = Unit
InFind (find.refused r opened) = Gives (21 ∷ 23 ∷ 24 ∷ 27 ∷ []) (25 ∷ []) r

find_on : (name : find.NameFields) (n : ℕ) (j : Judged) (others : find.FindAnswer)
    → InJudged (21 ∷ 23 ∷ 24 ∷ 27 ∷ []) (25 ∷ []) refl refl refl j → InFind others → InFind (find.decides name n j others)
find_on name n (bad r) others here later = here
find_on name n (good retired f) others here later = named (not retired && find.has_name name f)
  where
    named : (b : Bool) → InFind (cond b (find.found n (n + 1)) others)
    named true = tt
    named false = later

find_from_lem : (f : List ℕ) (name : find.NameFields) (n left : ℕ) → InFind (find.find_from f name n left)
unfolding find.find_from
find_from_lem f name n zero = refl
find_from_lem f name n (suc left) =
    find_on name n (judged_at f n) (find.find_from f name (n + 1) left) (judged_gives (21 ∷ 23 ∷ 24 ∷ 27 ∷ []) (25 ∷ []) refl refl refl f n)
    (find_from_lem f name (n + 1) left)

pub find_gives : FindGives
unfolding find.finding
find_gives f name r opened e = subst InFind e (go (bad_file f))
  where
    go : (b : Bool) → InFind (cond b (find.refused (plainly 21) 0) (find.find_from f name 0 (count_of f)))
    go true = refl
    go false = find_from_lem f name 0 (count_of f)

pub halving_gives : HalvingGives
halving_gives f name r opened e =
    subst InFind e
    (halving_ends InFind f name (λ k. refl)
    (λ k opened x l j. subst (InJudged (21 ∷ 23 ∷ 24 ∷ 27 ∷ []) (25 ∷ []) refl refl refl) j (judged_gives (21 ∷ 23 ∷ 24 ∷ 27 ∷ []) (25 ∷ []) refl refl refl f k))
    (λ k opened l. tt)
    refl)

-- ---- step and line

abbrev InStep : step.StepAnswer → Type 0
InStep (step.message retired p) = Unit
InStep (step.refused r) = Gives (21 ∷ 23 ∷ 24 ∷ []) (25 ∷ []) r
InStep step.end = Unit

pub step_gives : StepGives
unfolding step.step_at
step_gives f n r e = subst InStep e (go (bad_file f) (not_there f n) (judged_at f n) (judged_gives (21 ∷ 23 ∷ 24 ∷ []) (25 ∷ []) refl refl refl f n))
  where
    go : (a b : Bool) (j : Judged) → InJudged (21 ∷ 23 ∷ 24 ∷ []) (25 ∷ []) refl refl refl j
        → InStep (cond a (step.refused (plainly 21)) (cond b step.end (step.step_of f n j)))
    go true b j h = refl
    go false true j h = tt
    go false false (good retired x) h = tt
    go false false (bad x) h = h

abbrev InEntry : list.EntryAnswer → Type 0
InEntry (list.line message_type number size retired) = Unit
InEntry (list.refused r) = Gives (21 ∷ 22 ∷ 23 ∷ 24 ∷ []) (25 ∷ []) r

pub entry_gives : EntryGives
unfolding list.entry_at
entry_gives f n r e = subst InEntry e (go (bad_file f) (not_there f n) (judged_at f n) (judged_gives (21 ∷ 22 ∷ 23 ∷ 24 ∷ []) (25 ∷ []) refl refl refl f n))
  where
    go : (a b : Bool) (j : Judged) → InJudged (21 ∷ 22 ∷ 23 ∷ 24 ∷ []) (25 ∷ []) refl refl refl j
        → InEntry (cond a (list.refused (plainly 21)) (cond b (list.refused (plainly 22)) (list.entry_of f n j)))
    go true b j h = refl
    go false true j h = refl
    go false false (good retired x) h = tt
    go false false (bad x) h = h

-- ---- compare

abbrev InCompare : compare.CompareAnswer → Type 0
InCompare compare.same = Unit
InCompare (compare.different n) = Unit
InCompare (compare.refused r) = Gives (21 ∷ 22 ∷ 23 ∷ 24 ∷ 38 ∷ []) (25 ∷ 31 ∷ []) r

counted : (b : Bool) (n : ℕ) → InCompare (cond b compare.same (compare.different n))
counted true n = tt
counted false n = tt

radio_gives : (g radio : List ℕ) (x : Answer) → InCompare (compare.answer_to_comparing (compare.with_radio g radio x))
unfolding compare.answer_to_comparing
radio_gives g radio (envelope.refused r) = refl
radio_gives g radio (accepted f) = counted (eqb (length (compare.differing g radio)) 0) (length (compare.differing g radio))

pub compare_gives : CompareGives
unfolding compare.comparing compare.answer_to_comparing
compare_gives f n radio r e =
    subst InCompare e (go (bad_file f) (not_there f n) (judged_at f n) (judged_gives (21 ∷ 22 ∷ 23 ∷ 24 ∷ 38 ∷ []) (25 ∷ 31 ∷ []) refl refl refl f n))
  where
    go : (a b : Bool) (j : Judged) → InJudged (21 ∷ 22 ∷ 23 ∷ 24 ∷ 38 ∷ []) (25 ∷ 31 ∷ []) refl refl refl j
        → InCompare (compare.answer_to_comparing (cond a (compare.refused (plainly 21)) (cond b (compare.refused (plainly 22)) (compare.with_record (message_of (record_at f n)) radio j))))
    go true b j h = refl
    go false true j h = refl
    go false false (bad x) h = h
    go false false (good true x) h = refl
    go false false (good false x) h = radio_gives (message_of (record_at f n)) radio (reading radio)

-- ---- make

abbrev InMake : make.MakeAnswer → Type 0
InMake make.made = Unit
InMake (make.refused r) = Gives (33 ∷ 35 ∷ []) (34 ∷ []) r

pub make_gives : MakeGives
unfolding make.making
make_gives m room r e = subst InMake e (go (ltb message_room (length m)) (reading m))
  where
    fits : (b : Bool) → InMake (cond b (make.refused (plainly 35)) make.made)
    fits true = refl
    fits false = tt

    go : (a : Bool) (x : Answer) → InMake (cond a (make.refused (plainly 33)) (make.making_read x room))
    go true x = refl
    go false (envelope.refused q) = refl
    go false (accepted f) = fits (not (eqb room record_size))

-- ---- retire

abbrev InRetire : retire.RetireAnswer → Type 0
InRetire retire.done = Unit
InRetire (retire.refused r) = Gives (21 ∷ 22 ∷ 23 ∷ 24 ∷ 36 ∷ 37 ∷ []) (25 ∷ []) r

pub retire_gives : RetireGives
unfolding retire.retiring
retire_gives f n room r e =
    subst InRetire e (go (bad_file f) (not_there f n) (judged_at f n) (judged_gives (21 ∷ 22 ∷ 23 ∷ 24 ∷ 36 ∷ 37 ∷ []) (25 ∷ []) refl refl refl f n))
  where
    fits : (b : Bool) → InRetire (cond b (retire.refused (plainly 37)) retire.done)
    fits true = refl
    fits false = tt

    go : (a b : Bool) (j : Judged) → InJudged (21 ∷ 22 ∷ 23 ∷ 24 ∷ 36 ∷ 37 ∷ []) (25 ∷ []) refl refl refl j
        → InRetire (cond a (retire.refused (plainly 21)) (cond b (retire.refused (plainly 22)) (retire.retiring_judged j (length f) room)))
    go true b j h = refl
    go false true j h = refl
    go false false (bad x) h = h
    go false false (good true x) h = refl
    go false false (good false x) h = fits (not (eqb room (length f)))
