-- The place that a refusal passes on is no larger than the message is long: of a record at most 510, of the radio's the longest.
-- Each is shown of the whole answer, as in FewLaws.
use mathlib.Core.Bool.{Bool, true, false, cond, not}
use mathlib.Core.List.{List}
use mathlib.Core.Path.{◌≡◌, refl}
use Prim.Native.Nat.{ℕ, ◌≤◌}
use native.Mathlib.Omega.{arith}
use borrow.Author.Tests.{ltb-false}
use lib.Dec.{eqb, ltb}
use lib.ListN.{length, drop, length-take}
use Rattle.envelope.proofs.PlaceLaws.{place_most, places_within}
use Rattle.envelope.specs.Fields.{Answer, accepted}
use Rattle.envelope.specs.Fields as envelope
use Rattle.envelope.specs.Layout.{largest_message}
use Rattle.envelope.specs.Promise.{Bytes}
use Rattle.envelope.specs.Reading.{reading}
use Rattle.envelope.specs.Refusals.{Refused, plainly, place_in}
use Rattle.golden.specs.Checking.{CheckAnswer, checking}
use Rattle.golden.specs.Checking as check
use Rattle.golden.specs.Comparing.{differing, same, different, refused, with_radio, with_record, comparing, answer_to_comparing}
use Rattle.golden.specs.File.{bad_file, count_of, not_there, record_at, judged_at}
use Rattle.golden.specs.Finding.{FindAnswer, finding}
use Rattle.golden.specs.Listing.{counting, retired_below, counting_retired, entry_of, entry_at}
use Rattle.golden.specs.Listing as listing
use Rattle.golden.specs.Making.{making, making_read}
use Rattle.golden.specs.Making as make
use Rattle.golden.specs.Record.{head_size, record_size, message_room, is_retired, stored_length, message_of, bad_length, not_clear, Judged, good, bad, by_reading, judging}
use Rattle.golden.specs.Stepping.{StepAnswer, step_of, step_at}
use Rattle.golden.specs.Theorems.{FirstRefused, not_a_file, bad_record, repeated, FindReason, no_file, first_bad, first_named_lem, none_named, count_place, CountPointsNowhere, check_place, CheckPointsShort, find_place, FindPointsShort, step_place, StepPointsShort, entry_place, EntryPointsShort, compare_place, ComparePointsWithin, make_place, MakePointsShort}
use Rattle.golden.proofs.CheckedLaws.{check_names_the_first}
use Rattle.golden.proofs.FoundLaws.{find_gives_its_reason}
use Rattle.golden.proofs.RecordLaws.{length_most}
use Rattle.golden.proofs.SteppingLaws.{Reason, at_21, at_end, at_record, reason}

-- ---- a record

judged_place : Judged → ℕ
judged_place (good retired f) = 0
judged_place (bad r) = place_in r

-- a message that the stored length cuts out is no longer than it
message_short : (r : List ℕ) → stored_length r ≤ message_room → length (message_of r) ≤ message_room
message_short r h = omega (arith, length-take (stored_length r) (drop head_size r))

by_reading_lem : (r : List ℕ) (mark : Bool) (x : Answer) → stored_length r ≤ message_room → reading (message_of r) ≡ x → judged_place (by_reading mark x) ≤ message_room
unfolding judged_place
by_reading_lem r mark (accepted f) h e = omega arith
by_reading_lem r mark (envelope.refused q) h e = omega (arith, place_most (message_of r) q e, message_short r h)

judged_points : (f : List ℕ) (n : ℕ) → judged_place (judged_at f n) ≤ message_room
unfolding judged_at judging judged_place
judged_points f n = go (bad_length (stored_length r)) refl (not_clear r)
  where
    r : List ℕ
    r = record_at f n

    go : (a : Bool) → bad_length (stored_length r) ≡ a → (b : Bool)
        → judged_place (cond a (bad (plainly 23)) (cond b (bad (plainly 24)) (by_reading (is_retired r) (reading (message_of r))))) ≤ message_room
    go true e b = omega arith
    go false e true = omega arith
    go false e false = by_reading_lem r (is_retired r) (reading (message_of r)) (length_most (stored_length r) e) refl

pub bad_points : (f : List ℕ) (n : ℕ) (r : Refused) → judged_at f n ≡ bad r → place_in r ≤ message_room
unfolding judged_place
bad_points f n r e = rw e at (judged_points f n)

-- ---- the file

pub count_points_nowhere : CountPointsNowhere
unfolding counting counting_retired
count_points_nowhere f = (go (bad_file f) (count_of f), go (bad_file f) (retired_below f (count_of f)))
  where
    go : (b : Bool) (n : ℕ) → count_place (cond b (listing.refused (plainly 21)) (listing.counted n)) ≡ 0
    go true n = refl
    go false n = refl

pub check_points_short : CheckPointsShort
check_points_short f = by (checking f) refl
  where
    at : (n : ℕ) (r : Refused) → FirstRefused f n r → place_in r ≤ message_room
    at _ _ (not_a_file h) = omega arith
    at n r (bad_record _ _ h l j before) = bad_points f n r j
    at _ _ (repeated i n h l g b p before) = omega arith

    by : (a : CheckAnswer) → checking f ≡ a → check_place a ≤ message_room
    by (check.counted n) e = omega arith
    by (check.refused n r) e = at n r (check_names_the_first f n r e)

pub find_points_short : FindPointsShort
find_points_short f name = by (finding f name) (find_gives_its_reason f name)
  where
    by : (a : FindAnswer) → FindReason f name a → find_place a ≤ message_room
    by _ (no_file h) = omega arith
    by _ (first_bad k r h l j before) = bad_points f k r j
    by _ (first_named_lem k fields h l j n before) = omega arith
    by _ (none_named h others) = omega arith

pub step_points_short : StepPointsShort
step_points_short f n = by (step_at f n) (reason f n)
  where
    of : (j : Judged) → judged_at f n ≡ j → step_place (step_of f n j) ≤ message_room
    of (good retired x) q = omega arith
    of (bad r) q = bad_points f n r q

    by : (a : StepAnswer) → Reason f n a → step_place a ≤ message_room
    by _ (at_21 e) = omega arith
    by _ (at_end e there) = omega arith
    by _ (at_record e there j q) = of j q

pub entry_points_short : EntryPointsShort
unfolding entry_at
entry_points_short f n = go (bad_file f) (not_there f n) (judged_at f n) refl
  where
    go : (a b : Bool) (j : Judged) → judged_at f n ≡ j
        → entry_place (cond a (listing.refused (plainly 21)) (cond b (listing.refused (plainly 22)) (entry_of f n j))) ≤ message_room
    go true b j e = omega arith
    go false true j e = omega arith
    go false false (good retired x) e = omega arith
    go false false (bad r) e = bad_points f n r e

-- ---- the radio's message, and one for a record

told_points : (b : Bool) (n : ℕ) → compare_place (cond b same (different n)) ≤ largest_message
told_points true n = omega arith
told_points false n = omega arith

radio_points : (g radio : List ℕ) → Bytes radio → (a : Answer) → reading radio ≡ a
    → compare_place (answer_to_comparing (with_radio g radio a)) ≤ largest_message
unfolding answer_to_comparing
radio_points g radio bytes (envelope.refused r) e = places_within radio r bytes e
radio_points g radio bytes (accepted f) e = told_points (eqb (length (differing g radio)) 0) (length (differing g radio))

pub compare_points_within : ComparePointsWithin
unfolding comparing answer_to_comparing
compare_points_within f n radio bytes = go (bad_file f) (not_there f n) (judged_at f n) refl
  where
    go : (a b : Bool) (j : Judged) → judged_at f n ≡ j
        → compare_place (answer_to_comparing (cond a (refused (plainly 21)) (cond b (refused (plainly 22)) (with_record (message_of (record_at f n)) radio j)))) ≤ largest_message
    go true b j e = omega arith
    go false true j e = omega arith
    go false false (bad r) e = omega (arith, bad_points f n r e)
    go false false (good true x) e = omega arith
    go false false (good false x) e = radio_points (message_of (record_at f n)) radio bytes (reading radio) refl

pub make_points_short : MakePointsShort
unfolding making
make_points_short m room = go (ltb message_room (length m)) refl (reading m) refl
  where
    fits : (b : Bool) → make_place (cond b (make.refused (plainly 35)) make.made) ≤ message_room
    fits true = omega arith
    fits false = omega arith

    go : (a : Bool) → ltb message_room (length m) ≡ a → (x : Answer) → reading m ≡ x
        → make_place (cond a (make.refused (plainly 33)) (making_read x room)) ≤ message_room
    go true h x e = omega arith
    go false h (envelope.refused q) e = omega (arith, place_most m q e, ltb-false message_room (length m) h)
    go false h (accepted f) e = fits (not (eqb room record_size))
