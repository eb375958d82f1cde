-- How large an answer can be, from what check and find say of the file and from how long messages are.
-- Whoever hands answers out in fewer bits rests on these.
use mathlib.Core.Bool.{Bool, true, false, cond}
use mathlib.Core.List.{List}
use mathlib.Core.Path.{◌≡◌, refl}
use Prim.Native.Nat.{ℕ, ◌+◌, ◌≤◌}
use native.Mathlib.Omega.{arith}
use lib.Dec.{eqb}
use lib.ListN.{length, drop, length-take}
use Rattle.envelope.proofs.ReadingLaws.{accepted_most}
use Rattle.envelope.specs.Fields.{Answer, accepted}
use Rattle.envelope.specs.Fields as envelope
use Rattle.envelope.specs.Layout.{largest_message}
use Rattle.envelope.specs.Promise.{Bytes}
use Rattle.envelope.specs.Reading.{reading}
use Rattle.envelope.specs.Refusals.{Refused, plainly, passing_on}
use Rattle.golden.specs.Checking.{CheckAnswer, checking}
use Rattle.golden.specs.Checking as check
use Rattle.golden.specs.Comparing.{differs_at, longer, differing, positions, refused, with_radio, with_record, comparing, same, different, answer_to_comparing}
use Rattle.golden.specs.File.{most_records, bad_file, count_of, not_there, record_at, judged_at}
use Rattle.golden.specs.Finding.{FindAnswer, finding}
use Rattle.golden.specs.Listing.{counting}
use Rattle.golden.specs.Listing as listing
use Rattle.golden.specs.Record.{head_size, message_room, stored_length, message_of, Judged, good, bad}
use Rattle.golden.specs.Stepping.{StepAnswer, step_of, step_at, next_after}
use Rattle.golden.specs.Theorems.{FirstRefused, not_a_file, bad_record, repeated, FindReason, no_file, first_bad, first_named_lem, none_named, checked_number, CheckNamesFew, counted_number, CountIsFew, opened_number, found_number, FindOpensFew, reached_size, StepReachesShort, StepGoesOnByOne, difference_total, CompareTotalsFew}
use Rattle.golden.proofs.CheckedLaws.{checked_are_sound, check_names_the_first}
use Rattle.golden.proofs.ComparingLaws.{longer_below}
use Rattle.golden.proofs.FileLaws.{whole_file}
use Rattle.golden.proofs.FoundLaws.{find_gives_its_reason}
use Rattle.golden.proofs.SelectLaws.{select_few}
use Rattle.golden.proofs.SteppingLaws.{Reason, at_21, at_end, at_record, reason, good_size}

-- ---- check and count

pub check_names_few : CheckNamesFew
check_names_few f = by (checking f) refl
  where
    at : (n : ℕ) (r : Refused) → FirstRefused f n r → n ≤ most_records
    at _ _ (not_a_file h) = omega arith
    at n r (bad_record _ _ h l j before) = omega (arith, (whole_file f h).few)
    at _ _ (repeated i n h l g b p before) = omega (arith, (whole_file f h).few)

    by : (a : CheckAnswer) → checking f ≡ a → checked_number a ≤ most_records
    by (check.counted n) e = let a = checked_are_sound f n e in omega (arith, a.count, (whole_file f a.whole).few)
    by (check.refused n r) e = at n r (check_names_the_first f n r e)

pub count_is_few : CountIsFew
unfolding counting
count_is_few f = go (bad_file f) refl
  where
    go : (b : Bool) → bad_file f ≡ b → counted_number (cond b (listing.refused (plainly 21)) (listing.counted (count_of f))) ≤ most_records
    go true e = omega arith
    go false e = (whole_file f e).few

-- ---- find

pub find_opens_few : FindOpensFew
find_opens_few f name = by (finding f name) (find_gives_its_reason f name)
  where
    by : (a : FindAnswer) → FindReason f name a → (opened_number a ≤ most_records) × (found_number a ≤ most_records)
    by _ (no_file h) = (omega arith, omega arith)
    by _ (first_bad k r h l j before) = (omega (arith, (whole_file f h).few), omega arith)
    by _ (first_named_lem k fields h l j n before) = (omega (arith, (whole_file f h).few), omega (arith, (whole_file f h).few))
    by _ (none_named h others) = ((whole_file f h).few, omega arith)

-- ---- step

pub step_reaches_short : StepReachesShort
step_reaches_short f n = by (step_at f n) (reason f n)
  where
    of : (j : Judged) → judged_at f n ≡ j → reached_size (step_of f n j) ≤ message_room
    of (good retired x) q = good_size f n retired x q
    of (bad r) q = omega arith

    by : (a : StepAnswer) → Reason f n a → reached_size a ≤ message_room
    by _ (at_21 e) = omega arith
    by _ (at_end e there) = omega arith
    by _ (at_record e there j q) = of j q

pub step_goes_on_by_one : StepGoesOnByOne
unfolding next_after
step_goes_on_by_one f n = go (bad_file f) (not_there f n)
  where
    go : (a b : Bool) → let next = cond a n (cond b n (n + 1)) in (n ≤ next) × (next ≤ n + 1)
    go true b = (omega arith, omega arith)
    go false true = (omega arith, omega arith)
    go false false = (omega arith, omega arith)

-- ---- compare

total_of : (ks : List ℕ) → difference_total (answer_to_comparing (positions ks)) ≤ length ks
unfolding answer_to_comparing
total_of ks = go (eqb (length ks) 0)
  where
    go : (b : Bool) → difference_total (cond b same (different (length ks))) ≤ length ks
    go true = omega arith
    go false = omega arith

differing_few : (g r : List ℕ) → length (differing g r) ≤ longer g r
unfolding differing
differing_few g r = select_few (differs_at g r) 0 (longer g r)

nothing_of : (x : Refused) (m : ℕ) → difference_total (answer_to_comparing (refused x)) ≤ m
unfolding answer_to_comparing
nothing_of x m = omega arith

messages_total : (g r : List ℕ) (m : ℕ) → length g ≤ m → length r ≤ m → difference_total (answer_to_comparing (positions (differing g r))) ≤ m
messages_total g r m hg hr = omega (arith, total_of (differing g r), differing_few g r, longer_below g r (m + 1) (omega arith) (omega arith))

with_radio_lem : (g radio : List ℕ) → length g ≤ message_room → Bytes radio → (a : Answer) → reading radio ≡ a
    → difference_total (answer_to_comparing (with_radio g radio a)) ≤ largest_message
with_radio_lem g radio hg bytes (envelope.refused r) e = nothing_of (passing_on 31 r) largest_message
with_radio_lem g radio hg bytes (accepted f) e = messages_total g radio largest_message (omega arith) (accepted_most radio f bytes e)

with_record_lem : (f : List ℕ) (n : ℕ) (radio : List ℕ) → Bytes radio → (j : Judged) → judged_at f n ≡ j
    → difference_total (answer_to_comparing (with_record (message_of (record_at f n)) radio j)) ≤ largest_message
with_record_lem f n radio bytes (bad r) e = nothing_of r largest_message
with_record_lem f n radio bytes (good true x) e = nothing_of (plainly 38) largest_message
with_record_lem f n radio bytes (good false x) e =
    let size = good_size f n false x e in
    let short = length-take (stored_length (record_at f n)) (drop head_size (record_at f n)) in
    with_radio_lem (message_of (record_at f n)) radio (omega (arith, size, short)) bytes (reading radio) refl

pub compare_totals_few : CompareTotalsFew
unfolding comparing
compare_totals_few f n radio bytes = go (bad_file f) (not_there f n)
  where
    go : (a b : Bool)
        → difference_total (answer_to_comparing (cond a (refused (plainly 21)) (cond b (refused (plainly 22)) (with_record (message_of (record_at f n)) radio (judged_at f n))))) ≤ largest_message
    go true b = nothing_of (plainly 21) largest_message
    go false true = nothing_of (plainly 22) largest_message
    go false false = with_record_lem f n radio bytes (judged_at f n) refl
