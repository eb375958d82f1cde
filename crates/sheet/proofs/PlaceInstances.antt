-- K2: for each theorem of SayWhere that has hypotheses, a case in which they hold, computed, and what it then says.
-- The records, frames and feeds are those of the other cases.
use mathlib.Core.Path.{◌≡◌, refl, ap}
use mathlib.Core.List.{List, [], ◌∷◌, ◌++◌}
use Prim.Native.Nat.{ℕ, ◌≤◌}
use lib.ListN.{length, take, set}
use Rattle.sum.proofs.Computed.{literals}
use Rattle.envelope.specs.Fields.{refused, refusal_by, part_of}
use Rattle.envelope.specs.Layout.{largest_message}
use Rattle.envelope.specs.Places.{PlaceOf, PointsInside, place_for}
use Rattle.envelope.specs.Reading.{reading}
use Rattle.envelope.specs.Rewriting.{rewriting}
use Rattle.envelope.specs.Rewriting as rewrite
use Rattle.envelope.specs.declared.reader.Fault.TheVariants.{BadIntegrity}
use Rattle.feed.specs.Feeding.{ending}
use Rattle.feed.specs.Places.{in_room, CountTellsPlace}
use Rattle.feed.specs.Told.{told_feed, Ends}
use Rattle.feed.specs.declared.feeder.Ended.{Ended}
use Rattle.feed.proofs.RefusedLaws.{inside_not_refused}
use Rattle.feed.specs.Verdict.{reads}
use Rattle.frame.specs.Unwrapping.{body_span}
use Rattle.golden.specs.Comparing.{CompareOutcome, answer_to_comparing}
use Rattle.golden.specs.File.{record_at}
use Rattle.golden.specs.Making.{making, record_of}
use Rattle.golden.specs.Making as make
use Rattle.golden.specs.Record.{message_of}
use Rattle.envelope.specs.Refusals.{passing_on}
use Rattle.exports.specs.Feeds.{state_numbers, Stores}
use Rattle.sheet.specs.Cases.{M}
use Rattle.sheet.specs.FeedCases.{damaged_c}
use Rattle.sheet.specs.FrameCases.{held, carrier}
use Rattle.sheet.proofs.Cases.{starred}
use Rattle.sheet.proofs.FeedInstances.{other_version, refused_in, takes_refused, came_of_damaged, run_damaged}
use Rattle.sheet.proofs.Feeding.{storage_keeps_the_state}
use Rattle.sheet.proofs.FrameCases.{unwrap_cases, wrap_cases}
use Rattle.sheet.proofs.OneFeed.{new_feed, is_new}
use Rattle.sheet.proofs.SayWhere.{places_by_table, places_inside, places_by_length, places_within, rewrite_passes_on, check_passes_on, find_passes_on, step_passes_on, entry_passes_on, compare_passes_on, make_passes_on, unwrap_passes_on, wrap_passes_on, place_where_refused, take_keeps_place, end_keeps_place, storage_tells_place, take_leaves_the_state, end_leaves_the_state}
use Rattle.sheet.proofs.WrongPlaces.{other_flags, name_of_m, checks_other_flags, finds_other_flags, steps_on_other_flags, enters_other_flags, compares_other_flags}
use Rattle.sheet.proofs.WrongRules.{refused_radio}

-- ---- reading: M with 05 for its variable header size, at place 16, which lies inside; its last byte changed, at 17, which is 21 minus 4

pub place_of_4 : PlaceOf (set M 16 5) (refusal_by 4 16)
place_of_4 = places_by_table (set M 16 5) (refusal_by 4 16) starred.d.0

pub place_of_4_lies_inside : PointsInside (set M 16 5) (refusal_by 4 16)
place_of_4_lies_inside = places_inside (set M 16 5) (refusal_by 4 16) starred.d.0

pub place_of_7_by_length : 17 ≡ place_for 7 (length (set M 20 1))
place_of_7_by_length = places_by_length (set M 20 1) (refusal_by 7 17) starred.f

pub place_of_1_is_within : 20 ≤ largest_message
place_of_1_is_within = places_within (take 20 M) (refusal_by 1 20) (literals (take 20 M) tt) starred.b

-- ---- passed on: 20 bytes of M

rewrites_short : rewriting (take 20 M) 0 ≡ rewrite.refused (refusal_by 1 20)
rewrites_short = rw starred.b

pub rewritten_as_read : reading (take 20 M) ≡ refused (refusal_by 1 20)
rewritten_as_read = rewrite_passes_on (take 20 M) 0 (refusal_by 1 20) rewrites_short

makes_short : making (take 20 M) 0 ≡ make.refused (passing_on 34 (refusal_by 1 20))
unfolding making
makes_short = rw starred.b

pub made_as_read : reading (take 20 M) ≡ refused (refusal_by 1 20)
made_as_read = make_passes_on (take 20 M) 0 34 (refusal_by 1 20) makes_short

pub radio_as_read : reading (take 20 M) ≡ refused (refusal_by 1 20)
unfolding answer_to_comparing
radio_as_read = (compare_passes_on (record_of M) 0 (take 20 M) (refusal_by 1 20)).1 (ap (λ (o : CompareOutcome). answer_to_comparing o) refused_radio)

-- a record of M with an unassigned flag

abbrev stored : List ℕ
stored = message_of (record_at other_flags 0)

pub checked_as_read : reading stored ≡ refused (refusal_by 3 4)
checked_as_read = check_passes_on other_flags 0 25 (refusal_by 3 4) checks_other_flags

pub found_as_read : reading stored ≡ refused (refusal_by 3 4)
found_as_read = find_passes_on other_flags name_of_m 0 25 (refusal_by 3 4) finds_other_flags

pub stepped_as_read : reading stored ≡ refused (refusal_by 3 4)
stepped_as_read = step_passes_on other_flags 0 25 (refusal_by 3 4) steps_on_other_flags

pub entered_as_read : reading stored ≡ refused (refusal_by 3 4)
entered_as_read = entry_passes_on other_flags 0 25 (refusal_by 3 4) enters_other_flags

pub compared_as_read : reading stored ≡ refused (refusal_by 3 4)
unfolding answer_to_comparing
compared_as_read = (compare_passes_on other_flags 0 M (refusal_by 3 4)).0 (ap (λ (o : CompareOutcome). answer_to_comparing o) compares_other_flags)

-- frames

pub unwrapped_as_read : reading (part_of (set carrier 35 1) (body_span (set carrier 35 1))) ≡ refused (refusal_by 7 20)
unwrapped_as_read = unwrap_passes_on (set carrier 35 1) 67 (refusal_by 7 20) unwrap_cases.message_integrity

pub wrapped_as_read : reading (set held 0 5) ≡ refused (refusal_by 2 0)
wrapped_as_read = wrap_passes_on (set held 0 5) 0x01020304 0 67 (refusal_by 2 0) wrap_cases.message_refused_first

-- ---- the feed: C with a bit of its body flipped, 23 bytes, and M behind it

pub where_7_points : PlaceOf damaged_c (refusal_by 7 19)
where_7_points = place_where_refused new_feed (damaged_c ++ M) came_of_damaged (record { fault = BadIntegrity; place = 19 }) is_new run_damaged refl

-- a new feed tells its place, none being refused; and so the one that header version 3 stopped

new_tells_place : CountTellsPlace (told_feed new_feed)
new_tells_place r e = absurd (inside_not_refused (reads r) e)

refused_tells_place : CountTellsPlace (told_feed refused_in.feed)
refused_tells_place = take_keeps_place new_feed other_version refused_in refl new_tells_place takes_refused

pub count_tells_place_0 : 0 ≡ place_for 2 (in_room 17)
count_tells_place_0 = refused_tells_place (refusal_by 2 0) refl

abbrev ended_again : Ended
ended_again = record { feed = refused_in.feed; found = refused_in.found }

ends_again : Ends refused_in.feed ended_again
unfolding ending
ends_again = refl

pub end_tells_place_0 : 0 ≡ place_for 2 (in_room 17)
end_tells_place_0 = end_keeps_place refused_in.feed ended_again refused_tells_place ends_again (refusal_by 2 0) refl

-- ---- in storage that C lends: all zeros, and what the refusal leaves there

pub storage_of_the_refused : Stores refused_in.feed.kept (17 ∷ 2 ∷ []) refused_in.feed
storage_of_the_refused = storage_keeps_the_state refused_in.feed refused_tells_place

pub stored_place_is_0 : 0 ≡ place_for 2 (in_room 17)
stored_place_is_0 = storage_tells_place refused_in.feed.kept (17 ∷ 2 ∷ []) refused_in.feed storage_of_the_refused (refusal_by 2 0) refl

pub taken_leaves_the_refused : Stores refused_in.feed.kept (state_numbers (told_feed refused_in.feed)) refused_in.feed
taken_leaves_the_refused = take_leaves_the_state new_feed new_feed.kept (0 ∷ 0 ∷ []) other_version refused_in refl refl takes_refused

pub ended_leaves_the_refused : Stores refused_in.feed.kept (state_numbers (told_feed refused_in.feed)) refused_in.feed
ended_leaves_the_refused = end_leaves_the_state refused_in.feed refused_in.feed.kept (17 ∷ 2 ∷ []) ended_again storage_of_the_refused ends_again
