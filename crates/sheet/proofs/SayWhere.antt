-- K2: where each refusal of reading points, and that whoever passes it on points there too.
-- For each that has hypotheses, PlaceInstances has a case in which they hold.
use Rattle.envelope.specs.Places.{PlacesByTable, PlacesInside, PlacesByLength, PlacesWithin}
use Rattle.envelope.specs.Rewriting.{RewritePassesOn}
use Rattle.envelope.proofs.PlaceLaws as places
use Rattle.envelope.proofs.RewriteLaws as rewriting
use Rattle.golden.specs.Theorems.{CheckPassesOn, FindPassesOn, StepPassesOn, EntryPassesOn, ComparePassesOn, MakePassesOn}
use Rattle.golden.proofs.PassLaws as golden
use Rattle.frame.specs.Passing.{UnwrapPassesOn, WrapPassesOn}
use Rattle.frame.proofs.PassLaws as frame
use Rattle.feed.specs.Places.{PlaceWhereRefused, TakeKeepsPlace, EndKeepsPlace}
use Rattle.feed.proofs.PlaceLaws as feed
use Rattle.exports.specs.Feeds.{StorageTellsPlace, TakeLeavesTheState, EndLeavesTheState}
use Rattle.exports.proofs.FeedLaws as exports

-- ---- reading

pub places_by_table : PlacesByTable
places_by_table = places.places_by_table

pub places_inside : PlacesInside
places_inside = places.places_inside

pub places_by_length : PlacesByLength
places_by_length = places.places_by_length

pub places_within : PlacesWithin
places_within = places.places_within

-- ---- whoever passes it on: the refusal is the one that reading gives of the message, whole

pub rewrite_passes_on : RewritePassesOn
rewrite_passes_on = rewriting.rewrite_passes_on

pub check_passes_on : CheckPassesOn
check_passes_on = golden.check_passes_on

pub find_passes_on : FindPassesOn
find_passes_on = golden.find_passes_on

pub step_passes_on : StepPassesOn
step_passes_on = golden.step_passes_on

pub entry_passes_on : EntryPassesOn
entry_passes_on = golden.entry_passes_on

pub compare_passes_on : ComparePassesOn
compare_passes_on = golden.compare_passes_on

pub make_passes_on : MakePassesOn
make_passes_on = golden.make_passes_on

pub unwrap_passes_on : UnwrapPassesOn
unwrap_passes_on = frame.unwrap_passes_on

pub wrap_passes_on : WrapPassesOn
wrap_passes_on = frame.wrap_passes_on

-- ---- the feed

pub place_where_refused : PlaceWhereRefused
place_where_refused = feed.place_where_refused

pub take_keeps_place : TakeKeepsPlace
take_keeps_place = feed.take_keeps_place

pub end_keeps_place : EndKeepsPlace
end_keeps_place = feed.end_keeps_place

-- ---- the feed in storage that C lends, where the place is not stored

pub storage_tells_place : StorageTellsPlace
storage_tells_place = exports.storage_tells_place

pub take_leaves_the_state : TakeLeavesTheState
take_leaves_the_state = exports.take_leaves_the_state

pub end_leaves_the_state : EndLeavesTheState
end_leaves_the_state = exports.end_leaves_the_state
