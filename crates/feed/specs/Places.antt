-- The place that a feed passes on: that of reading, and for a refusal that stands its number and how many bytes are in tell it. RULES 7.
-- So whoever keeps a feed's count and number keeps its place too. Proofs in proofs/PlaceLaws.
use Rattle.std.specs.Prelude.{ℕ, ◌≤◌, cond, List, ◌≡◌, ltb, take}
use Rattle.envelope.specs.Fields.{Refusal}
use Rattle.envelope.specs.Places.{PlaceOf, place_for}
use Rattle.envelope.specs.Told.{told_refusal}
use Rattle.envelope.specs.declared.reader.Refusal.{Refusal as ReadingRefusal}
use Rattle.feed.specs.Cutting.{Came, Calls}
use Rattle.feed.specs.Feeding.{refused, State, Finding, nothing, message, FeedOutcome, taking, ending}
use Rattle.feed.specs.Feeding as feeding
use Rattle.feed.specs.Messages.{Roomy}
use Rattle.feed.specs.Told.{told_feed, Fresh, Takes, Ends}
use Rattle.feed.specs.Verdict.{room, reads, feed_numbers}
use Rattle.feed.specs.declared.feeder.Ended.{Ended}
use Rattle.feed.specs.declared.feeder.Feed.{Feed}
use Rattle.feed.specs.declared.feeder.Taken.{Taken}
use Rattle.feed.specs.declared.refusal.Refusal.TheVariants.{MessageRefused}
use Rattle.feed.specs.declared.step.Standing.TheVariants.{Refused}

-- whatever run from a new feed: the place is K2's, of the bytes that are in of the refused message
abbrev pub PlaceWhereRefused : Type 0
PlaceWhereRefused =
    (f : Feed) (bytes : List ℕ) (c : Came) (refusal : ReadingRefusal) → Fresh f → Calls f bytes c → c.feed.beside.standing ≡ Refused (MessageRefused refusal)
    → PlaceOf (take c.feed.beside.count c.feed.kept) (told_refusal refusal)

-- how many bytes can be in, by a count that no feed has too
abbrev pub in_room : ℕ → ℕ
in_room n = cond (ltb room n) room n

abbrev pub CountTellsPlace : State → Type 0
CountTellsPlace s = (r : Refusal) → s.stand ≡ refused (reads r) → r.place ≡ place_for r.number (in_room s.count)

-- and every call keeps that
abbrev pub TakeKeepsPlace : Type 0
TakeKeepsPlace =
    (f : Feed) (piece : List ℕ) (t : Taken) → Roomy (told_feed f) → CountTellsPlace (told_feed f) → Takes f piece t → CountTellsPlace (told_feed t.feed)

abbrev pub EndKeepsPlace : Type 0
EndKeepsPlace = (f : Feed) (e : Ended) → CountTellsPlace (told_feed f) → Ends f e → CountTellsPlace (told_feed e.feed)

-- so no place that is told is past the room
abbrev pub found_place : Finding → ℕ
found_place nothing = 0
found_place (message n f) = 0
found_place (feeding.refused f) = (feed_numbers f).place

-- what a call tells of a state, whose count tells its place
abbrev pub PointsShort : State → FeedOutcome → Type 0
PointsShort s o = CountTellsPlace s → found_place o.finding ≤ room

abbrev pub TakePointsShort : Type 0
TakePointsShort = (s : State) (piece : List ℕ) (o : FeedOutcome) → Roomy s → o ≡ taking s piece → PointsShort s o

abbrev pub EndPointsShort : Type 0
EndPointsShort = (s : State) (o : FeedOutcome) → o ≡ ending s → PointsShort s o
