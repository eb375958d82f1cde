-- The feed as C sees it: its state in storage that is lent, each answer as a word, and what the lent storage then holds.
-- The answers themselves are those of the crate `feed`. Any content of the storage is a state.
use Rattle.std.specs.Prelude.{ℕ, cond, List, [], ◌∷◌, ◌≡◌, eqb, ltb, length, get_or, take}
use Rattle.envelope.specs.Fields.{Refusal, refusal_by}
use Rattle.envelope.specs.Places.{place_for}
use Rattle.feed.specs.Feeding.{Stand, inside, whole, refused, State, fresh, Finding, nothing, message, FeedOutcome, taking, ending, holding}
use Rattle.feed.specs.Places.{in_room, CountTellsPlace}
use Rattle.feed.specs.Told.{told_feed, told_found, Fresh, Takes, Ends, Holds}
use Rattle.feed.specs.Verdict.{room, reads, too_long, cut, feed_numbers, number_of}
use Rattle.feed.specs.declared.feeder.Ended.{Ended}
use Rattle.feed.specs.declared.feeder.Feed.{Feed}
use Rattle.feed.specs.declared.feeder.Taken.{Taken}
use Rattle.exports.specs.Envelopes.{field_numbers}
use Rattle.exports.specs.Word.{Slots, slots, word, sized, numbers_slots}

-- ---- the state: the bytes kept, and two numbers, how many of them are in and how the feed stands

-- a refusal is told by its number
abbrev pub standing_number : Stand → ℕ
standing_number inside = 0
standing_number whole = 255
standing_number (refused f) = number_of f

-- a refusal of reading: its place is told by its number and how many bytes are in
abbrev pub refusal_for : (number count : ℕ) → Refusal
refusal_for number count = refusal_by number (place_for number (in_room count))

-- 0 is inside, 1 to 7, 51 and 52 are refusals, and any other number is whole
abbrev pub standing_for : (number count : ℕ) → Stand
standing_for number count =
    cond (eqb number 0) inside
    (cond (ltb number 8) (refused (reads (refusal_for number count)))
    (cond (eqb number 51) (refused too_long)
    (cond (eqb number 52) (refused cut)
    whole)))

abbrev pub state_numbers : State → List ℕ
state_numbers s = s.count ∷ standing_number s.stand ∷ []

abbrev pub state_for : (kept numbers : List ℕ) → State
state_for kept numbers = record { kept = kept; count = get_or numbers 0 0; stand = standing_for (get_or numbers 1 0) (get_or numbers 0 0) }

-- ---- take: the count is that of the bytes used, the value the message's size, 0 where none is found, or a refusal's place

abbrev pub found_slots : Finding → ℕ → Slots
found_slots nothing used = slots 0 0 used 0
found_slots (message n f) used = slots 0 0 used n
found_slots (refused f) used = numbers_slots (feed_numbers f) used

abbrev pub fields_found : Finding → List ℕ → List ℕ
fields_found nothing entry = entry
fields_found (message n f) entry = field_numbers f
fields_found (refused f) entry = entry

-- what is lent to `morlewen_feed_take`, before it or after it
pub record Lent : Type 0 where
  pub kept : List ℕ
  pub numbers : List ℕ
  pub fields : List ℕ

abbrev pub lent : (kept numbers fields : List ℕ) → Lent
lent kept numbers fields = record { kept = kept; numbers = numbers; fields = fields }

abbrev pub lent_after : FeedOutcome → List ℕ → Lent
lent_after o fields = lent o.state.kept (state_numbers o.state) (fields_found o.finding fields)

abbrev pub taking_for : Lent → List ℕ → FeedOutcome
taking_for entry piece = taking (state_for entry.kept entry.numbers) piece

-- what `morlewen_feed_take` promises
abbrev pub TakesForC : Lent → List ℕ → ℕ → Lent → Type 0
TakesForC entry piece r exit =
    (r ≡ word (found_slots (taking_for entry piece).finding (taking_for entry piece).used))
    × (exit ≡ lent_after (taking_for entry piece) entry.fields)

-- ---- end: the bytes kept stay, whatever they are

abbrev pub ending_for : (kept numbers : List ℕ) → FeedOutcome
ending_for kept numbers = ending (state_for kept numbers)

-- what `morlewen_feed_end` promises
abbrev pub EndsForC : List ℕ → ℕ → List ℕ → Type 0
EndsForC entry r exit =
    (kept : List ℕ) → (r ≡ word (found_slots (ending_for kept entry).finding 0)) × (exit ≡ state_numbers (ending_for kept entry).state)

-- ---- a new feed

-- what `morlewen_feed_restart` promises of the bytes and the numbers lent
abbrev pub RestartsForC : List ℕ → List ℕ → Type 0
RestartsForC kept numbers = (kept ≡ fresh.kept) × (numbers ≡ state_numbers fresh)

-- ---- the message that was found: the value is its size, 0 where none is held

-- what `morlewen_feed_message` promises
abbrev pub HoldsForC : (kept numbers : List ℕ) → ℕ → Type 0
HoldsForC kept numbers r = r ≡ word (sized (length (holding (state_for kept numbers))))

-- ---- calls from C are the feed's own calls

-- storage that holds this feed, in whichever numbers
abbrev pub Stores : (kept numbers : List ℕ) → Feed → Type 0
Stores kept numbers f = state_for kept numbers ≡ told_feed f

-- storage of 510 bytes; whatever it holds, the place of a refusal there is told by the count
abbrev pub StorageTellsPlace : Type 0
StorageTellsPlace = (kept numbers : List ℕ) (f : Feed) → Stores kept numbers f → CountTellsPlace (told_feed f)

-- what a call leaves in the storage is the state that the next one finds there
abbrev pub StorageKeepsTheState : Type 0
StorageKeepsTheState = (f : Feed) → CountTellsPlace (told_feed f) → Stores f.kept (state_numbers (told_feed f)) f

abbrev pub TakeLeavesTheState : Type 0
TakeLeavesTheState =
    (f : Feed) (kept numbers piece : List ℕ) (t : Taken) → length kept ≡ room → Stores kept numbers f → Takes f piece t
    → Stores t.feed.kept (state_numbers (told_feed t.feed)) t.feed

abbrev pub EndLeavesTheState : Type 0
EndLeavesTheState =
    (f : Feed) (kept numbers : List ℕ) (e : Ended) → Stores kept numbers f → Ends f e → Stores e.feed.kept (state_numbers (told_feed e.feed)) e.feed

-- a call leaves in the storage what `Feed::take` makes of the feed there, and tells what that finds; so the theorems about runs of `take` hold for C
abbrev pub TakeForCIsTake : Type 0
TakeForCIsTake =
    (f : Feed) (entry : Lent) (piece : List ℕ) (r : ℕ) (exit : Lent) (t : Taken) → Stores entry.kept entry.numbers f
    → TakesForC entry piece r exit → Takes f piece t
    → (r ≡ word (found_slots (told_found t.found) t.used))
    × (exit ≡ lent t.feed.kept (state_numbers (told_feed t.feed)) (fields_found (told_found t.found) entry.fields))

abbrev pub EndForCIsEnd : Type 0
EndForCIsEnd =
    (f : Feed) (kept entry : List ℕ) (r : ℕ) (exit : List ℕ) (e : Ended) → Stores kept entry f → EndsForC entry r exit → Ends f e
    → (r ≡ word (found_slots (told_found e.found) 0)) × (exit ≡ state_numbers (told_feed e.feed))

abbrev pub RestartForCIsNew : Type 0
RestartForCIsNew = (f : Feed) (kept numbers : List ℕ) → Fresh f → RestartsForC kept numbers → (kept ≡ f.kept) × (numbers ≡ state_numbers (told_feed f))

-- and the message found is the one that `held` gives, at the front of the bytes kept
abbrev pub MessageForCIsHeld : Type 0
MessageForCIsHeld =
    (f : Feed) (kept numbers : List ℕ) (r : ℕ) (m : List ℕ) → Stores kept numbers f → HoldsForC kept numbers r → Holds f.kept f.beside m
    → (r ≡ word (sized (length m))) × (m ≡ take (length m) kept)
