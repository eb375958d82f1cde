-- The paper's number and values for each case of the code's types, and what each public function promises.
-- Each promise fixes the answer and the later state whole.
use Rattle.std.specs.Prelude.{ℕ, List, Option, Some, None, Result, Ok, Err, ◌≡◌}
use Rattle.envelope.specs.Refusals.{told_numbers}
use Rattle.envelope.specs.Told.{told_refusal, told_envelope}
use Rattle.envelope.specs.declared.refusals.Numbers.{Numbers}
use Rattle.feed.specs.Feeding.{Stand, inside, whole, refused, State, fresh, Finding, nothing, message, FeedOutcome, taking, ending, holding}
use Rattle.feed.specs.Verdict.{FeedRefusal, reads, too_long, cut, feed_numbers}
use Rattle.feed.specs.declared.refusal.Refusal.{Refusal as CodeRefusal}
use Rattle.feed.specs.declared.refusal.Refusal.TheVariants.{MessageRefused, TooLong, Cut}
use Rattle.feed.specs.declared.feeder.Ended.{Ended}
use Rattle.feed.specs.declared.feeder.Feed.{Feed}
use Rattle.feed.specs.declared.feeder.Taken.{Taken}
use Rattle.feed.specs.declared.step.Beside.{Beside}
use Rattle.feed.specs.declared.step.Message.{Message}
use Rattle.feed.specs.declared.step.Standing.{Standing}
use Rattle.feed.specs.declared.step.Standing.TheVariants.{Inside, Whole, Refused}
use Rattle.feed.specs.declared.step.Step.{Step}

abbrev pub told_feed_refusal : CodeRefusal → FeedRefusal
told_feed_refusal (MessageRefused r) = reads (told_refusal r)
told_feed_refusal TooLong = too_long
told_feed_refusal Cut = cut

abbrev pub told_standing : Standing → Stand
told_standing Inside = inside
told_standing Whole = whole
told_standing (Refused f) = refused (told_feed_refusal f)

-- a state in parts, as it is lent
abbrev pub state_of : List ℕ → Beside → State
state_of kept b = record { kept = kept; count = b.count; stand = told_standing b.standing }

abbrev pub told_feed : Feed → State
told_feed f = state_of f.kept f.beside

abbrev pub told_found : Result (Option Message) CodeRefusal → Finding
told_found (Ok None) = nothing
told_found (Ok (Some m)) = message m.size (told_envelope m.envelope)
told_found (Err f) = refused (told_feed_refusal f)

-- beside the bytes kept as they are then
abbrev pub told_step : Step → List ℕ → FeedOutcome
told_step r kept = record { state = state_of kept r.beside; used = r.used; finding = told_found r.found }

abbrev pub told_taken : Taken → FeedOutcome
told_taken t = record { state = told_feed t.feed; used = t.used; finding = told_found t.found }

-- an end uses no byte
abbrev pub told_ended : Ended → FeedOutcome
told_ended e = record { state = told_feed e.feed; used = 0; finding = told_found e.found }

-- what `From<Refusal> for Numbers` gives
abbrev pub NumbersFeedRefusal : CodeRefusal → Numbers → Type 0
NumbersFeedRefusal f r = told_numbers r ≡ feed_numbers (told_feed_refusal f)

-- what `Feed::new` and `Feed::restart` promise
abbrev pub Fresh : Feed → Type 0
Fresh r = told_feed r ≡ fresh

-- what `Feed::take` promises: the one later feed, the one number of bytes used, the one finding
abbrev pub Takes : Feed → List ℕ → Taken → Type 0
Takes f piece r = told_taken r ≡ taking (told_feed f) piece

-- what `Feed::end` promises
abbrev pub Ends : Feed → Ended → Type 0
Ends f r = told_ended r ≡ ending (told_feed f)

-- what `advance` promises: the one answer, and the one later content of the bytes lent
abbrev pub Advances : List ℕ → Beside → List ℕ → Step → List ℕ → Type 0
Advances entry b piece r exit = told_step r exit ≡ taking (state_of entry b) piece

-- what `close` promises, whatever bytes are kept
abbrev pub Closes : Beside → Step → Type 0
Closes b r = (kept : List ℕ) → told_step r kept ≡ ending (state_of kept b)

-- what `held` promises
abbrev pub Holds : List ℕ → Beside → List ℕ → Type 0
Holds kept b r = r ≡ holding (state_of kept b)
