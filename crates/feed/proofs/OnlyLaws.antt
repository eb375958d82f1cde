-- One answer alone, and one later feed, keeps each promise: what is told can be told back.
-- The envelope and the refusal of reading are told back by the layer below.
use mathlib.Core.List.{List, []}
use mathlib.Core.Path.{◌≡◌, refl, ap, sym, ◌∙◌}
use Prim.Native.Nat.{ℕ}
use Rattle.std.specs.Prelude.{Option, Some, None, Result, Ok, Err}
use Rattle.envelope.proofs.OnlyLaws.{only_by_telling, untold_refusal, untold_refusal_lem, only_told_numbers, untold_envelope, untold_envelope_lem}
use Rattle.envelope.specs.Promise.{Only₁, Only₂}
use Rattle.feed.specs.Feeding.{Stand, inside, whole, refused, State, fresh, Finding, nothing, message, FeedOutcome, taking, ending}
use Rattle.feed.specs.Told.{told_feed_refusal, told_standing, told_feed, told_found, told_step, told_taken, told_ended, NumbersFeedRefusal, Fresh, Takes, Ends, Advances, Closes, Holds}
use Rattle.feed.specs.Verdict.{FeedRefusal, reads, too_long, cut, feed_numbers}
use Rattle.feed.specs.declared.refusal.Refusal.{Refusal as CodeRefusal}
use Rattle.feed.specs.declared.refusal.Refusal.TheVariants.{MessageRefused, TooLong, Cut}
use Rattle.feed.specs.declared.feeder.Ended.{Ended}
use Rattle.feed.specs.declared.feeder.Feed.{Feed}
use Rattle.feed.specs.declared.feeder.Taken.{Taken}
use Rattle.feed.specs.declared.step.Beside.{Beside}
use Rattle.feed.specs.declared.step.Message.{Message}
use Rattle.feed.specs.declared.step.Standing.{Standing}
use Rattle.feed.specs.declared.step.Standing.TheVariants.{Inside, Whole, Refused}
use Rattle.feed.specs.declared.step.Step.{Step}

abbrev untold_feed_refusal : FeedRefusal → CodeRefusal
untold_feed_refusal (reads r) = MessageRefused (untold_refusal r)
untold_feed_refusal too_long = TooLong
untold_feed_refusal cut = Cut

pub untold_feed_refusal_lem : (f : CodeRefusal) → untold_feed_refusal (told_feed_refusal f) ≡ f
untold_feed_refusal_lem (MessageRefused r) = ap MessageRefused (untold_refusal_lem r)
untold_feed_refusal_lem TooLong = refl
untold_feed_refusal_lem Cut = refl

abbrev pub untold_standing : Stand → Standing
untold_standing inside = Inside
untold_standing whole = Whole
untold_standing (refused f) = Refused (untold_feed_refusal f)

pub untold_standing_lem : (s : Standing) → untold_standing (told_standing s) ≡ s
untold_standing_lem Inside = refl
untold_standing_lem Whole = refl
untold_standing_lem (Refused f) = ap Refused (untold_feed_refusal_lem f)

abbrev pub untold_feed : State → Feed
untold_feed s = record { kept = s.kept; beside = record { count = s.count; standing = untold_standing s.stand } }

pub untold_feed_lem : (f : Feed) → untold_feed (told_feed f) ≡ f
untold_feed_lem f = λ i. record { kept = f.kept; beside = record { count = f.beside.count; standing = untold_standing_lem f.beside.standing i } }

abbrev pub untold_found : Finding → Result (Option Message) CodeRefusal
untold_found nothing = Ok None
untold_found (message n f) = Ok (Some (record { size = n; envelope = untold_envelope f }))
untold_found (refused f) = Err (untold_feed_refusal f)

pub untold_found_lem : (f : Result (Option Message) CodeRefusal) → untold_found (told_found f) ≡ f
untold_found_lem (Ok None) = refl
untold_found_lem (Ok (Some m)) = λ i. Ok (Some (record { size = m.size; envelope = untold_envelope_lem m.envelope i }))
untold_found_lem (Err f) = ap Err (untold_feed_refusal_lem f)

abbrev untold_taken : FeedOutcome → Taken
untold_taken o = record { feed = untold_feed o.state; used = o.used; found = untold_found o.finding }

untold_taken_lem : (t : Taken) → untold_taken (told_taken t) ≡ t
untold_taken_lem t = λ i. record { feed = untold_feed_lem t.feed i; used = t.used; found = untold_found_lem t.found i }

abbrev untold_ended : FeedOutcome → Ended
untold_ended o = record { feed = untold_feed o.state; found = untold_found o.finding }

untold_ended_lem : (e : Ended) → untold_ended (told_ended e) ≡ e
untold_ended_lem e = λ i. record { feed = untold_feed_lem e.feed i; found = untold_found_lem e.found i }

pub same_feed : (f g : Feed) → told_feed f ≡ told_feed g → f ≡ g
same_feed f g e = sym (untold_feed_lem f) ∙ ap untold_feed e ∙ untold_feed_lem g

pub only_fresh : Only₁ Fresh
only_fresh = only_by_telling told_feed untold_feed untold_feed_lem fresh

pub only_takes : (f : Feed) (piece : List ℕ) → Only₁ (Takes f piece)
only_takes f piece = only_by_telling told_taken untold_taken untold_taken_lem (taking (told_feed f) piece)

pub only_ends : (f : Feed) → Only₁ (Ends f)
only_ends f = only_by_telling told_ended untold_ended untold_ended_lem (ending (told_feed f))

pub only_holds : (kept : List ℕ) (beside : Beside) → Only₁ (Holds kept beside)
only_holds kept beside a b p q = p ∙ sym q

pub only_numbers_feed_refusal : (f : CodeRefusal) → Only₁ (NumbersFeedRefusal f)
only_numbers_feed_refusal f = only_told_numbers (feed_numbers (told_feed_refusal f))

-- `advance`: the answer and the bytes lent
abbrev untold_step : FeedOutcome → Step
untold_step o = record { beside = record { count = o.state.count; standing = untold_standing o.state.stand }; used = o.used; found = untold_found o.finding }

untold_step_lem : (r : Step) (kept : List ℕ) → untold_step (told_step r kept) ≡ r
untold_step_lem r kept = λ i. record { beside = record { count = r.beside.count; standing = untold_standing_lem r.beside.standing i }; used = r.used; found = untold_found_lem r.found i }

pub only_advances : (entry : List ℕ) (beside : Beside) (piece : List ℕ) → Only₂ (Advances entry beside piece)
only_advances entry beside piece a b x y p q =
    let e = p ∙ sym q in
    (sym (untold_step_lem a x) ∙ ap untold_step e ∙ untold_step_lem b y, ap (λ (o : FeedOutcome). o.state.kept) e)

-- `close`: the bytes kept may be any, so none do
pub only_closes : (beside : Beside) → Only₁ (Closes beside)
only_closes beside a b p q =
    sym (untold_step_lem a []) ∙ ap untold_step (p [] ∙ sym (q [])) ∙ untold_step_lem b []
