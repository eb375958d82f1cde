-- One answer alone keeps each promise of the C interface, and one later content of what is lent.
-- Each promise says outright what the two are.
use mathlib.Core.List.{List, []}
use mathlib.Core.Path.{◌≡◌, sym, ◌∙◌}
use Prim.Native.Nat.{ℕ}
use Rattle.envelope.specs.Message.{Given}
use Rattle.envelope.specs.Promise.{Only₁, Only₂}
use Rattle.envelope.specs.Qos.{QosFields}
use Rattle.golden.specs.Finding.{NameFields}
use Rattle.exports.specs.Envelopes.{ReadsForC, WritesForC, RewritesForC, SplitsForC, JoinsForC, JudgesLatenessForC, JudgesSequenceForC}
use Rattle.sender.specs.Queue.{Event}
use Rattle.exports.specs.Senders.{SenderLent, AnswersForC, StartsForC, CountsWaitingForC, TellsFlightForC}
use Rattle.exports.specs.Feeds.{Lent, TakesForC, EndsForC, RestartsForC, HoldsForC}
use Rattle.exports.specs.Frames.{FrameLent, UnwrapsForC, WrapsForC, AcknowledgesForC}
use Rattle.exports.specs.Goldens.{CountsForC, CountsRetiredForC, ChecksForC, FindsForC, HalvesForC, OrdersForC, EntersForC, StepsForC, ComparesForC, MakesForC, RetiresForC}
use Rattle.exports.specs.Verdicts.{JudgesForC, JudgesPlacesForC}

only_that : {A : Type 0} (x : A) → Only₁ (λ (r : A). r ≡ x)
only_that x a b p q = p ∙ sym q

only_those : {A B : Type 0} (x : A) (y : B) → Only₂ (λ (r : A) (exit : B). (r ≡ x) × (exit ≡ y))
only_those x y a b s t p q = (p.0 ∙ sym q.0, p.1 ∙ sym q.1)

pub only_reads_for_c : (bytes entry : List ℕ) → Only₂ (ReadsForC bytes entry)
only_reads_for_c bytes entry = only_those _ _

pub only_writes_for_c : (g : Given) (entry : List ℕ) → Only₂ (WritesForC g entry)
only_writes_for_c g entry = only_those _ _

pub only_rewrites_for_c : (bytes entry : List ℕ) → Only₂ (RewritesForC bytes entry)
only_rewrites_for_c bytes entry = only_those _ _

pub only_splits_for_c : (q : ℕ) → Only₁ (SplitsForC q)
only_splits_for_c q = only_that _

pub only_joins_for_c : (f : QosFields) → Only₁ (JoinsForC f)
only_joins_for_c f = only_that _

pub only_judges_lateness_for_c : (given ttl entry clock : ℕ) → Only₁ (JudgesLatenessForC given ttl entry clock)
only_judges_lateness_for_c given ttl entry clock = only_that _

pub only_judges_sequence_for_c : (old new : ℕ) → Only₁ (JudgesSequenceForC old new)
only_judges_sequence_for_c old new = only_that _

pub only_counts_for_c : (f : List ℕ) → Only₁ (CountsForC f)
only_counts_for_c f = only_that _

pub only_counts_retired_for_c : (f : List ℕ) → Only₁ (CountsRetiredForC f)
only_counts_retired_for_c f = only_that _

pub only_checks_for_c : (f : List ℕ) → Only₁ (ChecksForC f)
only_checks_for_c f = only_that _

pub only_finds_for_c : (f : List ℕ) (name : NameFields) → Only₁ (FindsForC f name)
only_finds_for_c f name = only_that _

pub only_halves_for_c : (f : List ℕ) (name : NameFields) → Only₁ (HalvesForC f name)
only_halves_for_c f name = only_that _

pub only_orders_for_c : (f : List ℕ) → Only₁ (OrdersForC f)
only_orders_for_c f = only_that _

pub only_enters_for_c : (f : List ℕ) (n : ℕ) (entry : List ℕ) → Only₂ (EntersForC f n entry)
only_enters_for_c f n entry = only_those _ _

pub only_steps_for_c : (f : List ℕ) (n : ℕ) (entry : List ℕ) → Only₂ (StepsForC f n entry)
only_steps_for_c f n entry = only_those _ _

pub only_compares_for_c : (f : List ℕ) (n : ℕ) (radio entry : List ℕ) → Only₂ (ComparesForC f n radio entry)
only_compares_for_c f n radio entry = only_those _ _

pub only_makes_for_c : (m entry : List ℕ) → Only₂ (MakesForC m entry)
only_makes_for_c m entry = only_those _ _

pub only_retires_for_c : (f : List ℕ) (n : ℕ) (entry : List ℕ) → Only₂ (RetiresForC f n entry)
only_retires_for_c f n entry = only_those _ _

pub only_judges_for_c : (bytes : List ℕ) → Only₂ (JudgesForC bytes)
only_judges_for_c bytes = only_those _ _

pub only_judges_places_for_c : (bytes : List ℕ) → Only₂ (JudgesPlacesForC bytes)
only_judges_places_for_c bytes = only_those _ _

pub only_takes_for_c : (entry : Lent) (piece : List ℕ) → Only₂ (TakesForC entry piece)
only_takes_for_c entry piece = only_those _ _

-- the bytes kept may be any, so none do
pub only_ends_for_c : (entry : List ℕ) → Only₂ (EndsForC entry)
only_ends_for_c entry a b x y p q = only_those _ _ a b x y (p []) (q [])

pub only_restarts_for_c : Only₂ RestartsForC
only_restarts_for_c = only_those _ _

pub only_holds_for_c : (kept numbers : List ℕ) → Only₁ (HoldsForC kept numbers)
only_holds_for_c kept numbers = only_that _

pub only_unwraps_for_c : (bytes : List ℕ) (entry : FrameLent) → Only₂ (UnwrapsForC bytes entry)
only_unwraps_for_c bytes entry = only_those _ _

pub only_wraps_for_c : (m : List ℕ) (commid : ℕ) (entry : List ℕ) → Only₂ (WrapsForC m commid entry)
only_wraps_for_c m commid entry = only_those _ _

pub only_acknowledges_for_c : (commid acknowledged : ℕ) (entry : List ℕ) → Only₂ (AcknowledgesForC commid acknowledged entry)
only_acknowledges_for_c commid acknowledged entry = only_those _ _

pub only_answers_for_c : (e : Event) (entry : SenderLent) → Only₂ (AnswersForC e entry)
only_answers_for_c e entry = only_those _ _

pub only_starts_for_c : (n : ℕ) (entry : List ℕ) → Only₂ (StartsForC n entry)
only_starts_for_c n entry = only_those _ _

pub only_counts_waiting_for_c : (l : SenderLent) → Only₁ (CountsWaitingForC l)
only_counts_waiting_for_c l = only_that _

pub only_tells_flight_for_c : (numbers : List ℕ) → Only₁ (TellsFlightForC numbers)
only_tells_flight_for_c numbers = only_that _
