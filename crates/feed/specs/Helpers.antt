-- Meanings of the private helpers. Nothing that a public promise says is defined here.
-- `kept` is the room, n of its bytes are in.
use Rattle.std.specs.Prelude.{ℕ, ◌+◌, ◌≤◌, ◌<◌, Bool, true, false, List, Option, Some, None, Result, Ok, Err, ◌⊎◌, ◌≡◌, take}
use Rattle.std.proofs.lemmas.List.Edits.{sets}
use Rattle.envelope.specs.Announcing.{unfinished, announces, announcing}
use Rattle.envelope.specs.Layout.{header_size}
use Rattle.envelope.specs.Told.{told_envelope}
use Rattle.envelope.specs.declared.fields.Envelope.{Envelope}
use Rattle.feed.specs.Feeding.{Stand, inside, whole, State, FeedOutcome, closing, further_by, taking}
use Rattle.feed.specs.Feeding as feeding
use Rattle.feed.specs.Told.{told_feed_refusal}
use Rattle.feed.specs.Verdict.{room, Verdict, more, complete, refused, verdict}
use Rattle.feed.specs.declared.refusal.Refusal.{Refusal as CodeRefusal}

abbrev pub opened : List ℕ → ℕ → State
opened kept n = record { kept = kept; count = n; stand = inside }

-- whether the next byte goes in
abbrev pub goes_on : Stand → Bool
goes_on inside = true
goes_on whole = true
goes_on (feeding.refused f) = false

-- a part laid in from a place, byte by byte
abbrev pub laid_in : List ℕ → ℕ → List ℕ → List ℕ
laid_in kept n part = sets kept n part

-- n bytes are in and so many were used: the outcome, with the rest of the piece
abbrev pub outcome_at : List ℕ → ℕ → ℕ → List ℕ → FeedOutcome
outcome_at kept n used rest =
    further_by (closing (verdict (take n kept)) kept n used).finding (closing (verdict (take n kept)) kept n used) (taking (opened kept n) rest)

-- the verdict that reading gave, or none yet
abbrev pub told_verdict : Result (Option Envelope) CodeRefusal → Verdict
told_verdict (Ok None) = more
told_verdict (Ok (Some e)) = complete (told_envelope e)
told_verdict (Err f) = refused (told_feed_refusal f)

-- what these bytes of a message announce: nothing yet, a length for which there is room, or a refusal
abbrev pub Heading : List ℕ → Result (Option ℕ) CodeRefusal → Type 0
Heading m (Ok None) = announcing m ≡ unfinished
Heading m (Ok (Some n)) = (announcing m ≡ announces n) × (n ≤ room)
Heading m (Err f) = verdict m ≡ refused (told_feed_refusal f)

-- as many bytes as the heading wants: all that are offered stay below the 17th, or the 17th is just in, or it was in and one is taken
pub record Stretch (count offered r : ℕ) : Type 0 where
  pub some : 0 < r
  pub offers : r ≤ offered
  pub below : (count + r ≤ header_size) ⊎ (r ≡ 1)
  pub all : count + r < header_size → r ≡ offered

pub record Announced (kept : List ℕ) (count whole used : ℕ) : Type 0 where
  pub fits : count ≤ room
  pub little : used ≤ room
  pub says : announcing (take count kept) ≡ announces whole
  pub short : whole ≤ room
