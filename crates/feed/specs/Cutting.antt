-- Runs of calls, by what the calls promise: the same bytes, cut anywhere, give the same messages, the same first refusal and the same feed. RULES 7.
-- Proofs in proofs/RunLaws and proofs/UseLaws.
use Rattle.std.specs.Prelude.{ℕ, suc, ◌+◌, ◌≤◌, ◌<◌, List, [], ◌∷◌, ◌++◌, ◌≡◌, length, drop}
use Rattle.feed.specs.Feeding.{State, nothing, FeedOutcome, standing, byte_in}
use Rattle.feed.specs.Stream.{found_in, Course, streaming}
use Rattle.feed.specs.Told.{told_feed, told_taken, Takes, Ends, Advances, Closes}
use Rattle.feed.specs.declared.refusal.Refusal.{Refusal as CodeRefusal}
use Rattle.feed.specs.declared.feeder.Ended.{Ended}
use Rattle.feed.specs.declared.feeder.Feed.{Feed}
use Rattle.feed.specs.declared.feeder.Taken.{Taken}
use Rattle.feed.specs.declared.step.Standing.TheVariants.{Refused}
use Rattle.feed.specs.declared.step.Step.{Step}

-- ---- a run

-- what came of a run: the messages found on the way, how many bytes were used in all, and the feed at the end
pub record Came : Type 0 where
  pub found : List (List ℕ)
  pub used : ℕ
  pub feed : Feed

abbrev pub no_calls : Feed → Came
no_calls f = record { found = []; used = 0; feed = f }

-- first this call, then the rest of the run
abbrev pub call_then : Taken → Came → Came
call_then t c = record { found = found_in (told_taken t) ++ c.found; used = t.used + c.used; feed = c.feed }

-- A run of calls of `take` over these bytes: each call is lent any piece of what is still to come, an empty one too, and what it did not use comes
-- first in what follows. The run is over when no byte is left, or a refusal stands.
pub data Calls : Feed → List ℕ → Came → Type 0 where
  over : {f : Feed} → Calls f [] (no_calls f)
  stopped : {f : Feed} {bytes : List ℕ} (refusal : CodeRefusal) → f.beside.standing ≡ Refused refusal → Calls f bytes (no_calls f)
  call : {f : Feed} {bytes : List ℕ} {c : Came} (piece rest : List ℕ) (t : Taken)
      → bytes ≡ piece ++ rest → Takes f piece t → Calls t.feed (drop t.used piece ++ rest) c
      → Calls f bytes (call_then t c)

abbrev pub told_came : Came → Course
told_came c = record { found = c.found; used = c.used; state = told_feed c.feed }

-- ---- cutting

-- two runs over the same bytes, cut anywhere: the same messages in order, the same place of the first refusal, the same feed, its refusal included
abbrev pub CutAnywhere : Type 0
CutAnywhere = (f : Feed) (bytes : List ℕ) (a b : Came) → Calls f bytes a → Calls f bytes b → a ≡ b

-- and the end then answers the same
abbrev pub EndAnywhere : Type 0
EndAnywhere = (f : Feed) (bytes : List ℕ) (a b : Came) (d e : Ended) → Calls f bytes a → Calls f bytes b → Ends a.feed d → Ends b.feed e → d ≡ e

-- and that is what the definition finds, byte by byte
abbrev pub AsDefined : Type 0
AsDefined = (f : Feed) (bytes : List ℕ) (c : Came) → Calls f bytes c → told_came c ≡ streaming (told_feed f) bytes

-- a feed that is lent in parts: its calls are those of the feed, so that what holds of runs of the one holds of runs of the other
abbrev pub AdvanceIsTake : Type 0
AdvanceIsTake = (f : Feed) (piece exit : List ℕ) (r : Step) → Advances f.kept f.beside piece r exit
    → Takes f piece (record { feed = record { kept = exit; beside = r.beside }; used = r.used; found = r.found })

abbrev pub CloseIsEnd : Type 0
CloseIsEnd = (f : Feed) (r : Step) → Closes f.beside r
    → Ends f (record { feed = record { kept = f.kept; beside = r.beside }; found = r.found })

-- ---- a call by itself: what it used

pub record Uses (s : State) (piece : List ℕ) (o : FeedOutcome) : Type 0 where
  pub within : o.used ≤ length piece
  -- it gets on, unless a refusal stands
  pub some : standing s.stand ≡ nothing → 0 < length piece → 0 < o.used
  -- where nothing is found all is used
  pub all : o.finding ≡ nothing → o.used ≡ length piece

abbrev pub UsesBytes : Type 0
UsesBytes = (f : Feed) (piece : List ℕ) (t : Taken) → Takes f piece t → Uses (told_feed f) piece (told_taken t)

-- what a call finds is settled by the last byte that it used: the bytes before it are used up with nothing found
pub record SettledBy (s : State) (piece : List ℕ) (o : FeedOutcome) : Type 0 where
  pub before : List ℕ
  pub last : ℕ
  pub left : List ℕ
  pub cut_there : piece ≡ before ++ (last ∷ left)
  pub used_up_to : o.used ≡ suc (length before)
  pub none_found : (streaming s before).found ≡ []
  pub none_refused : standing (streaming s before).state.stand ≡ nothing
  pub settles : ((byte_in (streaming s before).state last).finding ≡ o.finding) × ((byte_in (streaming s before).state last).state ≡ o.state)

abbrev pub LastUsedSettles : Type 0
LastUsedSettles = (f : Feed) (piece : List ℕ) (t : Taken) → Takes f piece t → standing (told_feed f).stand ≡ nothing → ((told_taken t).finding ≡ nothing → ⊥)
    → SettledBy (told_feed f) piece (told_taken t)

-- ---- there is a run

-- the code answers every call: what the proof of `take` gives
pub record Answered (f : Feed) (piece : List ℕ) : Type 0 where
  pub taken : Taken
  pub promised : Takes f piece taken

pub record Run (f : Feed) (bytes : List ℕ) : Type 0 where
  pub came : Came
  pub calls : Calls f bytes came

-- lending all that is left, again and again, comes to an end
abbrev pub RunsEnd : Type 0
RunsEnd = ((f : Feed) (piece : List ℕ) → Answered f piece) → (f : Feed) (bytes : List ℕ) → Run f bytes
