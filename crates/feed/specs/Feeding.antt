-- A feed, byte by byte: one byte into a state gives a state and what was found. A piece is its bytes until something is found. RULES 7.
-- The bytes past those that are in are part of the state too, so that "the same state" is plain equality.
use Rattle.std.specs.Prelude.{ℕ, zero, suc, ◌+◌, cond, List, [], ◌∷◌, ltb, take, set, replicate}
use Rattle.envelope.specs.Fields.{Fields}
use Rattle.feed.specs.Verdict.{room, FeedRefusal, cut, Verdict, more, complete, verdict}
use Rattle.feed.specs.Verdict as judged

-- ---- the state

-- on the way (between messages: with no byte yet), a message that is whole, a refusal that stands
pub data Stand : Type 0 where
  inside : Stand
  whole : Stand
  refused : FeedRefusal → Stand

-- the first `count` of the bytes kept are the message's
pub record State : Type 0 where
  pub kept : List ℕ
  pub count : ℕ
  pub stand : Stand

abbrev pub fresh : State
fresh = record { kept = replicate room 0; count = 0; stand = inside }

-- how many bytes of the next message are in: none after a whole one, and none by a count that no feed has
abbrev pub begun_by : Stand → ℕ → ℕ
begun_by inside n = cond (ltb n room) n 0
begun_by whole n = 0
begun_by (refused f) n = 0

abbrev pub begun : State → ℕ
begun s = begun_by s.stand s.count

-- ---- what a call answers

-- a message comes with its size and its fields
pub data Finding : Type 0 where
  nothing : Finding
  message : (size : ℕ) → Fields → Finding
  refused : FeedRefusal → Finding

pub record FeedOutcome : Type 0 where
  pub state : State
  pub used : ℕ
  pub finding : Finding

abbrev pub stand_by : Verdict → Stand
stand_by more = inside
stand_by (complete f) = whole
stand_by (judged.refused f) = refused f

abbrev pub finding_by : Verdict → ℕ → Finding
finding_by more n = nothing
finding_by (complete f) n = message n f
finding_by (judged.refused f) n = refused f

-- n bytes are in, the last of them gave this verdict, and so many of the piece were used
abbrev pub closing : Verdict → List ℕ → ℕ → ℕ → FeedOutcome
closing v kept n used =
    record { state = record { kept = kept; count = n; stand = stand_by v }; used = used; finding = finding_by v n }

-- ---- one byte

-- it goes to its place, and all that is in of the message is judged
abbrev pub with_byte : List ℕ → ℕ → ℕ → FeedOutcome
with_byte kept n x = closing (verdict (take (suc n) (set kept n x))) (set kept n x) (suc n) 1

-- nothing is used, and a refusal that stands is repeated
abbrev pub standing : Stand → Finding
standing inside = nothing
standing whole = nothing
standing (refused f) = refused f

abbrev pub still : State → FeedOutcome
still s = record { state = s; used = 0; finding = standing s.stand }

abbrev pub by_stand : Stand → FeedOutcome → FeedOutcome → FeedOutcome
by_stand inside new old = new
by_stand whole new old = new
by_stand (refused f) new old = old

unfoldable pub byte_in : State → ℕ → FeedOutcome
byte_in s x = by_stand s.stand (with_byte s.kept (begun s) x) (still s)

-- ---- a piece: bytes until something is found

abbrev pub further_by : Finding → FeedOutcome → FeedOutcome → FeedOutcome
further_by nothing now later = record { state = later.state; used = now.used + later.used; finding = later.finding }
further_by (message n f) now later = now
further_by (refused f) now later = now

unfoldable pub taking : State → List ℕ → FeedOutcome
taking s [] = still s
taking s (x ∷ l) = further_by (byte_in s x).finding (byte_in s x) (taking (byte_in s x).state l)

-- ---- the end: inside a message it is 52, and nowhere else anything new

abbrev pub end_by : Stand → ℕ → State → FeedOutcome
end_by inside zero s = still s
end_by inside (suc n) s =
    record { state = record { kept = s.kept; count = s.count; stand = refused cut }; used = 0; finding = refused cut }
end_by whole n s = still s
end_by (refused f) n s = still s

unfoldable pub ending : State → FeedOutcome
ending s = end_by s.stand (begun s) s

-- ---- the message found, until the next byte comes: else nothing is held

abbrev pub size_by : Stand → ℕ → ℕ
size_by inside n = 0
size_by whole n = n
size_by (refused f) n = 0

abbrev pub holding : State → List ℕ
holding s = take (size_by s.stand s.count) s.kept
