-- A whole stream, byte by byte through any number of messages: the messages found on the way, how many bytes were used, and the state at the end. RULES 7.
-- After a refusal no byte is used, so the number says where in the stream it was told.
use Rattle.std.specs.Prelude.{ℕ, ◌+◌, List, [], ◌∷◌, ◌++◌, take}
use Rattle.feed.specs.Feeding.{State, Finding, nothing, message, refused, FeedOutcome, byte_in}

-- the bytes of the message that was found
abbrev pub found_by : Finding → List ℕ → List (List ℕ)
found_by nothing kept = []
found_by (message n f) kept = take n kept ∷ []
found_by (refused f) kept = []

abbrev pub found_in : FeedOutcome → List (List ℕ)
found_in o = found_by o.finding o.state.kept

pub record Course : Type 0 where
  pub found : List (List ℕ)
  pub used : ℕ
  pub state : State

-- nothing came yet
abbrev pub no_bytes : State → Course
no_bytes s = record { found = []; used = 0; state = s }

-- first this outcome, then the rest of the stream
abbrev pub onward : FeedOutcome → Course → Course
onward o c = record { found = found_in o ++ c.found; used = o.used + c.used; state = c.state }

unfoldable pub streaming : State → List ℕ → Course
streaming s [] = no_bytes s
streaming s (x ∷ l) = onward (byte_in s x) (streaming (byte_in s x).state l)
