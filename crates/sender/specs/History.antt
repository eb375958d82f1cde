-- What became of each message, read from the history alone: the events, and what was answered to each. RULES 13.
-- No state has a part in this reading: it goes by COMMIDs and answers, from line to line.
use Rattle.std.specs.Prelude.{ℕ, Bool, true, false, cond, ◌||◌, List, [], ◌∷◌, eqb}
use Rattle.std.proofs.Math.Option.{Option, none, some}
use Rattle.sender.specs.Queue.{Queue, Event, submit, ack, nak, time_out, Reply, sent, waits, settles, again, fails, refused, answering}

-- ---- a history: its lines, the oldest first

pub record Line : Type 0 where
  pub event : Event
  pub reply : Reply

abbrev pub line : Event → Reply → Line
line e r = record { event = e; reply = r }

abbrev pub commid_of : Event → ℕ
commid_of (submit x) = x
commid_of (ack x) = x
commid_of (nak x) = x
commid_of (time_out x) = x

-- ---- the fate of one message

pub data Fate : Type 0 where
  waiting : Fate
  in_flight : Fate
  acknowledged : Fate
  failed : Fate

-- whether a line's answer is that the message is settled, that it failed, or that it goes out because the slot fell free
abbrev pub is_settled_by : ℕ → Event → Reply → Bool
is_settled_by x e sent = false
is_settled_by x e waits = false
is_settled_by x e (settles o) = eqb x (commid_of e)
is_settled_by x e again = false
is_settled_by x e (fails o) = false
is_settled_by x e (refused r) = false

abbrev pub is_failed_by : ℕ → Event → Reply → Bool
is_failed_by x e sent = false
is_failed_by x e waits = false
is_failed_by x e (settles o) = false
is_failed_by x e again = false
is_failed_by x e (fails o) = eqb x (commid_of e)
is_failed_by x e (refused r) = false

abbrev pub is_next : ℕ → Option ℕ → Bool
is_next x none = false
is_next x (some y) = eqb x y

abbrev pub goes_out_by : ℕ → Reply → Bool
goes_out_by x sent = false
goes_out_by x waits = false
goes_out_by x (settles o) = is_next x o
goes_out_by x again = false
goes_out_by x (fails o) = is_next x o
goes_out_by x (refused r) = false

-- From the lines after its submission, where `out` says whether it went out. The first line by which it is settled or failed decides;
-- where there is none it is in flight if it went out, and else it waits.
unfoldable pub fate : ℕ → Bool → List Line → Fate
fate x out [] = cond out in_flight waiting
fate x out (l ∷ ls) =
    cond (is_settled_by x l.event l.reply) acknowledged
    (cond (is_failed_by x l.event l.reply) failed
    (fate x (out || goes_out_by x l.reply) ls))

-- ---- the accepted submissions of a history, in their order, each with its fate

-- the place in the list is a submission's number: 0, 1, 2, ..; one COMMID may have several
pub record Submission : Type 0 where
  pub commid : ℕ
  pub fate : Fate

abbrev pub submission : ℕ → Fate → Submission
submission x f = record { commid = x; fate = f }

-- accepted is what went out at once or waits
abbrev pub accepted : ℕ → Reply → List Line → List Submission → List Submission
accepted x sent ls later = submission x (fate x true ls) ∷ later
accepted x waits ls later = submission x (fate x false ls) ∷ later
accepted x (settles o) ls later = later
accepted x again ls later = later
accepted x (fails o) ls later = later
accepted x (refused r) ls later = later

unfoldable pub submissions : List Line → List Submission
submissions [] = []
submissions (l ∷ ls) = accepted (commid_of l.event) l.reply ls (submissions ls)

-- ---- the plain queue over a sequence of events: its history, and the queue at the end

unfoldable pub history : Queue → List Event → List Line
history q [] = []
history q (e ∷ es) = line e (answering e q).reply ∷ history (answering e q).after es

unfoldable pub final : Queue → List Event → Queue
final q [] = q
final q (e ∷ es) = final (answering e q).after es
