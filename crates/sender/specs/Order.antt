-- Oldest first: the accepted submissions end and go out in their order, one after the other. RULES 13.
-- Proofs in proofs/OrderLaws.
use Rattle.std.specs.Prelude.{ℕ, List, [], ◌∷◌, ◌++◌, ◌≡◌}
use Rattle.std.proofs.Math.Option.{Option, none, some}
use Rattle.sender.specs.Accounts.{in_slot}
use Rattle.sender.specs.History.{Line, commid_of, Submission, submissions, history, final}
use Rattle.sender.specs.Queue.{Queue, empty_bench, Event, Reply, sent, waits, settles, again, fails, refused}

-- the COMMID of each accepted submission
abbrev pub commids : List Submission → List ℕ
commids [] = []
commids (m ∷ ms) = m.commid ∷ commids ms

-- those that went out, each at its first time, in the order of the lines
abbrev pub with_next : Option ℕ → List ℕ → List ℕ
with_next none l = l
with_next (some x) l = x ∷ l

abbrev pub going_out : Event → Reply → List ℕ → List ℕ
going_out e sent l = commid_of e ∷ l
going_out e waits l = l
going_out e (settles o) l = with_next o l
going_out e again l = l
going_out e (fails o) l = with_next o l
going_out e (refused r) l = l

unfoldable pub went_out : List Line → List ℕ
went_out [] = []
went_out (l ∷ ls) = going_out l.event l.reply (went_out ls)

-- those that were settled or failed, in the order of the lines
abbrev pub ending : Event → Reply → List ℕ → List ℕ
ending e sent l = l
ending e waits l = l
ending e (settles o) l = commid_of e ∷ l
ending e again l = l
ending e (fails o) l = commid_of e ∷ l
ending e (refused r) l = l

unfoldable pub ended : List Line → List ℕ
ended [] = []
ended (l ∷ ls) = ending l.event l.reply (ended ls)

-- The submissions, in their order, are those that went out and then those that wait; and those that went out are those that ended and then the one in flight.
pub record InOrder (q : Queue) (ls : List Line) : Type 0 where
  pub out_then_waiting : commids (submissions ls) ≡ went_out ls ++ q.waiting
  pub ended_then_in_flight : went_out ls ≡ ended ls ++ in_slot q.slot

abbrev pub OldestFirst : Type 0
OldestFirst = (n : ℕ) (es : List Event) → InOrder (final (empty_bench n) es) (history (empty_bench n) es)
