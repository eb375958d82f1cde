-- Over any sequence of events from an empty bench, each accepted submission is exactly one of waiting, in flight, acknowledged or failed. RULES 13.
-- Proofs in proofs/AccountLaws.
use Rattle.std.specs.Prelude.{ℕ, suc, ◌+◌, ◌<◌, Bool, cond, List, [], ◌∷◌, ◌≡◌, eqb, length}
use Rattle.sender.specs.History.{Line, Fate, waiting, in_flight, acknowledged, failed, commid_of, Submission, submissions, history, final}
use Rattle.sender.specs.Queue.{Slot, empty, holds, Queue, empty_bench, Event, Reply, sent, waits, settles, again, fails, refused, among}

-- ---- the submissions with one fate

abbrev pub rank : Fate → ℕ
rank waiting = 0
rank in_flight = 1
rank acknowledged = 2
rank failed = 3

abbrev pub same : Fate → Fate → Bool
same f g = eqb (rank f) (rank g)

-- their COMMIDs, in the order of submission
unfoldable pub those : Fate → List Submission → List ℕ
those f [] = []
those f (m ∷ ms) = cond (same f m.fate) (m.commid ∷ those f ms) (those f ms)

-- their numbers
unfoldable pub numbers_from : ℕ → Fate → List Submission → List ℕ
numbers_from i f [] = []
numbers_from i f (m ∷ ms) = cond (same f m.fate) (i ∷ numbers_from (suc i) f ms) (numbers_from (suc i) f ms)

abbrev pub numbers : Fate → List Line → List ℕ
numbers f ls = numbers_from 0 f (submissions ls)

-- ---- exactly one of four: each number stands in one of the four lists and in no other, whatever the lines are

abbrev pub counted : Bool → ℕ
counted b = cond b 1 0

abbrev pub OneOfFour : List Line → Type 0
OneOfFour ls =
    (k : ℕ) → k < length (submissions ls)
    → counted (among k (numbers waiting ls)) + counted (among k (numbers in_flight ls)) + counted (among k (numbers acknowledged ls)) + counted (among k (numbers failed ls)) ≡ 1

-- and the four add up
abbrev pub AddUp : List Line → Type 0
AddUp ls =
    length (those waiting (submissions ls)) + length (those in_flight (submissions ls)) + length (those acknowledged (submissions ls)) + length (those failed (submissions ls))
    ≡ length (submissions ls)

-- ---- beside the queue, and beside what was answered

-- the COMMIDs of the lines whose answer is that one is settled, and of those whose answer is that it failed
abbrev pub settled_by : Event → Reply → List ℕ → List ℕ
settled_by e sent l = l
settled_by e waits l = l
settled_by e (settles o) l = commid_of e ∷ l
settled_by e again l = l
settled_by e (fails o) l = l
settled_by e (refused r) l = l

abbrev pub failed_by : Event → Reply → List ℕ → List ℕ
failed_by e sent l = l
failed_by e waits l = l
failed_by e (settles o) l = l
failed_by e again l = l
failed_by e (fails o) l = commid_of e ∷ l
failed_by e (refused r) l = l

unfoldable pub all_settled : List Line → List ℕ
all_settled [] = []
all_settled (l ∷ ls) = settled_by l.event l.reply (all_settled ls)

unfoldable pub all_failed : List Line → List ℕ
all_failed [] = []
all_failed (l ∷ ls) = failed_by l.event l.reply (all_failed ls)

-- the COMMID in flight, as a list of at most one
abbrev pub in_slot : Slot → List ℕ
in_slot empty = []
in_slot (holds x k) = x ∷ []

-- What the queue adds: those that wait, in their order, and the one in flight are the submissions with these fates; those that the history
-- shows as acknowledged and as failed are those that were answered so, each in turn; and so these four make up all that were accepted.
pub record Accounted (q : Queue) (ls : List Line) : Type 0 where
  pub now_waiting : those waiting (submissions ls) ≡ q.waiting
  pub now_in_flight : those in_flight (submissions ls) ≡ in_slot q.slot
  pub once_acknowledged : those acknowledged (submissions ls) ≡ all_settled ls
  pub once_failed : those failed (submissions ls) ≡ all_failed ls
  pub one_of_four : OneOfFour ls
  pub add_up : AddUp ls
  pub all_told : length q.waiting + length (in_slot q.slot) + length (all_settled ls) + length (all_failed ls) ≡ length (submissions ls)

abbrev pub Accounts : Type 0
Accounts = (n : ℕ) (es : List Event) → Accounted (final (empty_bench n) es) (history (empty_bench n) es)
