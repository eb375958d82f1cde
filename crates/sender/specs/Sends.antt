-- How often a message was sent, read from the history alone: at most once and as often as resends are set, and exactly so often if it failed. RULES 13.
-- Proofs in proofs/SendLaws.
use Rattle.std.specs.Prelude.{ℕ, suc, ◌+◌, ◌≤◌, Bool, true, false, cond, ◌||◌, List, [], ◌∷◌, ◌≡◌, eqb}
use Rattle.sender.specs.History.{Line, Fate, waiting, in_flight, acknowledged, failed, commid_of, is_settled_by, is_failed_by, goes_out_by, fate, history}
use Rattle.sender.specs.Queue.{empty_bench, Event, Reply, sent, waits, settles, again, fails, refused}

-- whether a line sends the message again
abbrev pub goes_again_by : ℕ → Event → Reply → Bool
goes_again_by x e sent = false
goes_again_by x e waits = false
goes_again_by x e (settles o) = false
goes_again_by x e again = eqb x (commid_of e)
goes_again_by x e (fails o) = false
goes_again_by x e (refused r) = false

-- how many lines after its submission send it, for the first time or again, until one ends it
unfoldable pub sends : ℕ → List Line → ℕ
sends x [] = 0
sends x (l ∷ ls) =
    cond (is_settled_by x l.event l.reply || is_failed_by x l.event l.reply) 0
    (cond (goes_out_by x l.reply || goes_again_by x l.event l.reply) (suc (sends x ls)) (sends x ls))

-- with n resends set: one that waits was never sent, one that failed 1 + n times, any other once at least and at most 1 + n times
abbrev pub SentSoOften : ℕ → Fate → ℕ → Type 0
SentSoOften n waiting c = c ≡ 0
SentSoOften n in_flight c = (1 ≤ c) × (c ≤ 1 + n)
SentSoOften n acknowledged c = (1 ≤ c) × (c ≤ 1 + n)
SentSoOften n failed c = c ≡ 1 + n

-- so of each accepted submission of a history; one that goes out at once is sent by the line of its submission too
abbrev pub SentBy : ℕ → ℕ → Reply → List Line → Type 0 → Type 0
SentBy n x sent ls later = SentSoOften n (fate x true ls) (suc (sends x ls)) × later
SentBy n x waits ls later = SentSoOften n (fate x false ls) (sends x ls) × later
SentBy n x (settles o) ls later = later
SentBy n x again ls later = later
SentBy n x (fails o) ls later = later
SentBy n x (refused r) ls later = later

unfoldable pub AllSent : ℕ → List Line → Type 0
AllSent n [] = Unit {0}
AllSent n (l ∷ ls) = SentBy n (commid_of l.event) l.reply ls (AllSent n ls)

abbrev pub SendsAreCounted : Type 0
SendsAreCounted = (n : ℕ) (es : List Event) → AllSent n (history (empty_bench n) es)
