-- A settled or failed message's place and COMMID may be used again, as a new submission; what became of the old one stays. RULES 13.
-- Proofs in proofs/ReuseLaws.
use Rattle.std.specs.Prelude.{ℕ, ◌<◌, Bool, true, false, List, [], ◌∷◌, ◌++◌, ◌≡◌, length}
use Rattle.sender.specs.Accounts.{those}
use Rattle.sender.specs.History.{Line, line, Fate, waiting, in_flight, acknowledged, failed, commid_of, Submission, submission, submissions, history, final}
use Rattle.sender.specs.Queue.{most_waiting, empty_bench, Event, submit, Reply, sent, waits, settles, again, fails, refused, among, answering}

abbrev pub accepts : Reply → Bool
accepts sent = true
accepts waits = true
accepts (settles o) = false
accepts again = false
accepts (fails o) = false
accepts (refused r) = false

abbrev pub ends : Reply → Bool
ends sent = false
ends waits = false
ends (settles o) = true
ends again = false
ends (fails o) = true
ends (refused r) = false

-- right after the event that settled it or made it failed, its COMMID is accepted
abbrev pub UsableAtOnce : Type 0
UsableAtOnce =
    (n : ℕ) (es : List Event) (e : Event) → ends (answering e (final (empty_bench n) es)).reply ≡ true
    → accepts (answering (submit (commid_of e)) (answering e (final (empty_bench n) es)).after).reply ≡ true

-- at any later time too, while by the history no submission of it waits or is in flight, and fewer than 16 wait
abbrev pub UsableLater : Type 0
UsableLater =
    (n : ℕ) (es : List Event) (x : ℕ)
    → among x (those waiting (submissions (history (empty_bench n) es))) ≡ false
    → among x (those in_flight (submissions (history (empty_bench n) es))) ≡ false
    → length (those waiting (submissions (history (empty_bench n) es))) < most_waiting
    → accepts (answering (submit x) (final (empty_bench n) es)).reply ≡ true

-- then it is one submission more, behind the others, of which none has another fate for it; its own is that of a reply that accepts it
abbrev pub fate_at_first : Reply → Fate
fate_at_first sent = in_flight
fate_at_first waits = waiting
fate_at_first (settles o) = waiting
fate_at_first again = waiting
fate_at_first (fails o) = waiting
fate_at_first (refused r) = waiting

abbrev pub IsNew : Type 0
IsNew = (ls : List Line) (x : ℕ) (r : Reply) → accepts r ≡ true
    → submissions (ls ++ (line (submit x) r ∷ [])) ≡ submissions ls ++ (submission x (fate_at_first r) ∷ [])

-- and whatever comes, each submission keeps its number and COMMID, and one that is acknowledged or failed its fate
abbrev pub is_over : Fate → Bool
is_over waiting = false
is_over in_flight = false
is_over acknowledged = true
is_over failed = true

abbrev pub Stays : Submission → Submission → Type 0
Stays m m' = (m'.commid ≡ m.commid) × (is_over m.fate ≡ true → m'.fate ≡ m.fate)

abbrev pub AllStay : List Submission → List Submission → Type 0
AllStay [] ms' = Unit {0}
AllStay (m ∷ ms) [] = ⊥
AllStay (m ∷ ms) (m' ∷ ms') = Stays m m' × AllStay ms ms'

abbrev pub FatesStay : Type 0
FatesStay = (ls later : List Line) → AllStay (submissions ls) (submissions (ls ++ later))
