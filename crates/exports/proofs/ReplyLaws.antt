-- A word tells its reply: what the sender answers has room in the word, and comes back from it.
use mathlib.Core.Bool.{Bool, true, false, cond}
use mathlib.Core.List.{List, [], ◌∷◌}
use mathlib.Core.Option.{Option, none, some}
use mathlib.Core.Path.{◌≡◌, refl, ap, ◌∙◌}
use Prim.Native.Nat.{ℕ, ◌-◌, ◌<◌}
use native.Mathlib.Omega.{arith}
use borrow.Author.Tests.{ne_eqb}
use lib.Dec.{eqb, leb}
use lib.ListN.{length}
use Rattle.envelope.specs.Refusals.{Refused, plainly, passing_on}
use Rattle.sender.specs.Queue.{Slot, empty, holds, Queue, queue, Event, submit, ack, nak, time_out, Reply, sent, waits, settles, again, fails, refused, Outcome, outcome, refusal, among, known, placed, next, freed, is_in_flight, left, submitting, acking, naking, answering}
use Rattle.exports.specs.Senders.{reply_slots, reply_in, AllCommids}
use Rattle.exports.specs.Word.{slots, word, unword, Fits}
use Rattle.exports.proofs.FitsLaws.{word_tells_its_slots}

abbrev NextFits : Option ℕ → Type 0
NextFits none = Unit {0}
NextFits (some x) = x < 4294967296

abbrev RefusedFits : Refused → Type 0
RefusedFits (plainly n) = (0 < n) × (n < 256)
RefusedFits (passing_on n r) = ⊥

abbrev ReplyFits : Reply → Type 0
ReplyFits sent = Unit {0}
ReplyFits waits = Unit {0}
ReplyFits (settles o) = NextFits o
ReplyFits again = Unit {0}
ReplyFits (fails o) = NextFits o
ReplyFits (refused r) = RefusedFits r

-- ---- what the plain queue answers has room, while COMMIDs have 32 bits

either_fits : (b : Bool) (o o' : Outcome) → ReplyFits o.reply → ReplyFits o'.reply → ReplyFits (cond b o o').reply
either_fits true o o' h k = h
either_fits false o o' h k = k

placed_fits : (x n : ℕ) (s : Slot) (ws : List ℕ) → ReplyFits (placed x n s ws).reply
placed_fits x n empty ws = tt
placed_fits x n (holds y k) ws = tt

next_fits : (ws : List ℕ) → AllCommids ws → NextFits (next ws)
next_fits [] a = tt
next_fits (w ∷ ws) a = a.0

submit_fits : (x : ℕ) (q : Queue) → ReplyFits (submitting x q).reply
unfolding submitting
submit_fits x q =
    either_fits (leb 16 (length q.waiting)) (refusal 70 q) _ (omega arith, omega arith)
    (either_fits (among x (known q.slot q.waiting)) (refusal 71 q) _ (omega arith, omega arith) (placed_fits x q.resends q.slot q.waiting))

ack_fits : (x : ℕ) (q : Queue) → AllCommids q.waiting → ReplyFits (acking x q).reply
unfolding acking
ack_fits x q a =
    either_fits (is_in_flight x q.slot) (outcome (settles (next q.waiting)) (freed q.resends q.waiting)) (refusal 72 q)
    (next_fits q.waiting a) (omega arith, omega arith)

nak_fits : (x : ℕ) (q : Queue) → AllCommids q.waiting → ReplyFits (naking x q).reply
unfolding naking
nak_fits x q a =
    either_fits (is_in_flight x q.slot) _ (refusal 72 q)
    (either_fits (eqb (left q.slot) 0) (outcome (fails (next q.waiting)) (freed q.resends q.waiting))
    (outcome again (queue q.resends (holds x (left q.slot - 1)) q.waiting))
    (next_fits q.waiting a) tt)
    (omega arith, omega arith)

answer_fits : (e : Event) (q : Queue) → AllCommids q.waiting → ReplyFits (answering e q).reply
answer_fits (submit x) q a = submit_fits x q
answer_fits (ack x) q a = ack_fits x q a
answer_fits (nak x) q a = nak_fits x q a
answer_fits (time_out x) q a = nak_fits x q a

-- ---- and comes back

small : (count value : ℕ) → count < 8 → value < 4294967296 → Fits (slots 0 0 count value)
small count value h k = record { number = omega arith; reading = omega arith; count = omega arith; value = omega arith }

back : (r : Reply) → Fits (reply_slots r) → reply_in (reply_slots r) ≡ r → reply_in (unword (word (reply_slots r))) ≡ r
back r fits e = ap reply_in (word_tells_its_slots (reply_slots r) fits) ∙ e

reply_told : (r : Reply) → ReplyFits r → reply_in (unword (word (reply_slots r))) ≡ r
reply_told sent h = back sent (small 1 0 (omega arith) (omega arith)) refl
reply_told waits h = back waits (small 2 0 (omega arith) (omega arith)) refl
reply_told (settles none) h = back (settles none) (small 3 0 (omega arith) (omega arith)) refl
reply_told (settles (some x)) h = back (settles (some x)) (small 4 x (omega arith) h) refl
reply_told again h = back again (small 5 0 (omega arith) (omega arith)) refl
reply_told (fails none) h = back (fails none) (small 6 0 (omega arith) (omega arith)) refl
reply_told (fails (some x)) h = back (fails (some x)) (small 7 x (omega arith) h) refl
reply_told (refused (plainly n)) h =
    back (refused (plainly n)) (record { number = omega (arith, h.1); reading = omega arith; count = omega arith; value = omega arith })
    (rw (ne_eqb n 0 (λ e. omega (arith, h.0))))
reply_told (refused (passing_on n r)) h = absurd h

pub word_tells_reply : (e : Event) (q : Queue) → AllCommids q.waiting → reply_in (unword (word (reply_slots (answering e q).reply))) ≡ (answering e q).reply
word_tells_reply e q a = reply_told (answering e q).reply (answer_fits e q a)
