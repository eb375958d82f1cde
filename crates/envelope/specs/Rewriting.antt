-- Reading and writing again: the refusals of reading, then 15 where the buffer is shorter than the message, else the same bytes. RULES 3.
-- `room` is the length of the buffer.
use Rattle.std.specs.Prelude.{◌≡◌, ℕ, ◌≤◌, cond, List, ◌++◌, length, drop, ◌≢◌, nat_lt, Result, Ok, Err}
use Rattle.envelope.specs.Fields.{Refusal, Answer, accepted}
use Rattle.envelope.specs.Fields as read
use Rattle.envelope.specs.Layout.{largest_message}
use Rattle.envelope.specs.Promise.{Bytes}
use Rattle.envelope.specs.Reading.{reading}
use Rattle.envelope.specs.Told.{told_refusal}
use Rattle.envelope.specs.declared.rewriter.RewriteFault.{RewriteFault}
use Rattle.envelope.specs.declared.rewriter.RewriteFault.TheVariants.{Refused, NoRoom}

pub data RewriteAnswer : Type 0 where
  rewrote : ℕ → RewriteAnswer
  refused : Refusal → RewriteAnswer
  no_room : RewriteAnswer

-- 15, the number of writing
abbrev pub no_room_number : ℕ
no_room_number = 15

abbrev pub rewriting_read : Answer → List ℕ → ℕ → RewriteAnswer
rewriting_read (read.refused r) s room = refused r
rewriting_read (accepted f) s room = cond (nat_lt room (length s)) no_room (rewrote (length s))

abbrev pub rewriting : List ℕ → ℕ → RewriteAnswer
rewriting s room = rewriting_read (reading s) s room

-- the buffer afterwards: the same bytes at the front, or as it was
abbrev pub after_rewriting : RewriteAnswer → List ℕ → List ℕ → List ℕ
after_rewriting (rewrote n) s entry = s ++ drop n entry
after_rewriting (refused r) s entry = entry
after_rewriting no_room s entry = entry

abbrev pub told_rewriting : Result ℕ RewriteFault → RewriteAnswer
told_rewriting (Ok n) = rewrote n
told_rewriting (Err (Refused r)) = refused (told_refusal r)
told_rewriting (Err NoRoom) = no_room

-- no message is longer than the longest; proved in proofs/RewriteLaws
abbrev pub rewrote_length : RewriteAnswer → ℕ
rewrote_length (rewrote n) = n
rewrote_length (refused r) = 0
rewrote_length no_room = 0

abbrev pub RewritesNoLonger : Type 0
RewritesNoLonger = (s : List ℕ) (room : ℕ) → Bytes s → rewrote_length (rewriting s room) ≤ largest_message

-- nor does a refusal's place lie past the longest message
abbrev pub rewrite_place : RewriteAnswer → ℕ
rewrite_place (rewrote n) = 0
rewrite_place (refused r) = r.place
rewrite_place no_room = 0

abbrev pub RewritePointsWithin : Type 0
RewritePointsWithin = (s : List ℕ) (room : ℕ) → Bytes s → rewrite_place (rewriting s room) ≤ largest_message

-- a refusal that is passed on is reading's, whole
abbrev pub RewritePassesOn : Type 0
RewritePassesOn = (s : List ℕ) (room : ℕ) (r : Refusal) → rewriting s room ≡ refused r → reading s ≡ read.refused r

-- what `rewrite` promises
abbrev pub Rewrites : List ℕ → List ℕ → Result ℕ RewriteFault → List ℕ → Type 0
Rewrites s entry r exit =
    (told_rewriting r ≡ rewriting s (length entry)) × (exit ≡ after_rewriting (rewriting s (length entry)) s entry)

-- a refusal leaves the buffer as it was; proved in proofs/RewriteLaws
abbrev pub RefusedRewriteWritesNothing : Type 0
RefusedRewriteWritesNothing =
    (s entry exit : List ℕ) (r : Result ℕ RewriteFault) → Rewrites s entry r exit → ((n : ℕ) → told_rewriting r ≢ rewrote n) → exit ≡ entry
