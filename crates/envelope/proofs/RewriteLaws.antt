-- Rewriting: what is lent to `write` is what reading handed out, and so the outcome is the bytes themselves or 15.
-- Rests on the second round trip.
use Rattle.std.proofs.Common.{◌≡◌, ℕ, ◌≤◌, Bool, true, false, cond, ltb, List, length, Result, Ok, Err, sym, refl, ap, ◌∙◌, arith}
use Rattle.std.specs.Result.{MatchResult}
use Rattle.sum.specs.Detection.{Bytes}
use Rattle.envelope.specs.Fields.{Fields, Answer, accepted}
use Rattle.envelope.specs.Fields as fields
use Rattle.envelope.specs.Layout.{largest_message}
use Rattle.envelope.specs.Reading.{reading}
use Rattle.envelope.specs.Rewriting.{RewriteAnswer, rewrote, refused, rewriting_read, rewriting, after_rewriting, rewrote_length, RewritesNoLonger, rewrite_place, RewritePointsWithin, RewritePassesOn, no_room, told_rewriting, RefusedRewriteWritesNothing}
use Rattle.envelope.specs.RoundTrips.{given_by}
use Rattle.envelope.specs.Writing.{WriteOutcome, written, refused, writing, after_writing, wrote, answer_to_writing, told_writing}
use Rattle.envelope.specs.Writing as write
use Rattle.envelope.specs.declared.rewriter.RewriteFault.{RewriteFault}
use Rattle.envelope.specs.declared.rewriter.RewriteFault.TheVariants.{NoRoom}
use Rattle.envelope.specs.declared.writer.WriteFault.{WriteFault}
use Rattle.envelope.proofs.PlaceLaws.{places_within}
use Rattle.envelope.proofs.ReadingLaws.{accepted_most}
use Rattle.envelope.proofs.RoundTripLaws.{written_again}

-- ---- the answer and the buffer

wrote_cases : (b : Bool) (s entry : List ℕ) (n : ℕ) → wrote n ≡ answer_to_writing (cond b (refused 15) (written s))
    → (rewrote n ≡ cond b no_room (rewrote (length s)))
    × (after_writing (cond b (refused 15) (written s)) entry ≡ after_rewriting (cond b no_room (rewrote (length s))) s entry)
wrote_cases true s entry n e = (cc, cc)
wrote_cases false s entry n e = (cc, refl)

refused_cases : (b : Bool) (s entry : List ℕ) (k : ℕ) → write.refused k ≡ answer_to_writing (cond b (refused 15) (written s))
    → (no_room ≡ cond b no_room (rewrote (length s)))
    × (after_writing (cond b (refused 15) (written s)) entry ≡ after_rewriting (cond b no_room (rewrote (length s))) s entry)
refused_cases true s entry k e = (refl, refl)
refused_cases false s entry k e = (cc, cc)

module _ (s : List ℕ) (f : Fields) (entry exit : List ℕ) (bytes : Bytes s) (accepts : reading s ≡ accepted f)
    (kept : exit ≡ after_writing (writing (given_by s f) (length entry)) entry) where
  abbrev short : Bool
  short = ltb (length entry) (length s)

  outcome : writing (given_by s f) (length entry) ≡ cond short (refused 15) (written s)
  outcome = written_again s f (length entry) bytes accepts

  rewriting_is : rewriting s (length entry) ≡ cond short no_room (rewrote (length s))
  rewriting_is = rw accepts

  rewrote_it : (n : ℕ) → wrote n ≡ answer_to_writing (writing (given_by s f) (length entry))
      → (rewrote n ≡ rewriting s (length entry)) × (exit ≡ after_rewriting (rewriting s (length entry)) s entry)
  rewrote_it n e =
      let p = wrote_cases short s entry n (e ∙ ap answer_to_writing outcome) in
      (p.0 ∙ sym rewriting_is, kept ∙ ap (λ (o : WriteOutcome). after_writing o entry) outcome ∙ p.1 ∙ ap (λ (a : RewriteAnswer). after_rewriting a s entry) (sym rewriting_is))

  no_room_lem : (k : ℕ) → write.refused k ≡ answer_to_writing (writing (given_by s f) (length entry))
      → (no_room ≡ rewriting s (length entry)) × (exit ≡ after_rewriting (rewriting s (length entry)) s entry)
  no_room_lem k e =
      let p = refused_cases short s entry k (e ∙ ap answer_to_writing outcome) in
      (p.0 ∙ sym rewriting_is, kept ∙ ap (λ (o : WriteOutcome). after_writing o entry) outcome ∙ p.1 ∙ ap (λ (a : RewriteAnswer). after_rewriting a s entry) (sym rewriting_is))

  -- whatever refusal writing could give stands for want of room
  pub again : (w : Result ℕ WriteFault) (r : Result ℕ RewriteFault) → MatchResult w (λ n. r ≡ Ok n) (λ f. r ≡ Err NoRoom)
      → told_writing w ≡ answer_to_writing (writing (given_by s f) (length entry))
      → (told_rewriting r ≡ rewriting s (length entry)) × (exit ≡ after_rewriting (rewriting s (length entry)) s entry)
  again (Ok n) r h e = rw h (rewrote_it n e)
  again (Err k) r h e = rw h (no_room_lem _ e)

-- ---- how long an answer can be

pub rewrites_no_longer : RewritesNoLonger
rewrites_no_longer s room bytes = go (reading s) refl
  where
    fits : (b : Bool) → length s ≤ largest_message → rewrote_length (cond b no_room (rewrote (length s))) ≤ largest_message
    fits true h = omega arith
    fits false h = h

    go : (a : Answer) → reading s ≡ a → rewrote_length (rewriting_read a s room) ≤ largest_message
    go (fields.refused r) e = omega arith
    go (accepted f) e = fits (ltb room (length s)) (accepted_most s f bytes e)

pub rewrite_points_within : RewritePointsWithin
rewrite_points_within s room bytes = go (reading s) refl
  where
    fits : (b : Bool) → rewrite_place (cond b no_room (rewrote (length s))) ≤ largest_message
    fits true = omega arith
    fits false = omega arith

    go : (a : Answer) → reading s ≡ a → rewrite_place (rewriting_read a s room) ≤ largest_message
    go (fields.refused r) e = places_within s r bytes e
    go (accepted f) e = fits (ltb room (length s))

pub rewrite_passes_on : RewritePassesOn
rewrite_passes_on s room r = go (reading s) refl
  where
    fits : (b : Bool) → cond b no_room (rewrote (length s)) ≡ refused r → ⊥
    fits true e = let z : ◌≡◌ {A = ℕ} 0 1 = cc in omega arith
    fits false e = let z : ◌≡◌ {A = ℕ} 0 1 = cc in omega arith

    go : (a : Answer) → reading s ≡ a → rewriting_read a s room ≡ refused r → reading s ≡ fields.refused r
    go (fields.refused q) e d = let is : q ≡ r = cc in e ∙ ap fields.refused is
    go (accepted f) e d = absurd (fits (ltb room (length s)) d)

-- ---- what a refusal leaves

pub refused_rewrite_writes_nothing : RefusedRewriteWritesNothing
refused_rewrite_writes_nothing s entry exit r p h = go (rewriting s (length entry)) p.0 p.1
  where
    go : (a : RewriteAnswer) → told_rewriting r ≡ a → exit ≡ after_rewriting a s entry → exit ≡ entry
    go (rewrote n) e x = absurd (h n e)
    go (refused q) e x = x
    go no_room e x = x
