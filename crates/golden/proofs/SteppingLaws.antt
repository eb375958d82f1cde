-- A record that is there: what a step, an entry and a comparison make of its judgement, and where its message is stored.
-- And that the message of a good record lies inside the file, as the part that a step hands out.
use mathlib.Core.Bool.{Bool, true, false, cond, not, ◌&&◌}
use mathlib.Core.List.{List}
use mathlib.Core.Path.{◌≡◌, refl, ap, sym, ◌∙◌}
use Prim.Native.Nat.{ℕ, ◌+◌, ◌*◌, ◌≤◌, ◌<◌}
use native.Mathlib.Omega.{arith}
use borrow.Author.Tests.{lt-leb, leb-false, not-true}
use lib.ListN.{take, drop}
use lib.Seq.{drop-drop}
use Rattle.std.specs.Prelude.{Option, Some, None, Result, Ok, Err, ok_or}
use Rattle.envelope.proofs.BoolLaws.{both, true_is_not_false}
use Rattle.envelope.proofs.RebuiltLaws.{part_of_front}
use Rattle.envelope.specs.Fields.{Fields, part_of}
use Rattle.envelope.specs.Refusals.{plainly}
use Rattle.envelope.specs.Told.{told_part}
use Rattle.golden.specs.File.{bad_file, count_of, not_there, record_at, judged_at}
use Rattle.golden.specs.Listing.{entry_of, entry_at}
use Rattle.golden.specs.Record.{record_size, head_size, message_room, stored_length, message_of, Judged, good, bad}
use Rattle.golden.specs.Stepping.{StepAnswer, message, refused, end, message_part, step_of, step_at, next_after, told_reached, nowhere, stored_message}
use Rattle.golden.specs.Theorems.{StepReachesTheStored}
use Rattle.golden.specs.declared.refusal.Refusal.{Refusal}
use Rattle.golden.specs.declared.stepper.Stored.{Stored}
use Rattle.golden.proofs.FileLaws.{good_at}

module _ (f : List ℕ) (n count : ℕ) (e : count ≡ count_of f) (h : bad_file f ≡ false) (l : n < count) (j : Judged) (q : judged_at f n ≡ j) where
  pub there_steps : step_of f n j ≡ step_at f n
  unfolding step_at
  there_steps = rw (h, ← e, lt-leb _ _ l, q)

  pub there_entered : entry_of f n j ≡ entry_at f n
  unfolding entry_at
  there_entered = rw (h, ← e, lt-leb _ _ l, q)

-- whether the file has the record, and what follows
pub record There (f : List ℕ) (n : ℕ) : Type 0 where
  pub whole : bad_file f ≡ false
  pub within : n < count_of f

pub there : (f : List ℕ) (n : ℕ) → (not (bad_file f) && not (not_there f n)) ≡ true → There f n
there f n e =
    let p = both (not (bad_file f)) (not (not_there f n)) e in
    record { whole = not-true (bad_file f) p.0; within = leb-false (count_of f) n (not-true (not_there f n) p.1) }

pub next_on_lem : (f : List ℕ) (n : ℕ) → (not (bad_file f) && not (not_there f n)) ≡ true → n + 1 ≡ next_after f n
unfolding next_after
next_on_lem f n e = let t = there f n e in rw (t.whole, lt-leb _ _ t.within)

pub next_stays_lem : (f : List ℕ) (n : ℕ) → (not (bad_file f) && not (not_there f n)) ≡ false → n ≡ next_after f n
unfolding next_after
next_stays_lem f n e = by (bad_file f) (not_there f n) e
  where
    by : (a b : Bool) → (not a && not b) ≡ false → n ≡ cond a n (cond b n (n + 1))
    by true b e = refl
    by false true e = refl
    by false false e = absurd (true_is_not_false refl e)

pub stored_nowhere : (f : List ℕ) (n : ℕ) → (not (bad_file f) && not (not_there f n)) ≡ false → nowhere ≡ stored_message f n
unfolding stored_message
stored_nowhere f n e = by (bad_file f) (not_there f n) e
  where
    by : (a b : Bool) → (not a && not b) ≡ false → nowhere ≡ cond a nowhere (cond b nowhere (message_part f n))
    by true b e = refl
    by false true e = refl
    by false false e = absurd (true_is_not_false refl e)

-- where its message lies
pub stored_there : (f : List ℕ) (n : ℕ) → (not (bad_file f) && not (not_there f n)) ≡ true → (l : ℕ) → l ≡ stored_length (record_at f n)
    → record { place = n * record_size + head_size; size = l } ≡ stored_message f n
unfolding stored_message
stored_there f n e l q =
    let t = there f n e in
    rw (t.whole, lt-leb _ _ t.within) (λ i. record { place = n * record_size + head_size; size = q i })

-- ---- back from the answer of a step

pub data Reason (f : List ℕ) (n : ℕ) : StepAnswer → Type 0 where
  at_21 : bad_file f ≡ true → Reason f n (refused (plainly 21))
  at_end : bad_file f ≡ false → not_there f n ≡ true → Reason f n end
  at_record : bad_file f ≡ false → not_there f n ≡ false → (j : Judged) → judged_at f n ≡ j → Reason f n (step_of f n j)

pub reason : (f : List ℕ) (n : ℕ) → Reason f n (step_at f n)
unfolding step_at
reason f n = go (bad_file f) refl (not_there f n) refl
  where
    go : (a : Bool) → bad_file f ≡ a → (b : Bool) → not_there f n ≡ b
        → Reason f n (cond a (refused (plainly 21)) (cond b end (step_of f n (judged_at f n))))
    go true ea b eb = at_21 ea
    go false ea true eb = at_end ea eb
    go false ea false eb = at_record ea eb (judged_at f n) refl

pub step_reaches_the_stored : StepReachesTheStored
unfolding step_at stored_message
step_reaches_the_stored f n retired p e = go (bad_file f) (not_there f n) (judged_at f n) e
  where
    go : (a b : Bool) (j : Judged) → cond a (refused (plainly 21)) (cond b end (step_of f n j)) ≡ message retired p
        → cond a nowhere (cond b nowhere (message_part f n)) ≡ p
    go true b j e = absurd (let z : ◌≡◌ {A = ℕ} 0 1 = cc in omega arith)
    go false true j e = absurd (let z : ◌≡◌ {A = ℕ} 0 1 = cc in omega arith)
    go false false (bad r) e = absurd (let z : ◌≡◌ {A = ℕ} 0 1 = cc in omega arith)
    go false false (good mark x) e = cc

-- a step's answer, taken as the message of a record that has to be there
module _ (x : StepAnswer) (r : Result Stored Refusal) (missing : Refusal) where
  pub stored_so : (o : Option Stored) → r ≡ ok_or o missing → told_reached (Ok o) ≡ x → (s : Stored) → r ≡ Ok s → message s.retired (told_part s.part) ≡ x
  stored_so None q e s h = cc
  stored_so (Some y) q e s h = let same : y ≡ s = cc in ap (λ (z : Stored). message z.retired (told_part z.part)) (sym same) ∙ e

  pub missing_so : (o : Option Stored) → r ≡ ok_or o missing → told_reached (Ok o) ≡ x → (d : Refusal) → r ≡ Err d → (d ≡ missing) × (end ≡ x)
  missing_so None q e d h = (cc, e)
  missing_so (Some y) q e d h = (cc, cc)

-- ---- the message of a good record

pub good_size : (f : List ℕ) (n : ℕ) (retired : Bool) (fields : Fields) → judged_at f n ≡ good retired fields → stored_length (record_at f n) ≤ message_room
good_size f n retired fields e = (good_at f n retired fields e).most

-- the part that a step hands out holds the record's message
pub part_is_message : (f : List ℕ) (n : ℕ) (retired : Bool) (fields : Fields) → judged_at f n ≡ good retired fields
    → part_of f (message_part f n) ≡ message_of (record_at f n)
part_is_message f n retired fields e =
    let size = stored_length (record_at f n) in
    let k = good_size f n retired fields e in
    ap (take size) (sym (drop-drop head_size (n * record_size) f))
    ∙ sym (part_of_front size head_size record_size (drop (n * record_size) f) (omega arith))
