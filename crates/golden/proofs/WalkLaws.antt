-- The walk from a fresh start: record after record, then the end for ever; and at 21 it stays.
-- By induction on the steps taken.
use mathlib.Core.Bool.{true, false}
use mathlib.Core.List.{List}
use mathlib.Core.Logic.{◌⊎◌, inl, inr, ⊎_elim}
use mathlib.Core.Path.{◌≡◌, refl, ap, ◌∙◌}
use Prim.Native.Nat.{ℕ, zero, suc, ◌≤◌, ◌<◌}
use denote.Ref.{Bor}
use native.Mathlib.Decide.{dec_le}
use native.Mathlib.Numerals.{add-one}
use native.Mathlib.Omega.{arith}
use borrow.Author.Tests.{le-leb, lt-leb}
use Rattle.std.specs.Prelude.{Option, Result}
use Rattle.envelope.specs.Refusals.{plainly}
use Rattle.golden.specs.File.{bad_file, count_of, judged_at}
use Rattle.golden.specs.Stepping.{refused, end, step_of, step_at, next_after, told_reached}
use Rattle.golden.specs.Theorems.{WalkOver, FileWalksInOrder, OtherFileStays}
use Rattle.golden.specs.declared.refusal.Refusal.{Refusal}
use Rattle.golden.specs.declared.stepper.Stored.{Stored}
use Rattle.golden.specs.declared.walker.Walk.{Walk}

-- the number that so many steps of a fresh walk lead to
unfoldable number_after : List ℕ → ℕ → ℕ
number_after f zero = 0
number_after f (suc steps) = next_after f (number_after f steps)

module _ (f : List ℕ) (h : bad_file f ≡ false) where
  next_on : (n : ℕ) → n < count_of f → next_after f n ≡ suc n
  unfolding next_after
  next_on n l = rw (h, lt-leb (count_of f) n l) (add-one n)

  next_stays : (n : ℕ) → count_of f ≤ n → next_after f n ≡ n
  unfolding next_after
  next_stays n l = rw (h, le-leb (count_of f) n l)

  answers : (n : ℕ) → n < count_of f → step_at f n ≡ step_of f n (judged_at f n)
  unfolding step_at
  answers n l = rw (h, lt-leb (count_of f) n l)

  ends : (n : ℕ) → count_of f ≤ n → step_at f n ≡ end
  unfolding step_at
  ends n l = rw (h, le-leb (count_of f) n l)

  up_to : (k : ℕ) → k ≤ count_of f → number_after f k ≡ k
  unfolding number_after
  up_to zero l = refl
  up_to (suc k) l = ap (next_after f) (up_to k (omega arith)) ∙ next_on k (omega arith)

  -- past the last record the number is the count, or it came there and stayed
  past : (k : ℕ) → count_of f ≤ number_after f k ⊎ (number_after f k ≡ k)
  unfolding number_after
  past zero = inr refl
  past (suc k) = ⊎_elim (λ m. inl (rw (next_stays (number_after f k) m) m)) (λ e. by e (dec_le (count_of f) k)) (past k)
    where
      by : number_after f k ≡ k → Dec (count_of f ≤ k) → (count_of f ≤ next_after f (number_after f k)) ⊎ (next_after f (number_after f k) ≡ suc k)
      by e (yes m) = inl (rw (e, next_stays k m) m)
      by e (no m) = inr (rw e (next_on k (omega arith)))

  at_end : (k : ℕ) → count_of f ≤ k → count_of f ≤ number_after f k
  at_end k l = ⊎_elim (λ m. m) (λ e. rw e l) (past k)

stays : (f : List ℕ) → bad_file f ≡ true → (k : ℕ) → step_at f k ≡ refused (plainly 21)
unfolding step_at
stays f h k = rw h

-- ---- the walk itself: its file stays, and its number is that of so many steps

module _ (file : Bor (List ℕ)) (walk : ℕ → Walk) (answer : ℕ → Result (Option Stored) Refusal) (w : WalkOver file walk answer) where
  same_file : (k : ℕ) → (walk k).file ≡ file
  same_file zero = w.fresh.0
  same_file (suc k) = (w.steps k).1.0 ∙ same_file k

  number : (k : ℕ) → (walk k).next ≡ number_after file.now k
  unfolding number_after
  number zero = w.fresh.1
  number (suc k) = (w.steps k).1.1 ∙ (λ i. next_after (same_file k i).now (number k i))

  answered : (k : ℕ) → told_reached (answer k) ≡ step_at file.now (number_after file.now k)
  answered k = (w.steps k).0 ∙ (λ i. step_at (same_file k i).now (number k i))

pub walks_in_order : FileWalksInOrder
walks_in_order file walk answer w h =
    let f = file.now in
    record {
      records = λ k l.
          answered file walk answer w k ∙ ap (step_at f) (up_to f h k (omega arith)) ∙ answers f h k l;
      then_the_end = λ k l. answered file walk answer w k ∙ ends f h (number_after f k) (at_end f h k l);
    }

pub other_file_stays : OtherFileStays
other_file_stays file walk answer w h k = answered file walk answer w k ∙ stays file.now h (number_after file.now k)
