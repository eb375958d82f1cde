-- What holds of each thing that an event may do holds of what it does.
use Prim.Native.Nat.{ℕ, ◌-◌, ◌<◌}
use mathlib.Core.Bool.{true, false}
use mathlib.Core.List.{List, []}
use mathlib.Core.Path.{◌≡◌, refl}
use lib.Dec.{leb, eqb}
use lib.ListN.{length}
use borrow.Author.Tests.{leb-false, eqb-true, eqb-false}
use Rattle.std.proofs.lemmas.Bool.{cond_both}
use Rattle.envelope.specs.Refusals.{plainly, Gives}
use Rattle.sender.specs.History.{commid_of}
use Rattle.sender.specs.Queue.{Slot, holds, queue, Event, submit, ack, nak, time_out, settles, again, fails, Outcome, outcome, refusal, among, known, placed, next, freed, is_in_flight, left, submitting, acking, naking, answering}
use Rattle.sender.specs.Refusing.{meets}

pub record Cases (n : ℕ) (s : Slot) (ws : List ℕ) (P : Event → Outcome → Type 0) : Type 0 where
  pub refused : (e : Event) (k : ℕ) → Gives (meets e) [] (plainly k) → P e (refusal k (queue n s ws))
  pub placed : (x : ℕ) → length ws < 16 → among x (known s ws) ≡ false → P (submit x) (placed x n s ws)
  pub settled : (e : Event) → is_in_flight (commid_of e) s ≡ true → P e (outcome (settles (next ws)) (freed n ws))
  pub failed : (e : Event) → is_in_flight (commid_of e) s ≡ true → left s ≡ 0 → P e (outcome (fails (next ws)) (freed n ws))
  pub again : (e : Event) → is_in_flight (commid_of e) s ≡ true → (left s ≡ 0 → ⊥) → P e (outcome again (queue n (holds (commid_of e) (left s - 1)) ws))

module _ (n : ℕ) (s : Slot) (ws : List ℕ) (P : Event → Outcome → Type 0) (c : Cases n s ws P) where
  naked : (e : Event) → Gives (meets e) [] (plainly 72) → P e (naking (commid_of e) (queue n s ws))
  unfolding naking
  naked e meets72 =
      cond_both (is_in_flight (commid_of e) s) _ _ (P e)
      (λ here. cond_both (eqb (left s) 0) _ _ (P e) (λ none. c.failed e here (eqb-true (left s) 0 none)) (λ some. c.again e here (eqb-false (left s) 0 some)))
      (λ other. c.refused e 72 meets72)

  pub each_case : (e : Event) → P e (answering e (queue n s ws))
  unfolding submitting acking
  each_case (submit x) =
      cond_both (leb 16 (length ws)) _ _ (P (submit x)) (λ full. c.refused (submit x) 70 refl)
      (λ room. cond_both (among x (known s ws)) _ _ (P (submit x)) (λ old. c.refused (submit x) 71 refl) (c.placed x (leb-false 16 (length ws) room)))
  each_case (ack x) =
      cond_both (is_in_flight x s) _ _ (P (ack x)) (c.settled (ack x)) (λ other. c.refused (ack x) 72 refl)
  each_case (nak x) = naked (nak x) refl
  each_case (time_out x) = naked (time_out x) refl
