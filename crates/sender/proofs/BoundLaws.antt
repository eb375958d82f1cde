-- Never do more than 16 wait.
use Prim.Native.Nat.{ℕ, ◌≤◌, ◌<◌}
use mathlib.Core.List.{List, [], ◌∷◌}
use native.Mathlib.Omega.{arith}
use lib.ListN.{length, length-append}
use Rattle.sender.specs.Queue.{Slot, empty, holds, Queue, empty_bench, Event, placed, freed, answering}
use Rattle.sender.specs.History.{final}
use Rattle.sender.proofs.CaseLaws.{Cases, each_case}

abbrev Few : Queue → Type 0
Few q = length q.waiting ≤ 16

placed_few : (x n : ℕ) (s : Slot) (ws : List ℕ) → length ws < 16 → Few (placed x n s ws).after
placed_few x n empty ws h = omega arith
placed_few x n (holds y k) ws h = rw (length-append ws (x ∷ [])) (omega arith)

freed_few : (n : ℕ) (ws : List ℕ) → length ws ≤ 16 → Few (freed n ws)
freed_few n [] h = omega arith
freed_few n (w ∷ ws) h = omega arith

few_cases : (n : ℕ) (s : Slot) (ws : List ℕ) → length ws ≤ 16 → Cases n s ws (λ e m. Few m.after)
few_cases n s ws h =
    record {
      refused = λ e k meets. h;
      placed = λ x room new. placed_few x n s ws room;
      settled = λ e here. freed_few n ws h;
      failed = λ e here none. freed_few n ws h;
      again = λ e here some. h;
    }

step_few : (e : Event) (q : Queue) → Few q → Few (answering e q).after
step_few e q h = each_case q.resends q.slot q.waiting (λ d m. Few m.after) (few_cases q.resends q.slot q.waiting h) e

run_few : (q : Queue) (es : List Event) → Few q → Few (final q es)
unfolding final
run_few q [] h = h
run_few q (e ∷ es) h = run_few (answering e q).after es (step_few e q h)

pub never_more : (n : ℕ) (es : List Event) → length (final (empty_bench n) es).waiting ≤ 16
never_more n es = run_few (empty_bench n) es (omega arith)
