-- Which case of `opening` holds, from the tests of `open` in their order.
-- The definitions are in specs/Helpers.
use mathlib.Core.Bool.{Bool, true, false}
use mathlib.Core.List.{List}
use mathlib.Core.Path.{◌≡◌, ap, ◌∙◌}
use Prim.Native.Nat.{ℕ, ◌+◌, ◌-◌}
use native.Mathlib.Nat.{add-sub_cancel_left}
use lib.ListN.{length, take, drop}
use Rattle.envelope.specs.Fields.{Answer}
use Rattle.envelope.specs.Reading.{reading}
use Rattle.envelope.specs.Refusals.{plainly}
use Rattle.golden.specs.Helpers.{bad, opened_as, opening}
use Rattle.golden.specs.Record.{record_size, head_size, is_retired, stored_length, all_zero, bad_length, by_reading, judging}
use Rattle.golden.proofs.RecordLaws.{part_to_end}

module _ (r : List ℕ) (l : ℕ) (e : l ≡ stored_length r) where
  pub opened_23 : bad_length l ≡ true → bad (plainly 23) ≡ opening r
  unfolding opening judging
  opened_23 h = rw (← e, h)

  module _ (h : bad_length l ≡ false) (long : length r ≡ record_size) (b : Bool) (z : b ≡ all_zero (take (record_size - (head_size + l)) (drop (head_size + l) r))) where
    zeros : b ≡ all_zero (drop (head_size + l) r)
    zeros = z ∙ ap all_zero (part_to_end (head_size + l) record_size r long)

    pub opened_24 : b ≡ false → bad (plainly 24) ≡ opening r
    unfolding opening judging
    opened_24 n = rw (← e, h, ← zeros, n)

    pub opened_by : b ≡ true → (mark : Bool) → mark ≡ is_retired r → (a : Answer) → a ≡ reading (take ((head_size + l) - head_size) (drop head_size r))
        → opened_as l (by_reading mark a) ≡ opening r
    unfolding opening judging
    opened_by n mark m a q =
        rw (← e, h, ← zeros, n, ← m)
        (ap (λ (x : Answer). opened_as l (by_reading mark x)) (q ∙ ap (λ (k : ℕ). reading (take k (drop head_size r))) (add-sub_cancel_left head_size l)))
