-- The loop of `division::byte_down`: the digits still in `rest`, brought down from what is left, give what all eight give.
use mathlib.Core.Path.{◌≡◌}
use Prim.Native.Nat.{◌-◌}
use Rattle.sum.specs.Detection.{bits_of_byte}
use Rattle.judge.proofs.StepLaws.{low_first}
use Rattle.judge.specs.Division.{remainder}
use Rattle.judge.proofs.division.byte_down.Given as goal

abbrev pub invariant-loop-digit : goal.invariant-loop-digit
invariant-loop-digit l = remainder l.left (bits_of_byte l.byte) ≡ remainder l.so_far (low_first (8 - l._digit) l.rest)
