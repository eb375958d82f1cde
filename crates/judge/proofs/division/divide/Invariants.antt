-- The loop of `division::divide`: what is left of the dividend, brought down from the remainder so far, gives what the whole of it gives.
use mathlib.Core.Path.{◌≡◌}
use lib.ListN.{drop}
use Rattle.sum.specs.Detection.{bits_of}
use Rattle.judge.specs.Division.{divided_bytes, dividend, remainder}
use Rattle.judge.proofs.division.divide.Given as goal

abbrev pub invariant-loop-i : goal.invariant-loop-i
invariant-loop-i l = remainder 0 (dividend l.bytes) ≡ remainder l.left (bits_of (drop l.i (divided_bytes l.bytes)))
