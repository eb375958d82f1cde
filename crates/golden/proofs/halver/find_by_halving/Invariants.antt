-- The loop of `halver::find_by_halving`: the range that is left gives what the whole file gives.
use mathlib.Core.Path.{◌≡◌}
use Prim.Native.Nat.{◌+◌, ◌-◌, ◌≤◌}
use Rattle.golden.specs.File.{count_of}
use Rattle.golden.specs.Finding.{told_name}
use Rattle.golden.specs.Halving.{halving_from, halving}
use Rattle.golden.proofs.halver.find_by_halving.Given as goal

abbrev pub invariant-loop-first : goal.invariant-loop-first
invariant-loop-first l = record {
  ordered : l.first ≤ l.end;
  within : l.end ≤ count_of l.file;
  few : l.opened + (l.end - l.first) ≤ count_of l.file;
  left : halving l.file (told_name l.name) ≡ halving_from l.file (told_name l.name) (l.end - l.first) l.first l.end l.opened;
}

abbrev pub decreases-loop-first : goal.decreases-loop-first
decreases-loop-first l = l.end - l.first
