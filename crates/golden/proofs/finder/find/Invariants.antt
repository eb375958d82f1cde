-- The loop of `finder::find`: the records that are left give what all of them give.
use mathlib.Core.Path.{◌≡◌}
use Prim.Native.Nat.{◌-◌}
use Rattle.golden.specs.File.{count_of}
use Rattle.golden.specs.Finding.{find_from, told_name}
use Rattle.golden.proofs.finder.find.Given as goal

abbrev pub invariant-loop-n : goal.invariant-loop-n
invariant-loop-n l = find_from l.file (told_name l.name) 0 (count_of l.file) ≡ find_from l.file (told_name l.name) l.n (count_of l.file - l.n)
