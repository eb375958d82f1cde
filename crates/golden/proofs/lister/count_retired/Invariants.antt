-- The loop of `lister::count_retired`: what is counted so far is the count of the records seen.
use mathlib.Core.Path.{◌≡◌}
use Prim.Native.Nat.{◌≤◌}
use Rattle.golden.specs.Listing.{retired_below}
use Rattle.golden.proofs.lister.count_retired.Given as goal

abbrev pub invariant-loop-bytes : goal.invariant-loop-bytes
invariant-loop-bytes l = (l.retired ≡ retired_below l.file l.bytes-index) × (l.retired ≤ l.bytes-index)
