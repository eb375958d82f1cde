-- `framing::unwrap_capture` has a byte less at least each time, and ends.
use Rattle.std.proofs.Common.{length}
use Rattle.emp.proofs.framing.unwrap_capture.Given as goal

abbrev pub decreases-loop-left : goal.decreases-loop-left
decreases-loop-left g l = length l.left
