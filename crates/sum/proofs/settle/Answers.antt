-- `sum::settle` takes 32 bit steps: its shifts and the steps are both linear, and agree on every power of two.
use Rattle.sum.proofs.Shifts.{settled_is}
use Rattle.sum.proofs.settle.Goals as goal

pub returns : goal.returns
returns c = settled_is c.args.low c.ranges.low.fits
