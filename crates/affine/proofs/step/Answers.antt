-- `step` meets its contract. Assumes nothing.
use Rattle.integer.proofs.Machine.{step_is}
use Rattle.affine.proofs.step.Goals as goal

pub returns : goal.returns
returns c = step_is c.args.c c.args.p c.args.s c.ranges.c c.ranges.p c.ranges.s c.requires
