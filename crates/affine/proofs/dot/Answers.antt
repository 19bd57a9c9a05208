-- `dot` meets its contract. Assumes nothing.
use Rattle.std.proofs.Common.{arith}
use Rattle.std.proofs.lemmas.Int.{to_z-of_z}
use Rattle.affine.proofs.dot.Goals as goal

pub step-requires-2 : goal.step-requires-2
step-requires-2 c = grind (arith, to_z-of_z)

pub step-requires-3 : goal.step-requires-3
step-requires-3 c = grind (arith, to_z-of_z)

pub returns : goal.returns
returns c = (grind (arith, to_z-of_z), grind (arith, to_z-of_z))
