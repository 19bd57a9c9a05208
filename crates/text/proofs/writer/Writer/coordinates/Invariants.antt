-- Before a coordinate, it and those after it are left to write. Assumes nothing.
use Rattle.std.proofs.Common.{drop}
use Rattle.alpha.specs.Program.{spaced}
use Rattle.text.proofs.Writing.{Going}
use Rattle.text.proofs.writer.Writer.coordinates.Given as goal

abbrev pub invariant-loop-x : goal.invariant-loop-x
invariant-loop-x l = Going l.initial.self l.self (spaced l.z) (spaced (drop l.x-index l.z))
