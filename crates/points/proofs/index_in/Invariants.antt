-- `points::index_in` meets its contract: coordinate by coordinate, the number from here is the number asked for. Assumes nothing.
use Rattle.std.proofs.Common.{◌+◌, ◌*◌, ◌-◌}
use Rattle.affine.specs.Value.{point_of}
use Rattle.sheet.specs.Record.{box_at}
use Rattle.points.specs.Number.{number_in}
use Rattle.points.proofs.Steps.{Kept}
use Rattle.points.proofs.index_in.Given as goal

abbrev pub invariant-loop-i : goal.invariant-loop-i
invariant-loop-i l =
    Kept l.s (number_in (box_at l.s l.at l.n) (point_of l.n l.z)) l.z (l.at + 16 * l.i) l.e l.i (l.n - l.i)
