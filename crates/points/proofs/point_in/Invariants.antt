-- `points::point_in` meets its contract: from the last coordinate to the first, those made so far are the point of a number in the box of
-- their ranges. Assumes nothing.
use Rattle.points.proofs.Coordinates.{Making}
use Rattle.points.proofs.point_in.Given as goal

abbrev pub invariant-loop-k : goal.invariant-loop-k
invariant-loop-k l = Making l.s l.at l.i l.n l.k l.j l.z
