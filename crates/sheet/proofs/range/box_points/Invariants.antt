-- `box_points` meets its contract. The invariant: the product so far times the points of the ranges left. Assumes nothing.
use Rattle.sheet.proofs.Boxes.{Product}
use Rattle.sheet.proofs.range.box_points.Given as goal

abbrev pub invariant-loop-i : goal.invariant-loop-i
invariant-loop-i l = Product l.s l.at l.n l.i l.product
