-- `tree::shapes` meets its contract: what the variables from v on answer is what all of them answer. Assumes nothing.
use Rattle.tree.proofs.Forming.{ShapesLeft}
use Rattle.tree.proofs.shapes.shapes.Given as goal

abbrev pub invariant-loop-v : goal.invariant-loop-v
invariant-loop-v l = ShapesLeft l.s l.fn.tab l.initial.rest l.v l.tab l.rest
