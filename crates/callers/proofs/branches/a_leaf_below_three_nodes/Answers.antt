-- `callers::a_leaf_below_three_nodes` keeps what `visit` requires: the constant 7 was read at the place, and there is room. Assumes nothing.
use Rattle.callers.proofs.Case.{seven_stop}
use Rattle.callers.proofs.branches.a_leaf_below_three_nodes.Goals as goal

pub visit-pen-requires : goal.visit-pen-requires
visit-pen-requires c = let m = c.identity.ensures in seven_stop _ m.0 m.1
