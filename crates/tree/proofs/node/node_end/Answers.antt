-- `tree::node_end` meets its contract: it is the node's size further. Assumes nothing.
use native.Mathlib.Omega.{arith}
use Rattle.tree.proofs.Classes.{size-here, end-there}
use Rattle.tree.proofs.node.node_end.Goals as goal

pub overflow_add-result : goal.overflow_add-result
overflow_add-result c = omega (arith, c.node_len.ensures, size-here _ _ c.requires, end-there _ _ c.requires)

pub returns : goal.returns
returns c = omega (arith, c.node_len.ensures, size-here _ _ c.requires)
