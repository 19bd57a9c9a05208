-- `evaluate::constant` meets its contract. Assumes nothing.
use native.Mathlib.Omega.{arith}
use Rattle.tree.proofs.Classes.{leaf-there}
use Rattle.evaluate.proofs.expression.constant.Goals as goal

pub overflow_add-at : goal.overflow_add-at
overflow_add-at c = omega (arith, leaf-there _ _ c.requires)

pub number_at-requires : goal.number_at-requires
number_at-requires c = omega (arith, leaf-there _ _ c.requires)
