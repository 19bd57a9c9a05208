-- The evaluators of `evaluate::Evaluator` meet their contracts, together: each answer is the definition's outcome. The measure is the
-- remaining depth, and then the remaining nodes. Each answer cites one law: the ways through a node (proofs/Ways.antt), its operands or its
-- child (proofs/Operands.antt), and elements with their bodies (proofs/Elements.antt). Assumes nothing.
use Prim.Native.Nat.{◌+◌, ◌*◌}
use Rattle.evaluate.proofs.Evaluator.+branch_dependence_element_expression_leaf_one_operator_restriction_three_two_variable.Given as goal

abbrev pub decreases-branch : goal.decreases-branch
decreases-branch l = l.depth * 8200 + 4 * l.left + 2

abbrev pub decreases-dependence : goal.decreases-dependence
decreases-dependence l = l.depth * 8200 + 4 * l.left + 2

abbrev pub decreases-element : goal.decreases-element
decreases-element l = l.depth * 8200

abbrev pub decreases-expression : goal.decreases-expression
decreases-expression l = l.depth * 8200 + 4 * l.left + 3

abbrev pub decreases-leaf : goal.decreases-leaf
decreases-leaf l = l.depth * 8200 + 4 * l.left + 2

abbrev pub decreases-one : goal.decreases-one
decreases-one l = l.depth * 8200 + 4 * l.left + 1

abbrev pub decreases-operator : goal.decreases-operator
decreases-operator l = l.depth * 8200 + 4 * l.left + 2

abbrev pub decreases-restriction : goal.decreases-restriction
decreases-restriction l = l.depth * 8200 + 4 * l.left + 2

abbrev pub decreases-three : goal.decreases-three
decreases-three l = l.depth * 8200 + 4 * l.left + 1

abbrev pub decreases-two : goal.decreases-two
decreases-two l = l.depth * 8200 + 4 * l.left + 1

abbrev pub decreases-variable : goal.decreases-variable
decreases-variable l = l.depth * 8200 + 4 * l.left + 1
