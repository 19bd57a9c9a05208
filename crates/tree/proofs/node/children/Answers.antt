-- `tree::children` meets its contract, class by class. Assumes nothing.
use mathlib.Core.Path.{◌∙◌}
use native.Mathlib.Omega.{arith}
use Rattle.tree.specs.declared.Class.TheVariants.{Case}
use Rattle.tree.specs.Standing.{NodedAs}
use Rattle.tree.proofs.Classes.{noded-as, case-there, case-many}
use Rattle.tree.proofs.node.children.Goals.{In-Case}
use Rattle.tree.proofs.node.children.Goals as goal

a_case : (c : In-Case) → NodedAs c.args.s.now c.args.at Case
a_case c =
    noded-as _ _ c.requires _ _ c.class_of.ensures c.in-Case.is

pub overflow_add-at : goal.overflow_add-at
overflow_add-at c = omega (arith, case-there _ _ (a_case (goal.at.overflow_add-at c).In-Case))

pub natural-requires : goal.natural-requires
natural-requires c = omega (arith, case-there _ _ (a_case (goal.at.natural-requires c).In-Case))

pub returns-in-Case : goal.returns-in-Case
returns-in-Case c = c.natural.ensures ∙ case-many _ _ (a_case (goal.at.returns-in-Case c).In-Case)
