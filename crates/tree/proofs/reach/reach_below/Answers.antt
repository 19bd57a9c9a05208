-- `tree::reach_below` meets its contract, class by class. Assumes nothing.
use native.Mathlib.Omega.{arith}
use Rattle.tree.specs.declared.Class.TheVariants.{Dependence}
use Rattle.tree.specs.Standing.{NodedAs}
use Rattle.tree.proofs.Classes.{noded-as, dependence-fields}
use Rattle.tree.proofs.Reaching.{dependence-reaches}
use Rattle.tree.proofs.reach.reach_below.Goals.{In-Dependence}
use Rattle.tree.proofs.reach.reach_below.Goals as goal

a-dependence : (c : In-Dependence) → NodedAs c.args.s.now c.args.at Dependence
a-dependence c =
    noded-as _ _ c.requires.0 _ _ c.class_of.ensures c.in-Dependence.is

pub overflow_add-at : goal.overflow_add-at
overflow_add-at c =
    omega (arith, (dependence-fields _ _ (a-dependence (goal.at.overflow_add-at c).In-Dependence)).there)

pub returns-in-Dependence : goal.returns-in-Dependence
returns-in-Dependence c =
    dependence-reaches _ _ _ (a-dependence (goal.at.returns-in-Dependence c).In-Dependence) _ c.map_read.ensures _ c.map_reach.ensures
