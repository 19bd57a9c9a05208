-- `tree::wanted_below` meets its contract: below a dependence its rows, elsewhere the same. Assumes nothing.
use mathlib.Core.Path.{◌∙◌}
use native.Mathlib.Omega.{arith}
use Rattle.tree.specs.declared.Class.TheVariants.{Dependence}
use Rattle.tree.specs.Standing.{NodedAs}
use Rattle.tree.proofs.Classes.{noded-as, dependence-fields, dependence-rows}
use Rattle.tree.proofs.Fitting.{dependence-wants}
use Rattle.tree.proofs.shape.wanted_below.Goals.{In-Dependence}
use Rattle.tree.proofs.shape.wanted_below.Goals as goal

a-dependence : (c : In-Dependence) → NodedAs c.args.s.now c.args.at Dependence
a-dependence c =
    noded-as _ _ c.requires.0 _ _ c.class_of.ensures c.in-Dependence.is

pub overflow_add-at : goal.overflow_add-at
overflow_add-at c =
    omega (arith, (dependence-fields _ _ (a-dependence (goal.at.overflow_add-at c).In-Dependence)).there)

pub natural-requires : goal.natural-requires
natural-requires c =
    omega (arith, (dependence-fields _ _ (a-dependence (goal.at.natural-requires c).In-Dependence)).there)

pub returns-in-Dependence : goal.returns-in-Dependence
returns-in-Dependence c =
    let h = a-dependence (goal.at.returns-in-Dependence c).In-Dependence in
    (c.natural.ensures ∙ dependence-wants _ _ _ h, omega (arith, c.natural.ensures, dependence-rows _ _ h))
