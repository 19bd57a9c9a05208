-- `tree::fits_here` meets its contract, class by class. Assumes nothing.
use mathlib.Core.Path.{ap, ◌∙◌}
use native.Mathlib.Omega.{arith}
use lib.Dec.{eqb}
use Rattle.tree.proofs.Classes.{wide-fields}
use Rattle.tree.proofs.Fitting.{wide-fits}
use Rattle.tree.proofs.shape.fits_here.Goals as goal

pub overflow_add-at : goal.overflow_add-at
overflow_add-at c =
    omega (arith, (wide-fields _ _ c.requires.1 _ c.class_of.ensures c.in-Restriction.is).there)

pub natural-requires : goal.natural-requires
natural-requires c =
    omega (arith, (wide-fields _ _ c.requires.1 _ c.class_of.ensures c.in-Restriction.is).there)

pub returns-in-Restriction : goal.returns-in-Restriction
returns-in-Restriction c =
    ap (λ x. eqb x c.args.want) c.natural.ensures ∙ wide-fits _ _ _ _ c.requires.1 _ c.class_of.ensures c.in-Restriction.is
