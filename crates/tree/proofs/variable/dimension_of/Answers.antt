-- `tree::dimension_of` meets its contract: the field says the dimension. Assumes nothing.
use mathlib.Core.Path.{◌∙◌}
use native.Mathlib.Omega.{arith}
use Rattle.tree.proofs.Heading.{prepared-record}
use Rattle.tree.proofs.variable.dimension_of.Goals as goal

pub returns : goal.returns
returns c =
    let h = prepared-record _ _ c.requires.0 _ c.requires.1 in
    let is = c.record_field.ensures in
    (is ∙ h.dim-is, omega (arith, h.dim-high))
