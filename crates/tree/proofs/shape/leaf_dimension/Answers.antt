-- `tree::leaf_dimension` meets its contract, leaf by leaf. Assumes nothing.
use mathlib.Core.Path.{ap, ◌∙◌}
use native.Mathlib.Omega.{arith}
use lib.Dec.{eqb}
use Rattle.alpha.specs.Read.{dimension}
use Rattle.laws.specs.Sheets.{heads_of}
use Rattle.tree.specs.Classes.{leaf_code}
use Rattle.tree.proofs.Classes.{leaf-there}
use Rattle.tree.proofs.Heading.{prepared-sections}
use Rattle.tree.proofs.Fitting.{variable-known, variable-fits}
use Rattle.tree.proofs.shape.leaf_dimension.Goals as goal

pub overflow_add-at : goal.overflow_add-at
overflow_add-at c = omega (arith, leaf-there _ _ c.requires.1)

pub natural-requires : goal.natural-requires
natural-requires c = omega (arith, leaf-there _ _ c.requires.1)

pub dimension_of-requires : goal.dimension_of-requires
dimension_of-requires c =
    let code = c.leaf_of.ensures ∙ ap leaf_code c.in-Variable.is in
    let known = variable-known _ _ c.requires.1.noded code (prepared-sections _ _ c.requires.0).some in
    (c.requires.0, omega (arith, c.natural.ensures))

pub returns-in-Variable : goal.returns-in-Variable
returns-in-Variable c =
    let code = c.leaf_of.ensures ∙ ap leaf_code c.in-Variable.is in
    let is = c.dimension_of.ensures.0 ∙ ap (dimension (heads_of c.args.s.now)) c.natural.ensures in
    λ n. ap (λ x. eqb x n) is ∙ variable-fits _ _ _ n c.requires.1.noded code
