-- `domain::next_declared` meets its contract: the variable is known, and so its dimension. Assumes nothing.
use mathlib.Core.Path.{ap, ◌∙◌}
use native.Mathlib.Omega.{arith}
use Rattle.alpha.specs.Read.{dimension}
use Rattle.laws.specs.Sheets.{heads_of}
use Rattle.tree.proofs.Declaring.{who-there, who-known, declared-there}
use Rattle.domain.proofs.inside.next_declared.Goals as goal

pub natural-who-requires : goal.natural-who-requires
natural-who-requires c = who-there _ _ c.requires.0 _ c.requires.1

pub dimension_of-requires : goal.dimension_of-requires
dimension_of-requires c =
    (c.requires.0, omega (arith, who-known _ _ c.requires.0 _ c.requires.1, c.natural-who.ensures))

pub overflow_add-result-2 : goal.overflow_add-result-2
overflow_add-result-2 c =
    let dimension = c.dimension_of.ensures.0 ∙ ap (dimension (heads_of c.args.s.now)) c.natural-who.ensures in
    omega (arith, dimension, declared-there _ _ c.requires.0 _ c.requires.1)
