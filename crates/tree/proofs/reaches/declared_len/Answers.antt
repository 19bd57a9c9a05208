-- `tree::declared_len` meets its contract: the variable is known, and so its dimension. Assumes nothing.
use native.Mathlib.Omega.{arith}
use Rattle.tree.proofs.Declaring.{who-there, who-known}
use Rattle.tree.proofs.reaches.declared_len.Goals as goal

pub natural-requires : goal.natural-requires
natural-requires c = who-there _ _ c.requires.0 _ c.requires.1

pub dimension_of-requires : goal.dimension_of-requires
dimension_of-requires c =
    (c.requires.0, omega (arith, who-known _ _ c.requires.0 _ c.requires.1, c.natural.ensures))
