-- `tree::type_right` meets its contract: the body's type is the one that the record says. Assumes nothing.
use Rattle.tree.proofs.Passing.{few}
use Rattle.tree.proofs.types.type_right.Goals as goal

pub body_place-requires : goal.body_place-requires
body_place-requires c = few _ _ c.requires.placed _ c.requires.known
