-- `tree::reach_right` meets its contract: the declared constraints first, then the body. Assumes nothing.
use Rattle.tree.proofs.Passing.{few}
use Rattle.tree.proofs.reaches.reach_right.Goals as goal

pub body_place-requires : goal.body_place-requires
body_place-requires c = few _ _ c.requires.placed _ c.requires.known
