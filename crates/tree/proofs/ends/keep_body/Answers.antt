-- `tree::keep_body` meets its contract: the body stands where the table of places says. Assumes nothing.
use Rattle.tree.proofs.Passing.{few}
use Rattle.tree.proofs.ends.keep_body.Goals as goal

pub body_place-requires : goal.body_place-requires
body_place-requires c = few _ _ c.requires.0.placed _ c.requires.0.known
