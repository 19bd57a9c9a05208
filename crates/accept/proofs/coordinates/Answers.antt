-- `accept::coordinates` meets its contract: the coordinates stand in front. Assumes nothing.
use Rattle.accept.proofs.Asked.{front-coordinates}
use Rattle.accept.proofs.coordinates.Goals as goal

pub returns : goal.returns
returns c = rw c.copy_from_slice.ensures.after (front-coordinates c.args.point.now _)
