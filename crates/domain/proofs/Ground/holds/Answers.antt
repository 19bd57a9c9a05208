-- `domain::Ground::holds` meets its contract: a tree holds as it stands. Assumes nothing.
use Rattle.domain.proofs.Choices.{held_at}
use Rattle.domain.proofs.Ground.holds.Goals as goal

pub returns : goal.returns
returns c = held_at _ _ c.args.z _ _ c.stand.ensures c.is_held.ensures
