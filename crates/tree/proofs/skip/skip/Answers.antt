-- `tree::skip` meets its contract: a tree is one tree. Assumes nothing.
use Rattle.tree.proofs.Standings.{standing-one, one-ends}
use Rattle.tree.proofs.skip.skip.Goals as goal

pub skip_all-requires : goal.skip_all-requires
skip_all-requires c = standing-one _ _ _ _ c.requires

pub returns : goal.returns
returns c = one-ends _ _ _ _ c.skip_all.ensures
