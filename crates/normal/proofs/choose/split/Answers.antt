-- `normal::split` meets its contract: one combination is not counted; otherwise the others have those that the first one's count leaves.
-- Assumes nothing.
use Rattle.normal.proofs.Counting.{rest_some, counted-split}
use Rattle.normal.proofs.choose.split.Goals as goal

pub nonzero_div-result : goal.nonzero_div-result
nonzero_div-result c = rest_some _ _ _ _ _ c.requires _ c.count_tree-first.ensures.0

pub nonzero_rem-result : goal.nonzero_rem-result
nonzero_rem-result c = rest_some _ _ _ _ _ c.requires _ c.count_tree-first.ensures.0

pub returns : goal.returns
returns c =
    counted-split _ _ _ _ _ c.requires _ c.count_tree-first.ensures.0 _ c.count_tree-first.ensures.1
