-- `evaluate::mark` meets its contract. Assumes nothing.
use Rattle.evaluate.proofs.Entries.{entry-noted}
use Rattle.evaluate.proofs.memo.mark.Goals as goal

pub returns : goal.returns
returns c = entry-noted _ _ _ _ _ c.packed.ensures.0 c.packed.ensures.1
