-- `domain::Ground::variable_faults` meets its contract: an input has no fault, and of any other its body is asked. Assumes nothing.
use Rattle.std.proofs.Common.{rules}
use Rattle.tree.proofs.Passing.{is-input}
use Rattle.domain.proofs.Checking.{input-clear}
use Rattle.domain.proofs.Ground.variable_faults.Goals as goal

pub returns-then-eq : goal.returns-then-eq
returns-then-eq c =
    let p = c.requires in
    input-clear _ _ (is-input _ _ p.0.placed _ p.1 _ c.kind_of.ensures (search rules))
