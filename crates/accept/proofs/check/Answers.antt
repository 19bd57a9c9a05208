-- `accept::check` meets its contract. Assumes nothing.
use Rattle.accept.proofs.Steps.{long-refuses}
use Rattle.accept.proofs.check.Goals as goal

pub returns-then-too_long : goal.returns-then-too_long
returns-then-too_long c = record { answer = long-refuses _ c.too_long.ensures c.if-too_long.true }
