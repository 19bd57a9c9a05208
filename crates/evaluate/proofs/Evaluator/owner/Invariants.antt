-- `evaluate::Evaluator::owner` meets its contract. The loop's invariant: the variables up to v start at or before the element.
-- Assumes nothing.
use Rattle.evaluate.proofs.Owning.{Reached}
use Rattle.evaluate.specs.Evaluating.{bytes}
use Rattle.evaluate.proofs.Evaluator.owner.Given as goal

abbrev pub invariant-loop-v : goal.invariant-loop-v
invariant-loop-v l = Reached (bytes l.self) l.self.ground.table.now l.e l.v
