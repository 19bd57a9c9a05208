-- `evaluate::Evaluator::settle_deep` meets its contract. The loop's invariant: the elements in progress stand on the stack, each waiting for the
-- next, and the first of them is the one that was asked for. The measure is what is still to be done. Assumes nothing.
use Rattle.evaluate.specs.Memo.{sum, to_do}
use Rattle.evaluate.specs.Evaluating.{sheet, memo, Same}
use Rattle.evaluate.proofs.Stacks.{Going}
use Rattle.evaluate.proofs.Evaluator.settle_deep.Given as goal

abbrev pub invariant-loop-stack : goal.invariant-loop-stack
invariant-loop-stack l = record {
  same : Same l.initial.self l.self;
  going : Going (sheet l.initial.self) l.e (memo l.initial.self) (memo l.self) l.stack.entries l.stack.high;
}

abbrev pub decreases-loop-stack : goal.decreases-loop-stack
decreases-loop-stack l = sum to_do (memo l.self).codes
