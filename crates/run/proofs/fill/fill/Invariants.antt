-- `run::fill` meets its contract. The loop's invariant: the first i entries of the stretch are filled. Assumes nothing.
use Rattle.evaluate.specs.Evaluating.{sheet, memo, Same}
use Rattle.run.proofs.Tabling.{FillsBelow}
use Rattle.run.proofs.fill.fill.Given as goal

abbrev pub invariant-loop-i : goal.invariant-loop-i
invariant-loop-i l = record {
  same : Same l.initial.evaluator l.evaluator;
  filled : FillsBelow (sheet l.initial.evaluator) l.v (memo l.initial.evaluator) (memo l.evaluator) l.codes l.values l.i;
}
