-- `run::fill_all` meets its contract. The loop's invariant: the stretches of the variables before v are filled. Assumes nothing.
use Rattle.alpha.specs.Ask.{before}
use Rattle.evaluate.specs.Evaluating.{sheet, memo, Same}
use Rattle.run.specs.Filling.{Advances, FillsAll}
use Rattle.run.proofs.fill.fill_all.Given as goal

abbrev pub invariant-loop-v : goal.invariant-loop-v
invariant-loop-v l = record {
  same : Same l.initial.evaluator l.evaluator;
  advances : Advances (sheet l.initial.evaluator) (memo l.initial.evaluator) (memo l.evaluator);
  filled : FillsAll (sheet l.initial.evaluator) (memo l.initial.evaluator) (before (sheet l.initial.evaluator) l.v)
      l.initial.codes l.codes l.initial.values l.values;
}
