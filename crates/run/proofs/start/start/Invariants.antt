-- `run::start` meets its contract. The loop's invariant: the entries of the variables before v are those before the run.
-- Assumes nothing.
use Rattle.alpha.specs.Ask.{before}
use Rattle.laws.specs.Sheets.{sheet_of}
use Rattle.evaluate.specs.Memo.{memo_of}
use Rattle.run.specs.Starting.{Started}
use Rattle.run.proofs.start.start.Given as goal

abbrev pub invariant-loop-v : goal.invariant-loop-v
invariant-loop-v l = Started (sheet_of l.ground.sheet.now) l.ins (memo_of l.memo) (before (sheet_of l.ground.sheet.now) l.v)
