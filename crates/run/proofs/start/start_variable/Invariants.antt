-- `run::start_variable` meets its contract. The loop's invariant: the entries of the variable's first i elements are those before the run.
-- Assumes nothing.
use Prim.Native.Nat.{◌+◌}
use Rattle.alpha.specs.Ask.{before}
use Rattle.laws.specs.Sheets.{sheet_of}
use Rattle.evaluate.specs.Memo.{memo_of}
use Rattle.run.specs.Starting.{Started}
use Rattle.run.proofs.start.start_variable.Given as goal

abbrev pub invariant-loop-i : goal.invariant-loop-i
invariant-loop-i l = Started (sheet_of l.ground.sheet.now) l.ins (memo_of l.memo) (before (sheet_of l.ground.sheet.now) l.v + l.i)
