-- `domain::Ground::faults` meets its contract. The loop's invariant: the elements of the variables from v on decide. Assumes nothing.
use Rattle.laws.specs.Sheets.{sheet_of}
use Rattle.domain.proofs.Checking.{AllReached}
use Rattle.domain.proofs.Ground.faults.Given as goal

abbrev pub invariant-loop-v : goal.invariant-loop-v
invariant-loop-v l = AllReached (sheet_of l.self.sheet.now) l.v
