-- `domain::Ground::body_faults` meets its contract. The loop's invariant: the elements from the i-th on decide. Assumes nothing.
use Rattle.laws.specs.Sheets.{sheet_of}
use Rattle.domain.proofs.Checking.{BodyReached}
use Rattle.domain.proofs.Ground.body_faults.Given as goal

abbrev pub invariant-loop-i : goal.invariant-loop-i
invariant-loop-i l = BodyReached (sheet_of l.self.sheet.now) l.v l.i
