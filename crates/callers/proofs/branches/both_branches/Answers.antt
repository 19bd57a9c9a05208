-- `callers::both_branches` keeps what `turn` requires: the case stands there, and measured it always has room. Assumes nothing.
use native.Mathlib.Omega.{arith}
use Rattle.normal.proofs.Bodies.{measure-fits}
use Rattle.callers.proofs.Case.{case_body}
use Rattle.callers.proofs.branches.both_branches.Goals as goal

pub turn-all-requires : goal.turn-all-requires
turn-all-requires c = (case_body, measure-fits _ _ _ _ _ case_body _ (omega arith) (omega arith))
