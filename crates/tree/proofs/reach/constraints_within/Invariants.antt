-- `tree::constraints_within` meets its contract. The loop's invariant: those that are left are there and decide. Assumes nothing.
use Prim.Native.Nat.{◌+◌, ◌-◌, ◌*◌}
use Rattle.tree.proofs.Reaching.{ConstraintsLeft}
use Rattle.tree.proofs.reach.constraints_within.Given as goal

abbrev pub invariant-loop-i : goal.invariant-loop-i
invariant-loop-i l = ConstraintsLeft l.around l.n l.s l.count l.at (l.count - l.i) (l.at + l.i * (16 + 8 * l.n))
