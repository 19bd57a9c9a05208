-- `tree::each_below` meets its contract: no number below i was refused. Assumes nothing.
use Rattle.std.specs.Prelude.{ℕ, ◌<◌, Ok}
use Rattle.tree.proofs.each_below.Given as goal

abbrev pub invariant-loop-i : goal.invariant-loop-i
invariant-loop-i g l = (j : ℕ) → j < l.i → goal.F-post g l.rule j (Ok tt)
