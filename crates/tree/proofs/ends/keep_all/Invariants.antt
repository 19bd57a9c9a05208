-- `tree::keep_all` meets its contract: every entry that is kept is right after each body. Assumes nothing.
use Rattle.tree.specs.Ends.{EndsKept}
use Rattle.tree.proofs.ends.keep_all.Given as goal

abbrev pub invariant-loop-v : goal.invariant-loop-v
invariant-loop-v l = EndsKept l.s l.ends
