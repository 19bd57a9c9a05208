-- `run::bits` meets its contract. The loop's invariant: the entries from the i-th on decide.
-- Assumes nothing.
use Rattle.run.proofs.Listing.{BitsFrom}
use Rattle.run.proofs.inputs.bits.Given as goal

abbrev pub invariant-loop-i : goal.invariant-loop-i
invariant-loop-i l = BitsFrom l.first l.part l.i
