-- The digits from the place on are written, and those of what is left stand before them. Assumes nothing.
use Rattle.alpha.specs.Program.{nat_text}
use Rattle.text.proofs.Writing.{Backward}
use Rattle.text.proofs.writer.Writer.natural.Given as goal

abbrev pub invariant-loop-left : goal.invariant-loop-left
invariant-loop-left l = Backward l.initial.self l.self (nat_text l.n) (nat_text l.left) l.place

abbrev pub decreases-loop-left : goal.decreases-loop-left
decreases-loop-left l = l.left
