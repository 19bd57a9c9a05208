-- `heads` meets its contract. The invariant: the first k records were read, and the table has their places and first elements. Assumes nothing.
use Rattle.sheet.proofs.Variables.{Reading}
use Rattle.sheet.proofs.variable.heads.Given as goal

abbrev pub invariant-loop-k : goal.invariant-loop-k
invariant-loop-k l = Reading l.s l.at l.n l.table l.k l.total l.p
