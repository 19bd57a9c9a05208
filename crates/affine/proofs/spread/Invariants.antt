-- What is added up so far, with the sizes of what is left, is the whole, and it stays within the limit. Assumes nothing.
use Rattle.std.proofs.Common.{◌≡◌, ◌+◌, ◌≤◌, drop}
use Rattle.alpha.specs.Reach.{sizes, limit}
use Rattle.affine.specs.Value.{several, at}
use Rattle.affine.proofs.spread.Given as goal

abbrev pub invariant-loop-x : goal.invariant-loop-x
invariant-loop-x l =
    (l.total + sizes (drop l.x-index (several 4 (at l.fn.c))) ≡ sizes (several 4 (at l.fn.c))) × (l.total ≤ limit)
