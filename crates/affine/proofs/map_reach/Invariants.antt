-- The greatest reach so far, with that of the rows that are left, is the whole's, and it stays within the limit. Assumes nothing.
use Rattle.std.proofs.Common.{◌≡◌, ◌≤◌, max, drop}
use Rattle.alpha.specs.Reach.{map_reach, limit}
use Rattle.affine.specs.Value.{several, line, row_of}
use Rattle.affine.proofs.map_reach.Given as goal

abbrev pub invariant-loop-r : goal.invariant-loop-r
invariant-loop-r l =
    (max l.most (map_reach l.fn.reach (drop l.r-index (several 4 (λ i. row_of l.fn.m.width (line l.fn.m i)))))
    ≡ map_reach l.fn.reach (several 4 (λ i. row_of l.fn.m.width (line l.fn.m i)))) × (1 ≤ l.most) × (l.most ≤ limit)
