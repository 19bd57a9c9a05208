-- `normal::put_rows` meets its contract. The loop's invariant: storing the rows that are left gives what storing them all gives at the start.
-- Assumes nothing.
use mathlib.Core.Path.{◌≡◌}
use mathlib.Core.List.{[], ◌++◌, map}
use Prim.Native.Nat.{◌+◌, ◌*◌}
use lib.ListN.{length}
use lib.Seq.{sets}
use Rattle.alpha.specs.Written.{flat, row_bytes}
use Rattle.affine.specs.Value.{map_of}
use Rattle.normal.proofs.Laying.{run, row_at}
use Rattle.normal.proofs.rows.put_rows.Given as goal

abbrev pub invariant-loop-row : goal.invariant-loop-row
invariant-loop-row l =
    (sets l.out l.p (run l.row-index l.m.height (row_at l.m) ++ []) ≡ sets l.initial.out l.to (flat (map row_bytes (map_of l.m).rows)))
    × (length l.out ≡ length l.initial.out) × (l.p ≡ l.to + l.row-index * (8 * l.m.width + 8))
