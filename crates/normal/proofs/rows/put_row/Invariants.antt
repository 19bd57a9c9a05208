-- `normal::put_row` meets its contract. The loop's invariant: storing the coefficients that are left, and the constant, gives what storing
-- the whole row gives at the start. Assumes nothing.
use mathlib.Core.Path.{◌≡◌}
use mathlib.Core.List.{List, ◌++◌}
use Prim.Native.Nat.{ℕ, ◌+◌, ◌*◌}
use lib.ListN.{length}
use lib.Seq.{sets}
use lib.IntN.{ℤ}
use Rattle.alpha.specs.Field.{num}
use Rattle.alpha.specs.Written.{row_bytes}
use Rattle.affine.specs.Value.{at, row_of}
use Rattle.normal.proofs.Laying.{run}
use Rattle.normal.proofs.rows.put_row.Given as goal

-- the field of a coefficient
abbrev pub coefficient : List ℤ → ℕ → List ℕ
coefficient c i = num (at c i)

abbrev pub invariant-loop-j : goal.invariant-loop-j
invariant-loop-j l =
    (sets l.out (l.to + 8 * l.j) (run l.j l.n (coefficient l.r.coef) ++ num l.r.constant)
    ≡ sets l.initial.out l.to (row_bytes (row_of l.n l.r))) × (length l.out ≡ length l.initial.out)
