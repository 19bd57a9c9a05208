-- Constraints as they are written after a map, and what a function that writes them where they stand requires. Assumes nothing.
use Rattle.std.specs.Prelude.{◌≡◌, ℕ, zero, suc, ◌+◌, ◌*◌, ◌≤◌, List, map, length, nat_abs}
use Rattle.alpha.specs.Field.{field}
use Rattle.alpha.specs.Affine.{constraint_after}
use Rattle.alpha.specs.Reach.{limit, top_reach, row_reach, map_reach}
use Rattle.alpha.specs.Written.{flat, constraint_bytes}
use Rattle.affine.specs.declared.Map.{Map}
use Rattle.affine.specs.Value.{map_of, Neat}
use Rattle.affine.specs.Reading.{row_fields}
use Rattle.domain.specs.Constraints.{constraints_fields}

-- the bytes of k constraints of n coefficients from p on, after m
abbrev pub limit_bytes : Map → ℕ → ℕ → List ℕ → ℕ → List ℕ
limit_bytes m k n bs p = flat (map constraint_bytes (map (constraint_after (map_of m)) (constraints_fields k n bs p)))

-- the constraint of n coefficients at p can be composed with m, with no sum leaving an i64
pub record Composable (bs : List ℕ) (p n : ℕ) (m : Map) : Type 0 where
  pub there : p + (16 + 8 * n) ≤ length bs
  pub relation : nat_abs (field bs p) ≤ 1
  pub small : row_reach (map_reach top_reach (map_of m).rows) (row_fields n bs (p + 8)) ≤ limit

-- each of k constraints
unfoldable pub AllComposable : ℕ → List ℕ → ℕ → ℕ → Map → Type 0
AllComposable zero bs p n m = Unit {0}
AllComposable (suc k) bs p n m = Composable bs p n m × AllComposable k bs (p + (16 + 8 * n)) n m

-- the constraint at p has as many coefficients as m has rows, and there is room for it after m
pub record PutsConstraint (bs : List ℕ) (p n : ℕ) (m : Map) (to : ℕ) (out : List ℕ) : Type 0 where
  pub neat : Neat m
  pub dims : n ≡ m.height
  pub composable : Composable bs p n m
  pub room : to + (16 + 8 * m.width) ≤ length out

-- so has each of k constraints from p on, and there is room for all of them
pub record PutsConstraints (bs : List ℕ) (p k n : ℕ) (m : Map) (to : ℕ) (out : List ℕ) : Type 0 where
  pub neat : Neat m
  pub dims : n ≡ m.height
  pub composable : AllComposable k bs p n m
  pub room : to + k * (16 + 8 * m.width) ≤ length out
