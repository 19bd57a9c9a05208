-- Constraints by their places: what the fields from a place on say, and that they can be tested at a point with no sum leaving an i64.
-- Assumes nothing.
use Rattle.std.specs.Prelude.{ℕ, zero, suc, ◌+◌, ◌*◌, ◌^◌, ◌≤◌, ◌<◌, Bool, List, [], ◌∷◌, length, nat_abs, ℤ}
use Rattle.alpha.specs.Field.{field}
use Rattle.alpha.specs.Sheet.{Constraint, Point}
use Rattle.alpha.specs.Affine.{meets_all}
use Rattle.alpha.specs.Read.{relation_of}
use Rattle.affine.specs.Value.{point_of}
use Rattle.affine.specs.Size.{row_size}
use Rattle.affine.specs.Reading.{row_fields}

-- the constraint of n coefficients at p: its relation, then its row
abbrev pub constraint_fields : ℕ → List ℕ → ℕ → Constraint
constraint_fields n bs p = record { rel = relation_of (nat_abs (field bs p)); row = row_fields n bs (p + 8) }

-- k of them one after another
unfoldable pub constraints_fields : ℕ → ℕ → List ℕ → ℕ → List Constraint
constraints_fields zero n bs p = []
constraints_fields (suc k) n bs p = constraint_fields n bs p ∷ constraints_fields k n bs (p + (16 + 8 * n))

-- the constraint at p can be tested at z
pub record Testable (bs : List ℕ) (p n : ℕ) (z : Point) : Type 0 where
  pub few : n ≤ 4
  pub there : p + (16 + 8 * n) ≤ length bs
  pub relation : nat_abs (field bs p) ≤ 1
  pub small : row_size (row_fields n bs (p + 8)) z < 2 ^ 63

-- each of k constraints
abbrev pub AllTestable : ℕ → List ℕ → ℕ → ℕ → Point → Type 0
AllTestable k bs p n z = (i : ℕ) → i < k → Testable bs (p + i * (16 + 8 * n)) n z

-- ---- of a restriction

-- the constraints of the restriction at p hold at the point z
abbrev pub restriction_met : List ℕ → ℕ → List ℤ → Bool
restriction_met bs p z =
    meets_all (constraints_fields (nat_abs (field bs (p + 16))) (nat_abs (field bs (p + 8))) bs (p + 24)) (point_of (nat_abs (field bs (p + 8))) z)

-- its two numbers are there, and its constraints can be tested at z
pub record RestrictionTestable (bs : List ℕ) (p : ℕ) (z : List ℤ) : Type 0 where
  pub there : p + 24 ≤ length bs
  pub few : nat_abs (field bs (p + 8)) ≤ 4
  pub all : AllTestable (nat_abs (field bs (p + 16))) bs (p + 24) (nat_abs (field bs (p + 8))) (point_of (nat_abs (field bs (p + 8))) z)
