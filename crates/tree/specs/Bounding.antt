-- What the walk that judges REACH answers: the place after the tree, or none where something in it passes 2^40. Assumes nothing.
use Rattle.std.specs.Prelude.{◌≡◌, ℕ, zero, suc, ◌+◌, ◌*◌, ◌≤◌, Bool, true, false, ◌&&◌, List, length, leb, Option, Some, None}
use Rattle.alpha.specs.Sheet.{Expr, Exprs}
use Rattle.alpha.specs.Reach.{limit, row_reach, reach, reach_all}
use Rattle.alpha.specs.Written.{branch_count}
use Rattle.affine.specs.Reading.{row_fields}
use Rattle.laws.specs.At.{node_read, At, AllAt}
use Rattle.laws.specs.Children.{reach_here, reach_below}
use Rattle.laws.specs.Sheets.{vars_of}

-- of what ends at q
abbrev pub bounded_at : Bool → ℕ → Option ℕ
bounded_at true q = Some q
bounded_at false q = None

-- the reach n, where a test was passed
abbrev pub reached_at : Bool → ℕ → Option ℕ
reached_at true n = Some n
reached_at false n = None

-- a row of n coefficients, and k constraints of n coefficients, are there at p
pub record RowThere (bs : List ℕ) (p n : ℕ) : Type 0 where
  pub few : n ≤ 4
  pub there : p + (8 * n + 8) ≤ length bs

pub record ConstraintsThere (bs : List ℕ) (p k n : ℕ) : Type 0 where
  pub few : n ≤ 4
  pub there : p + k * (16 + 8 * n) ≤ length bs

-- the rows of k constraints of n coefficients, which stand from p on, pass no limit where the coordinates reach r
unfoldable pub constraints_reach : ℕ → ℕ → ℕ → List ℕ → ℕ → Bool
constraints_reach r n zero bs p = true
constraints_reach r n (suc k) bs p = leb (row_reach r (row_fields n bs (p + 8))) limit && constraints_reach r n k bs (p + (16 + 8 * n))

-- y is the reach at the children of the node read at p, or that it passes the limit, where the coordinates reach r
abbrev pub NodeReached : List ℕ → ℕ → ℕ → Option ℕ → Type 0
NodeReached bs p r y = y ≡ reached_at (reach_here (node_read (vars_of bs) bs p) r) (reach_below (node_read (vars_of bs) bs p) r)

-- t is the answer on each tree that stands from p on
abbrev pub TreeBounded : List ℕ → ℕ → ℕ → Option ℕ → Type 0
TreeBounded bs p r t = (e : Expr) (q : ℕ) → At e (vars_of bs) bs p q → t ≡ bounded_at (reach e r) q

-- and on each n trees
abbrev pub TreesBounded : List ℕ → ℕ → ℕ → ℕ → Option ℕ → Type 0
TreesBounded bs p r n t = (es : Exprs) (q : ℕ) → AllAt es (vars_of bs) bs p q → branch_count es ≡ n → t ≡ bounded_at (reach_all es r) q
