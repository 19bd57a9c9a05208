-- How large the sums on the way to a row's value become. Where these sizes are below 2^63, none of them leaves an i64.
-- Assumes nothing.
use Rattle.std.specs.Prelude.{ℕ, ◌+◌, ◌*◌, ◌^◌, ◌≤◌, ◌<◌, ◌≡◌, List, [], ◌∷◌, ℤ, nat_abs, Option, Some, None}
use Rattle.alpha.specs.Sheet as Sheet
use Rattle.alpha.specs.Reach.{limit}
use Rattle.affine.specs.declared.Row.{Row}
use Rattle.affine.specs.declared.Map.{Map}
use Rattle.affine.specs.Value.{several, at, line, point_of, row_of}

-- the sum of the sizes of the products
abbrev pub dot_size : List ℤ → Sheet.Point → ℕ
dot_size [] z = 0
dot_size (c ∷ cs) [] = 0
dot_size (c ∷ cs) (x ∷ z) = nat_abs c * nat_abs x + dot_size cs z

-- and the constant's
abbrev pub row_size : Sheet.Row → Sheet.Point → ℕ
row_size w z = dot_size w.coefs z + nat_abs w.const

-- every coordinate is at most r in size
abbrev pub Near : ℕ → Sheet.Point → Type 0
Near r [] = Unit {0}
Near r (x ∷ z) = (nat_abs x ≤ r) × Near r z

-- each row of m has a value at p
abbrev pub Fit : Map → List ℤ → Type 0
Fit m p = (i : ℕ) → row_size (row_of 4 (line m i)) (point_of 4 p) < 2 ^ 63

-- the coefficients of a map in column j, and its constants, as points
abbrev pub column : Map → ℕ → Sheet.Point
column m j = several 4 (λ i. at (line m i).coef j)

abbrev pub constants : Map → Sheet.Point
constants m = several 4 (λ i. (line m i).constant)

-- the row w after m has values
pub record FitAfter (m : Map) (w : Row) : Type 0 where
  pub coefs : (j : ℕ) → dot_size (several 4 (at w.coef)) (column m j) < 2 ^ 63
  pub const : row_size (row_of 4 w) (constants m) < 2 ^ 63

-- an answer on the size x: the size itself where it is at most the limit, and otherwise that it passes it
abbrev pub Tells : Option ℕ → ℕ → Type 0
Tells (Some n) x = (n ≡ x) × (x ≤ limit)
Tells None x = limit < x
