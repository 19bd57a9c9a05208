-- The fields of a row and of a map at a place of a sheet. Assumes nothing.
use Rattle.std.specs.Prelude.{ℕ, ◌+◌, ◌*◌, ◌≤◌, ◌<◌, ◌≡◌, List, length, nat_abs, ℤ}
use Rattle.alpha.specs.Field.{field}
use Rattle.alpha.specs.Sheet as Sheet
use Rattle.alpha.specs.Affine.{image}
use Rattle.alpha.specs.Read.{got, dependence}
use Rattle.affine.specs.declared.Row.{Row}
use Rattle.affine.specs.declared.Map.{Map}
use Rattle.affine.specs.Value.{several, point_of, row_of, map_of, Padded, ZeroRow, Neat}

-- n coefficients from p on, then the constant
abbrev pub row_fields : ℕ → List ℕ → ℕ → Sheet.Row
row_fields n bs p = record { coefs = several n (λ i. field bs (p + 8 * i)); const = field bs (p + 8 * n) }

-- k rows of n coefficients from p on
abbrev pub rows_fields : ℕ → ℕ → List ℕ → ℕ → List Sheet.Row
rows_fields k n bs p = several k (λ i. row_fields n bs (p + i * (8 * n + 8)))

-- the columns, the number of rows, the rows
abbrev pub map_fields : List ℕ → ℕ → Sheet.Map
map_fields bs p = record { cols = nat_abs (field bs p); rows = rows_fields (nat_abs (field bs (p + 8))) (nat_abs (field bs p)) bs (p + 16) }

-- r is row i of the k rows of n coefficients at p
pub record RowAmong (bs : List ℕ) (p i k n : ℕ) (r : Row) : Type 0 where
  pub is : i < k → row_of n r ≡ row_fields n bs (p + i * (8 * n + 8))
  pub rest : Padded n r.coef
  pub zeros : k ≤ i → ZeroRow r

-- m is the map of the dependence whose fields stand at p, and the next place is past its rows
pub record MapRead (bs : List ℕ) (p : ℕ) (m : Map) : Type 0 where
  pub neat : Neat m
  pub is : (f : Sheet.Map) (q : ℕ) → dependence bs p ≡ got (Sheet.Node.n_dep f) q → map_of m ≡ f
  pub next : (f : Sheet.Map) (q : ℕ) → dependence bs p ≡ got (Sheet.Node.n_dep f) q → q ≡ p + 16 + m.height * (8 * m.width + 8)

-- the fields of a dependence stand at p: no more than four rows and columns, and all of them are there
pub record MapThere (bs : List ℕ) (p : ℕ) : Type 0 where
  pub cols_few : nat_abs (field bs p) ≤ 4
  pub rows_few : nat_abs (field bs (p + 8)) ≤ 4
  pub inside : p + 16 + nat_abs (field bs (p + 8)) * (8 * nat_abs (field bs p) + 8) ≤ length bs

-- y is the image of z by the map of the dependence whose fields stand at p
pub record ImageAt (bs : List ℕ) (p : ℕ) (z y : List ℤ) : Type 0 where
  pub map : Map
  pub read : MapRead bs p map
  pub is : point_of map.height y ≡ image (map_of map).rows (point_of map.width z)
  pub rest : Padded map.height y
