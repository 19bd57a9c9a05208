-- Affine rows and maps: a row at a point, a constraint at a point, a point's image, one map after another, the identity.
-- Sums and products are exact. Assumes nothing.
use Rattle.std.specs.Prelude.{ℕ, zero, suc, Bool, true, false, ◌&&◌, List, [], ◌∷◌, map, ℤ, pos, negsuc, ◌+ℤ◌, ◌*ℤ◌}
use Rattle.std.specs.Int.Signed.{non_neg}
use Rattle.alpha.specs.Sheet.{Relation, Relation.at_least, Relation.equal, Row, Constraint, Map, Point}

-- ---- at a point

-- coefficients times point
abbrev pub dot : List ℤ → Point → ℤ
dot [] z = pos 0
dot (c ∷ cs) [] = pos 0
dot (c ∷ cs) (x ∷ z) = c *ℤ x +ℤ dot cs z

-- coefficients times point plus constant
abbrev pub row_at : Row → Point → ℤ
row_at r z = dot r.coefs z +ℤ r.const

abbrev pub is_zero : ℤ → Bool
is_zero (pos zero) = true
is_zero (pos (suc n)) = false
is_zero (negsuc n) = false

abbrev pub stands : Relation → ℤ → Bool
stands at_least x = non_neg x
stands equal x = is_zero x

-- a constraint holds at z if its row at z stands in its relation to 0
abbrev pub meets : Constraint → Point → Bool
meets c z = stands c.rel (row_at c.row z)

abbrev pub meets_all : List Constraint → Point → Bool
meets_all [] z = true
meets_all (c ∷ cs) z = meets c z && meets_all cs z

-- the image of z: a coordinate for each row
abbrev pub image : List Row → Point → Point
image [] z = []
image (r ∷ rs) z = row_at r z ∷ image rs z

-- ---- composed

abbrev pub scale : ℤ → List ℤ → List ℤ
scale c [] = []
scale c (x ∷ xs) = (c *ℤ x) ∷ scale c xs

abbrev pub add_all : List ℤ → List ℤ → List ℤ
add_all [] ys = ys
add_all (x ∷ xs) [] = x ∷ xs
add_all (x ∷ xs) (y ∷ ys) = (x +ℤ y) ∷ add_all xs ys

abbrev pub zeroes : ℕ → List ℤ
zeroes zero = []
zeroes (suc n) = pos 0 ∷ zeroes n

-- the rows rs, each times its coefficient, added up: a row of n coefficients
abbrev pub combine : List ℤ → List Row → ℕ → Row
combine [] rs n = record { coefs = zeroes n; const = pos 0 }
combine (c ∷ cs) [] n = record { coefs = zeroes n; const = pos 0 }
combine (c ∷ cs) (r ∷ rs) n =
    record { coefs = add_all (scale c r.coefs) (combine cs rs n).coefs; const = c *ℤ r.const +ℤ (combine cs rs n).const }

-- the row w after the map f: at z it is w at f's image of z
abbrev pub row_after : Map → Row → Row
row_after f w = record { coefs = (combine w.coefs f.rows f.cols).coefs; const = (combine w.coefs f.rows f.cols).const +ℤ w.const }

abbrev pub constraint_after : Map → Constraint → Constraint
constraint_after f c = record { rel = c.rel; row = row_after f c.row }

-- first f, then g
abbrev pub map_after : Map → Map → Map
map_after f g = record { cols = f.cols; rows = map (row_after f) g.rows }

-- ---- the identity of n dimensions: row i has 1 at coefficient i and 0 elsewhere

abbrev pub wider : Row → Row
wider r = record { coefs = pos 0 ∷ r.coefs; const = r.const }

abbrev pub id_rows : ℕ → List Row
id_rows zero = []
id_rows (suc n) = record { coefs = pos 1 ∷ zeroes n; const = pos 0 } ∷ map wider (id_rows n)

abbrev pub identity : ℕ → Map
identity n = record { cols = n; rows = id_rows n }
