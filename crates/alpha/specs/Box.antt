-- Boxes: how many points, which points, the number of a point in its box and the point of a number, the last coordinate fastest.
-- Assumes nothing.
use Rattle.std.specs.Prelude.{ℕ, ◌+◌, ◌*◌, ◌/◌, ◌%◌, Bool, true, false, ◌&&◌, List, [], ◌∷◌, ℤ, pos, nat_abs, ◌+ℤ◌, ◌-ℤ◌}
use Rattle.std.specs.Int.Signed.{le_z}
use Rattle.alpha.specs.Sheet.{Range, Point}

-- lo <= x <= hi
abbrev pub within : ℤ → ℤ → ℤ → Bool
within lo hi x = le_z lo x && le_z x hi

-- how many numbers a range has; it is read so that lo <= hi
abbrev pub side : Range → ℕ
side r = nat_abs (r.hi -ℤ r.lo) + 1

-- how many points a box has: one where it has no dimension
abbrev pub size : List Range → ℕ
size [] = 1
size (r ∷ rs) = side r * size rs

-- a point of the box: as many coordinates as ranges, each within its range
abbrev pub in_box : List Range → Point → Bool
in_box [] [] = true
in_box [] (x ∷ z) = false
in_box (r ∷ rs) [] = false
in_box (r ∷ rs) (x ∷ z) = within r.lo r.hi x && in_box rs z

-- the number of a point in its box, from 0
abbrev pub index : List Range → Point → ℕ
index [] z = 0
index (r ∷ rs) [] = 0
index (r ∷ rs) (x ∷ z) = nat_abs (x -ℤ r.lo) * size rs + index rs z

-- the point with that number
abbrev pub point_at : List Range → ℕ → Point
point_at [] i = []
point_at (r ∷ rs) i = (r.lo +ℤ pos (i / size rs)) ∷ point_at rs (i % size rs)
