-- The number of a point in a box, or that it is not in the box, and the point of a number; and what the code's answers say of them.
-- Assumes nothing.
use Rattle.std.specs.Prelude.{ℕ, ◌+◌, ◌*◌, ◌≤◌, ◌≡◌, List, ℤ, nat_abs, ◌-ℤ◌, Option, Some, None}
use Rattle.alpha.specs.Pick.{ifb}
use Rattle.alpha.specs.Sheet.{Range, Point}
use Rattle.alpha.specs.Box.{within, size, in_box, index, point_at}
use Rattle.affine.specs.Value.{point_of, Padded}
use Rattle.sheet.specs.Record.{box_at, dimension_at, Ranges}

-- the box of the record at p
abbrev pub box_of : List ℕ → ℕ → List Range
box_of bs p = box_at bs (p + 32) (dimension_at bs p)

-- where x stands in a range
abbrev pub digit_in : Range → ℤ → Option ℕ
digit_in r x = ifb (within r.lo r.hi x) (λ _. Some (nat_abs (x -ℤ r.lo))) (λ _. None)

-- the number of z in the box, after e boxes like it
abbrev pub number_from : ℕ → List Range → Point → Option ℕ
number_from e box z = ifb (in_box box z) (λ _. Some (e * size box + index box z)) (λ _. None)

abbrev pub number_in : List Range → Point → Option ℕ
number_in box z = ifb (in_box box z) (λ _. Some (index box z)) (λ _. None)

-- a box stands at p: at most four ranges, as they must be, and at most 4,096 points
pub record Boxed (bs : List ℕ) (p n : ℕ) : Type 0 where
  pub few : n ≤ 4
  pub ranges : Ranges bs p n
  pub small : size (box_at bs p n) ≤ 4096

-- z is the point with the number i in the box of the n ranges from p on, with zeros beyond
pub record PointIn (bs : List ℕ) (p n i : ℕ) (z : List ℤ) : Type 0 where
  pub is : point_of n z ≡ point_at (box_at bs p n) i
  pub rest : Padded n z

-- and in the box of the record at p
abbrev pub PointAt : List ℕ → ℕ → ℕ → List ℤ → Type 0
PointAt bs p i z = PointIn bs (p + 32) (dimension_at bs p) i z
