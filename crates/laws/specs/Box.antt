-- Boxes as they are read: each range has numbers, and none is far from 0. Assumes nothing.
use Rattle.std.specs.Prelude.{Bool, true, ◌&&◌, List, [], ◌∷◌, pos, neg_ℤ}
use Rattle.std.specs.Int.Signed.{le_z}
use Rattle.alpha.specs.Sheet.{Range}

-- lo <= hi in each range
abbrev pub ordered : List Range → Bool
ordered [] = true
ordered (r ∷ rs) = le_z r.lo r.hi && ordered rs

-- -32768 <= lo <= hi <= 32767
abbrev pub read_range : Range → Bool
read_range r = le_z (neg_ℤ (pos 32768)) r.lo && le_z r.lo r.hi && le_z r.hi (pos 32767)

abbrev pub read_box : List Range → Bool
read_box [] = true
read_box (r ∷ rs) = read_range r && read_box rs
