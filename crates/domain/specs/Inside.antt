-- The table of the elements that are inside their declared domain: whether each is, by its number. Assumes nothing.
use Rattle.std.specs.Prelude.{◌≡◌, ℕ, ◌<◌, Bool, true, false, List, length, get_or}
use Rattle.alpha.specs.Sheet.{Sheet, Point}
use Rattle.alpha.specs.Affine.{meets_all}
use Rattle.alpha.specs.Box.{in_box}
use Rattle.alpha.specs.Holds.{variable}
use Rattle.alpha.specs.Ask.{number_of}

-- true where the declared constraints hold, false where they do not
pub record Inside (s : Sheet) (inside : List Bool) : Type 0 where
  pub sized : length inside ≡ 4096
  pub says : (v : ℕ) (z : Point) → v < length s → in_box (variable s v).head.box z ≡ true →
      get_or inside (number_of s v z) false ≡ meets_all (variable s v).declared z
