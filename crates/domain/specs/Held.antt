-- That a tree, or each of several operands, holds at a point where it may be walked, and that no case reached from it clashes there. In an
-- accepted sheet every body does so at every element that it is worked out for. The laws that carry it to the children are in
-- proofs/Carried.antt. Assumes nothing.
use Rattle.std.specs.Prelude.{◌≡◌, ℕ, List, ℤ}
use Rattle.laws.specs.Sheets.{sheet_of}
use Rattle.affine.specs.Value.{point_of}
use Rattle.domain.specs.declared.Standing.TheVariants.{Holds}
use Rattle.domain.specs.declared.Together.TheVariants.{Operands}
use Rattle.domain.specs.Walk.{Walk, WalkAll}
use Rattle.domain.specs.Standing.{standing, together}

-- a tree of at most `left` nodes at p holds at z, without a clash
pub record Held (bs : List ℕ) (p left : ℕ) (z : List ℤ) : Type 0 where
  pub walk : Walk bs p left z
  pub clear : standing walk.tree (sheet_of bs) (point_of walk.dims z) ≡ Holds

-- n operands from p on all do so
pub record HeldAll (bs : List ℕ) (p left n : ℕ) (z : List ℤ) : Type 0 where
  pub walk : WalkAll bs p left n z
  pub clear : together Operands walk.trees (sheet_of bs) (point_of walk.dims z) ≡ Holds
