-- What a walk of a tree at a point requires, so that no sum on the way leaves an i64: the tree stands there, it has the point's dimension,
-- and where the point's coordinates reach no reach passes the limit. The laws that carry it to the children are in proofs/Walks.antt.
-- Assumes nothing.
use Rattle.std.specs.Prelude.{◌≡◌, ℕ, ◌≤◌, true, List, ℤ}
use Rattle.alpha.specs.Sheet.{Expr, Exprs}
use Rattle.alpha.specs.Shape.{fits, all_fit}
use Rattle.alpha.specs.Reach.{limit, reach, reach_all}
use Rattle.alpha.specs.Written.{branch_count, node_count, node_counts}
use Rattle.laws.specs.At.{At, AllAt}
use Rattle.laws.specs.Sheets.{heads_of, vars_of}
use Rattle.affine.specs.Value.{point_of, Padded}
use Rattle.affine.specs.Size.{Near}

-- r is where every tree at p that has a dimension ends
abbrev pub Ends : List ℕ → ℕ → ℕ → Type 0
Ends bs p r = (e : Expr) (q n : ℕ) → At e (vars_of bs) bs p q → fits e (heads_of bs) n ≡ true → r ≡ q

-- z has so many coordinates, each at most `bound` in size, and zeros beyond
pub record Bounded (dims bound : ℕ) (z : List ℤ) : Type 0 where
  pub padded : Padded dims z
  pub near : Near bound (point_of dims z)
  pub low : 1 ≤ bound
  pub high : bound ≤ limit

-- a tree of at most `left` nodes stands at p, and may be walked at z
pub record Walk (bs : List ℕ) (p left : ℕ) (z : List ℤ) : Type 0 where
  pub tree : Expr
  pub end : ℕ
  pub dims : ℕ
  pub bound : ℕ
  pub at : At tree (vars_of bs) bs p end
  pub few : node_count tree ≤ left
  pub most : left ≤ 2048
  pub fitting : fits tree (heads_of bs) dims ≡ true
  pub reaches : reach tree bound ≡ true
  pub point : Bounded dims bound z

-- n trees, of at most `left` nodes in all, stand from p on, and may be walked at z
pub record WalkAll (bs : List ℕ) (p left n : ℕ) (z : List ℤ) : Type 0 where
  pub trees : Exprs
  pub end : ℕ
  pub dims : ℕ
  pub bound : ℕ
  pub at : AllAt trees (vars_of bs) bs p end
  pub few : node_counts trees ≤ left
  pub most : left ≤ 2048
  pub many : branch_count trees ≡ n
  pub fitting : all_fit trees (heads_of bs) dims ≡ true
  pub reaches : reach_all trees bound ≡ true
  pub point : Bounded dims bound z
