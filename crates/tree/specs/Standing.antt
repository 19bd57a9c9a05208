-- What stands at a place of the bytes: a node, a tree of at most so many nodes, so many trees one after another. Assumes nothing.
use Rattle.std.specs.Prelude.{◌≡◌, ℕ, ◌+◌, ◌≤◌, List, length, nat_abs}
use Rattle.alpha.specs.Field.{field}
use Rattle.alpha.specs.Sheet.{Node, Expr, Exprs}
use Rattle.alpha.specs.Read.{got, node}
use Rattle.alpha.specs.Written.{branch_count, node_count, node_counts}
use Rattle.laws.specs.At.{At, AllAt}
use Rattle.laws.specs.Sheets.{vars_of}
use Rattle.tree.specs.declared.Class.{Class}
use Rattle.tree.specs.Classes.{class_at}

-- a node was read at p
pub record Noded (vars : ℕ) (bs : List ℕ) (p : ℕ) : Type 0 where
  pub what : Node
  pub next : ℕ
  pub read : node vars bs p ≡ got what next

-- one of that class was
pub record NodedAs (bs : List ℕ) (p : ℕ) (class : Class) : Type 0 where
  pub noded : Noded (vars_of bs) bs p
  pub class_is : class_at bs p ≡ class

-- the three number fields of a restriction or a dependence stand at p, and the second and third are within their limits
pub record Wide (bs : List ℕ) (p : ℕ) : Type 0 where
  pub there : p + 24 ≤ length bs
  pub dim : nat_abs (field bs (p + 8)) ≤ 4
  pub many : nat_abs (field bs (p + 16)) ≤ 64

-- a tree of at most `left` nodes stands at p
pub record Standing (vars : ℕ) (bs : List ℕ) (p left : ℕ) : Type 0 where
  pub tree : Expr
  pub end : ℕ
  pub at : At tree vars bs p end
  pub few : node_count tree ≤ left
  pub most : left ≤ 2048

-- whose first node is of that class
pub record StandingAs (bs : List ℕ) (p left : ℕ) (class : Class) : Type 0 where
  pub stands : Standing (vars_of bs) bs p left
  pub class_is : class_at bs p ≡ class

-- n trees, of at most `left` nodes in all, stand from p on
pub record StandingAll (vars : ℕ) (bs : List ℕ) (p left n : ℕ) : Type 0 where
  pub trees : Exprs
  pub end : ℕ
  pub at : AllAt trees vars bs p end
  pub few : node_counts trees ≤ left
  pub most : left ≤ 2048
  pub many : branch_count trees ≡ n

-- and there is one at least
pub record StandingSome (vars : ℕ) (bs : List ℕ) (p left n : ℕ) : Type 0 where
  pub all : StandingAll vars bs p left n
  pub some : 1 ≤ n
