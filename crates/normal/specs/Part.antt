-- What a branch of a normal form is made of, from the top of its body down: each node with the map composed so far, and the branch's
-- constraints and its tree as the bytes that are written. That this is the branch of crate alpha's normal form, pushed through the map,
-- is proofs/Branched.antt. Assumes nothing.
use Rattle.std.specs.Prelude.{ℕ, ◌+◌, ◌*◌, ◌-◌, ◌/◌, ◌%◌, max, List, [], ◌++◌, map, length, ltb}
use Rattle.alpha.specs.Pick.{ifb}
use Rattle.alpha.specs.Field.{nat}
use Rattle.alpha.specs.Sheet.{Constraint, Map, Node, Expr, Exprs}
use Rattle.alpha.specs.Sheet.{Node.n_var, Node.n_int, Node.n_bool, Node.n_unary, Node.n_binary, Node.n_if, Node.n_case, Node.n_restr, Node.n_dep}
use Rattle.alpha.specs.Sheet.{Expr.var, Expr.int, Expr.boo, Expr.un, Expr.bin, Expr.ite, Expr.kase, Expr.restr, Expr.dep, Exprs.none, Exprs.more}
use Rattle.alpha.specs.Affine.{constraint_after, map_after}
use Rattle.alpha.specs.Written.{flat, unary_code, binary_code, row_bytes, constraint_bytes, bytes, node_count, depth}
use Rattle.normal.specs.declared.Half.{Half}
use Rattle.normal.specs.declared.Half.TheVariants.{Constraints, Tree}
use Rattle.normal.specs.Count.{count_of, product_of}

-- bytes, how many things they are (constraints, or nodes), and how deep they lie
pub record Part : Type 0 where
  pub out : List ℕ
  pub things : ℕ
  pub deep : ℕ

abbrev pub nothing : Part
nothing = record { out = []; things = 0; deep = 0 }

-- one after another
abbrev pub beside : Part → Part → Part
beside p q = record { out = p.out ++ q.out; things = p.things + q.things; deep = max p.deep q.deep }

-- a tree below l nodes, as it is written
abbrev pub tree_part : Expr → ℕ → Part
tree_part x l = record { out = bytes x; things = node_count x; deep = l + depth x }

-- constraints, as they are written
abbrev pub given_part : List Constraint → Part
given_part cs = record { out = flat (map constraint_bytes cs); things = length cs; deep = 0 }

-- ---- one node, where the map so far is m and l nodes of the tree stand above

-- a dependence's own fields
abbrev pub map_bytes : Map → List ℕ
map_bytes m = nat 8 ++ nat m.cols ++ nat (length m.rows) ++ flat (map row_bytes m.rows)

-- a leaf is one dependence over it
abbrev pub leaf : Map → Expr → ℕ → Part
leaf m e l = record { out = bytes (dep m e); things = 2; deep = l + 2 }

abbrev pub operator : List ℕ → Part
operator head = record { out = head; things = 1; deep = 0 }

-- in the branch's tree
abbrev pub of_tree : Node → Map → ℕ → Part
of_tree (n_var v) m l = leaf m (var v) l
of_tree (n_int c) m l = leaf m (int c) l
of_tree (n_bool b) m l = leaf m (boo b) l
of_tree (n_unary o) m l = operator (nat 3 ++ nat (unary_code o))
of_tree (n_binary o) m l = operator (nat 4 ++ nat (binary_code o))
of_tree n_if m l = operator (nat 5)
of_tree (n_case n) m l = nothing
of_tree (n_restr d cs) m l = nothing
of_tree (n_dep f) m l = nothing

-- its constraints
abbrev pub given_by : Node → List Constraint
given_by (n_var v) = []
given_by (n_int c) = []
given_by (n_bool b) = []
given_by (n_unary o) = []
given_by (n_binary o) = []
given_by n_if = []
given_by (n_case n) = []
given_by (n_restr d cs) = cs
given_by (n_dep f) = []

-- in the branch's constraints
abbrev pub of_given : List Constraint → Map → Part
of_given cs m = record { out = flat (map constraint_bytes (map (constraint_after m) cs)); things = length cs; deep = 0 }

-- of the tree, or of the constraints
abbrev pub own : Half → Node → Map → ℕ → Part
own Tree nd m l = of_tree nd m l
own Constraints nd m l = of_given (given_by nd) m

-- ---- branch b of an expression: its node, then its operands' branches, the leftmost changing slowest; a case's own node is not written,
-- and a dependence's map is composed with those above it
unfoldable mutual
  pub part_of : Half → Expr → Map → ℕ → ℕ → Part
  part_of t (var v) m l b = own t (n_var v) m l
  part_of t (int c) m l b = own t (n_int c) m l
  part_of t (boo c) m l b = own t (n_bool c) m l
  part_of t (un o x) m l b = beside (own t (n_unary o) m l) (part_of t x m (l + 1) b)
  part_of t (bin o x y) m l b = beside (own t (n_binary o) m l) (beside (part_of t x m (l + 1) (b / count_of y)) (part_of t y m (l + 1) (b % count_of y)))
  part_of t (ite x y z) m l b =
      beside (own t n_if m l) (beside (part_of t x m (l + 1) (b / (count_of y * count_of z)))
      (beside (part_of t y m (l + 1) (b % (count_of y * count_of z) / count_of z)) (part_of t z m (l + 1) (b % (count_of y * count_of z) % count_of z))))
  part_of t (kase es) m l b = chosen_of t es m l b
  part_of t (restr d cs x) m l b = beside (own t (n_restr d cs) m l) (part_of t x m l b)
  part_of t (dep f x) m l b = part_of t x (map_after m f) l b

  -- branch b of a case
  pub chosen_of : Half → Exprs → Map → ℕ → ℕ → Part
  chosen_of t none m l b = nothing
  chosen_of t (more e es) m l b = ifb (ltb b (count_of e)) (λ _. part_of t e m l b) (λ _. chosen_of t es m l (b - count_of e))

-- combination b of operands
unfoldable pub parts_of : Half → Exprs → Map → ℕ → ℕ → Part
parts_of t none m l b = nothing
parts_of t (more e es) m l b = beside (part_of t e m l (b / product_of es)) (parts_of t es m l (b % product_of es))
