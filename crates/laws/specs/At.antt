-- A node and a tree in the bytes: what is read at a place, the place after it, and where a tree stands. This is what a walk by places
-- knows of the tree that it walks, with no fuel and no count of nodes. Assumes nothing.
use Rattle.std.specs.Prelude.{◌≡◌, ℕ, ◌+◌, ◌*◌, List, length}
use Rattle.alpha.specs.Sheet.{Node, Expr, Exprs}
use Rattle.alpha.specs.Sheet.{Node.n_var, Node.n_int, Node.n_bool, Node.n_unary, Node.n_binary, Node.n_if, Node.n_case, Node.n_restr, Node.n_dep}
use Rattle.alpha.specs.Sheet.{Expr.var, Expr.int, Expr.boo, Expr.un, Expr.bin, Expr.ite, Expr.kase, Expr.restr, Expr.dep, Exprs.none, Exprs.more}
use Rattle.alpha.specs.Read.{Got, got, bad, node}
use Rattle.alpha.specs.Written.{branch_count}

-- ---- a tree's first node

abbrev pub node_of : Expr → Node
node_of (var v) = n_var v
node_of (int c) = n_int c
node_of (boo b) = n_bool b
node_of (un o a) = n_unary o
node_of (bin o a b) = n_binary o
node_of (ite a b c) = n_if
node_of (kase es) = n_case (branch_count es)
node_of (restr d cs a) = n_restr d cs
node_of (dep f a) = n_dep f

abbrev pub code_of : Node → ℕ
code_of (n_var v) = 0
code_of (n_int c) = 1
code_of (n_bool b) = 2
code_of (n_unary o) = 3
code_of (n_binary o) = 4
code_of n_if = 5
code_of (n_case n) = 6
code_of (n_restr d cs) = 7
code_of (n_dep f) = 8

abbrev pub code_number : Expr → ℕ
code_number e = code_of (node_of e)

-- how many bytes a node has: a field has eight
abbrev pub node_size : Node → ℕ
node_size (n_var v) = 16
node_size (n_int c) = 16
node_size (n_bool b) = 16
node_size (n_unary o) = 16
node_size (n_binary o) = 16
node_size n_if = 8
node_size (n_case n) = 16
node_size (n_restr d cs) = 24 + length cs * (16 + 8 * d)
node_size (n_dep f) = 24 + length f.rows * (8 + 8 * f.cols)

-- ---- a node at a place

abbrev pub read_node : Got Node → Node
read_node (got nd q) = nd
read_node (bad n q) = n_if

abbrev pub read_end : Got Node → ℕ
read_end (got nd q) = q
read_end (bad n q) = q

-- the node that is read at p, and the place after it
unfoldable pub node_read : ℕ → List ℕ → ℕ → Node
node_read vars bs p = read_node (node vars bs p)

unfoldable pub node_end : ℕ → List ℕ → ℕ → ℕ
node_end vars bs p = read_end (node vars bs p)

-- ---- a tree at a place

-- the node nd stands at p, and from its next place on stands what it is the head of
pub record Headed (vars : ℕ) (bs : List ℕ) (p : ℕ) (nd : Node) (rest : ℕ → Type 0) : Type 0 where
  pub next : ℕ
  pub here : node vars bs p ≡ got nd next
  pub below : rest next

-- one thing stands up to a place, and another from there on
pub record Two (left right : ℕ → Type 0) : Type 0 where
  pub middle : ℕ
  pub before : left middle
  pub after : right middle

unfoldable mutual
  -- the tree stands in the bytes from p up to q, where there are so many variables
  pub At : Expr → ℕ → List ℕ → ℕ → ℕ → Type 0
  At (var v) vars bs p q = node vars bs p ≡ got (n_var v) q
  At (int c) vars bs p q = node vars bs p ≡ got (n_int c) q
  At (boo b) vars bs p q = node vars bs p ≡ got (n_bool b) q
  At (un o a) vars bs p q = Headed vars bs p (n_unary o) (λ r. At a vars bs r q)
  At (bin o a b) vars bs p q = Headed vars bs p (n_binary o) (λ r. Two (λ m. At a vars bs r m) (λ m. At b vars bs m q))
  At (ite a b c) vars bs p q =
      Headed vars bs p n_if (λ r. Two (λ m. At a vars bs r m) (λ m. Two (λ n. At b vars bs m n) (λ n. At c vars bs n q)))
  At (kase es) vars bs p q = Headed vars bs p (n_case (branch_count es)) (λ r. AllAt es vars bs r q)
  At (restr d cs a) vars bs p q = Headed vars bs p (n_restr d cs) (λ r. At a vars bs r q)
  At (dep f a) vars bs p q = Headed vars bs p (n_dep f) (λ r. At a vars bs r q)

  -- the trees stand one after another from p up to q
  pub AllAt : Exprs → ℕ → List ℕ → ℕ → ℕ → Type 0
  AllAt none vars bs p q = p ≡ q
  AllAt (more e es) vars bs p q = Two (λ m. At e vars bs p m) (λ m. AllAt es vars bs m q)
