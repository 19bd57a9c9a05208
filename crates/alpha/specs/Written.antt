-- How an expression is written: its bytes, how many nodes it has, how deep it is.
-- Assumes nothing.
use Rattle.std.specs.Prelude.{ℕ, suc, ◌+◌, max, List, [], ◌∷◌, ◌++◌, map, length}
use Rattle.alpha.specs.Sheet.{Relation, Relation.at_least, Relation.equal, Unary, Binary, Row, Constraint, Expr, Exprs}
use Rattle.alpha.specs.Sheet.{Expr.var, Expr.int, Expr.boo, Expr.un, Expr.bin, Expr.ite, Expr.kase, Expr.restr, Expr.dep, Exprs.none, Exprs.more}
use Rattle.alpha.specs.Sheet.{Unary.negate, Unary.complement, Binary.plus, Binary.minus, Binary.times, Binary.quot, Binary.rem, Binary.least, Binary.most, Binary.same, Binary.differ, Binary.under, Binary.up_to, Binary.over, Binary.from, Binary.both, Binary.either, Binary.one}
use Rattle.alpha.specs.Field.{num, nat}

abbrev pub flat : List (List ℕ) → List ℕ
flat [] = []
flat (x ∷ xs) = x ++ flat xs

abbrev pub relation_code : Relation → ℕ
relation_code at_least = 0
relation_code equal = 1

abbrev pub unary_code : Unary → ℕ
unary_code negate = 0
unary_code complement = 1

abbrev pub binary_code : Binary → ℕ
binary_code plus = 0
binary_code minus = 1
binary_code times = 2
binary_code quot = 3
binary_code rem = 4
binary_code least = 5
binary_code most = 6
binary_code same = 7
binary_code differ = 8
binary_code under = 9
binary_code up_to = 10
binary_code over = 11
binary_code from = 12
binary_code both = 13
binary_code either = 14
binary_code one = 15

-- coefficients, then the constant
abbrev pub row_bytes : Row → List ℕ
row_bytes r = flat (map num r.coefs) ++ num r.const

abbrev pub constraint_bytes : Constraint → List ℕ
constraint_bytes c = nat (relation_code c.rel) ++ row_bytes c.row

abbrev pub branch_count : Exprs → ℕ
branch_count none = 0
branch_count (more e es) = suc (branch_count es)

-- the nodes in prefix order: each its code, its fields, then its children
unfoldable mutual
  pub bytes : Expr → List ℕ
  bytes (var v) = nat 0 ++ nat v
  bytes (int c) = nat 1 ++ num c
  bytes (boo b) = nat 2 ++ nat b
  bytes (un o a) = nat 3 ++ nat (unary_code o) ++ bytes a
  bytes (bin o a b) = nat 4 ++ nat (binary_code o) ++ bytes a ++ bytes b
  bytes (ite a b c) = nat 5 ++ bytes a ++ bytes b ++ bytes c
  bytes (kase es) = nat 6 ++ nat (branch_count es) ++ all_bytes es
  bytes (restr d cs a) = nat 7 ++ nat d ++ nat (length cs) ++ flat (map constraint_bytes cs) ++ bytes a
  bytes (dep f a) = nat 8 ++ nat f.cols ++ nat (length f.rows) ++ flat (map row_bytes f.rows) ++ bytes a

  pub all_bytes : Exprs → List ℕ
  all_bytes none = []
  all_bytes (more e es) = bytes e ++ all_bytes es

unfoldable mutual
  pub node_count : Expr → ℕ
  node_count (var v) = 1
  node_count (int c) = 1
  node_count (boo b) = 1
  node_count (un o a) = suc (node_count a)
  node_count (bin o a b) = suc (node_count a + node_count b)
  node_count (ite a b c) = suc (node_count a + node_count b + node_count c)
  node_count (kase es) = suc (node_counts es)
  node_count (restr d cs a) = suc (node_count a)
  node_count (dep f a) = suc (node_count a)

  pub node_counts : Exprs → ℕ
  node_counts none = 0
  node_counts (more e es) = node_count e + node_counts es

-- a lone leaf has depth 1
unfoldable mutual
  pub depth : Expr → ℕ
  depth (var v) = 1
  depth (int c) = 1
  depth (boo b) = 1
  depth (un o a) = suc (depth a)
  depth (bin o a b) = suc (max (depth a) (depth b))
  depth (ite a b c) = suc (max (depth a) (max (depth b) (depth c)))
  depth (kase es) = suc (depths es)
  depth (restr d cs a) = suc (depth a)
  depth (dep f a) = suc (depth a)

  pub depths : Exprs → ℕ
  depths none = 0
  depths (more e es) = max (depth e) (depths es)
