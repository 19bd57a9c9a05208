-- How many branches the normal form of an expression has, and which branch of which child a branch of a case is. The laws that tie these
-- to the normal form are in proofs/Numbered.antt. Assumes nothing.
use Rattle.std.specs.Prelude.{ℕ, ◌+◌, ◌*◌, ◌-◌, min, ltb}
use Rattle.alpha.specs.Pick.{ifb}
use Rattle.normal.specs.declared.Group.{Group}
use Rattle.normal.specs.declared.Group.TheVariants.{Children, Operands}
use Rattle.alpha.specs.Sheet.{Expr, Exprs}
use Rattle.alpha.specs.Sheet.{Expr.var, Expr.int, Expr.boo, Expr.un, Expr.bin, Expr.ite, Expr.kase, Expr.restr, Expr.dep, Exprs.none, Exprs.more}

-- a leaf is one branch; an operator has all combinations of its operands' branches; a case has the branches of all its children
unfoldable mutual
  pub count_of : Expr → ℕ
  count_of (var v) = 1
  count_of (int c) = 1
  count_of (boo b) = 1
  count_of (un o a) = count_of a
  count_of (bin o a b) = count_of a * count_of b
  count_of (ite a b c) = count_of a * (count_of b * count_of c)
  count_of (kase es) = sum_of es
  count_of (restr d cs a) = count_of a
  count_of (dep f a) = count_of a

  pub sum_of : Exprs → ℕ
  sum_of none = 0
  sum_of (more e es) = count_of e + sum_of es

-- the combinations of the branches of operands
unfoldable pub product_of : Exprs → ℕ
product_of none = 1
product_of (more e es) = count_of e * product_of es

-- ---- as the code counts: children of a case or operands, one after another, and nothing above 65

abbrev pub joined : Group → ℕ → ℕ → ℕ
joined Children a b = a + b
joined Operands a b = a * b

abbrev pub counts_of : Group → Exprs → ℕ
counts_of Children es = sum_of es
counts_of Operands es = product_of es

abbrev pub capped : ℕ → ℕ
capped n = min 65 n

-- ---- branch b of a case: the child that it comes from, and which of the child's branches it is

pub record Picked : Type 0 where
  pub child : Expr
  pub branch : ℕ

unfoldable pub pick : Exprs → ℕ → Picked
pick none b = record { child = kase none; branch = b }
pick (more e es) b = ifb (ltb b (count_of e)) (λ _. record { child = e; branch = b }) (λ _. pick es (b - count_of e))
