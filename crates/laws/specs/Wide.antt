-- Rows as wide as their map or restriction says, as all that are read are. Assumes nothing.
use Rattle.std.specs.Prelude.{◌≡◌, ℕ, List, [], ◌∷◌, length}
use Rattle.alpha.specs.Sheet.{Row, Constraint, Expr, Exprs}
use Rattle.alpha.specs.Sheet.{Expr.var, Expr.int, Expr.boo, Expr.un, Expr.bin, Expr.ite, Expr.kase, Expr.restr, Expr.dep, Exprs.none, Exprs.more}

-- each row has n coefficients
abbrev pub RowsWide : ℕ → List Row → Type 0
RowsWide n [] = Unit {0}
RowsWide n (w ∷ ws) = (length w.coefs ≡ n) × RowsWide n ws

abbrev pub ConstraintsWide : ℕ → List Constraint → Type 0
ConstraintsWide n [] = Unit {0}
ConstraintsWide n (c ∷ cs) = (length c.row.coefs ≡ n) × ConstraintsWide n cs

unfoldable mutual
  pub Wide : Expr → Type 0
  Wide (var v) = Unit {0}
  Wide (int c) = Unit {0}
  Wide (boo b) = Unit {0}
  Wide (un o a) = Wide a
  Wide (bin o a b) = Wide a × Wide b
  Wide (ite a b c) = Wide a × Wide b × Wide c
  Wide (kase es) = AllWide es
  Wide (restr d cs a) = ConstraintsWide d cs × Wide a
  Wide (dep f a) = RowsWide f.cols f.rows × Wide a

  pub AllWide : Exprs → Type 0
  AllWide none = Unit {0}
  AllWide (more e es) = Wide e × AllWide es
