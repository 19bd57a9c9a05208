-- What the fields of the third section can hold: an expression each of whose numbers is one that its field takes. Assumes nothing.
use Rattle.std.specs.Prelude.{◌≡◌, ℕ, ◌-◌, ◌^◌, ◌≤◌, true, List, [], ◌∷◌, length, pos, neg_ℤ, nat_abs}
use Rattle.alpha.specs.Sheet.{Row, Expr, Exprs}
use Rattle.alpha.specs.Sheet.{Expr.var, Expr.int, Expr.boo, Expr.un, Expr.bin, Expr.ite, Expr.kase, Expr.restr, Expr.dep, Exprs.none, Exprs.more}
use Rattle.alpha.specs.Box.{within}
use Rattle.alpha.specs.Written.{branch_count}

-- P holds of each
abbrev pub All : {A : Type 0} → (A → Type 0) → List A → Type 0
All P [] = Unit {0}
All P (a ∷ l) = P a × All P l

-- a row of n coefficients whose numbers a free field takes
pub record RowOk (n : ℕ) (w : Row) : Type 0 where
  pub width : length w.coefs ≡ n
  pub coefs_small : All (λ x. nat_abs x ≤ 2 ^ 40) w.coefs
  pub const_small : nat_abs w.const ≤ 2 ^ 40

unfoldable mutual
  -- where there are so many variables
  pub Writable : Expr → ℕ → Type 0
  Writable (var v) vars = v ≤ vars - 1
  Writable (int c) vars = within (neg_ℤ (pos 2147483648)) (pos 2147483647) c ≡ true
  Writable (boo b) vars = b ≤ 1
  Writable (un o a) vars = Writable a vars
  Writable (bin o a b) vars = Writable a vars × Writable b vars
  Writable (ite a b c) vars = Writable a vars × Writable b vars × Writable c vars
  Writable (kase es) vars = (1 ≤ branch_count es) × (branch_count es ≤ 64) × AllWritable es vars
  Writable (restr d cs a) vars = (d ≤ 4) × (length cs ≤ 64) × All (λ c. RowOk d c.row) cs × Writable a vars
  Writable (dep f a) vars = (f.cols ≤ 4) × (length f.rows ≤ 4) × All (RowOk f.cols) f.rows × Writable a vars

  pub AllWritable : Exprs → ℕ → Type 0
  AllWritable none vars = Unit {0}
  AllWritable (more e es) vars = Writable e vars × AllWritable es vars
