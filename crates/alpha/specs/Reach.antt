-- REACH, refusal 9: how large a coordinate or a constraint's row can become. The sums are exact, so nothing wraps before it is tested.
-- Assumes nothing.
use Rattle.std.specs.Prelude.{ℕ, ◌+◌, ◌*◌, ◌^◌, max, Bool, true, ◌&&◌, List, [], ◌∷◌, ℤ, nat_abs, leb}
use Rattle.alpha.specs.Sheet.{Row, Constraint, Expr, Exprs}
use Rattle.alpha.specs.Sheet.{Expr.var, Expr.int, Expr.boo, Expr.un, Expr.bin, Expr.ite, Expr.kase, Expr.restr, Expr.dep, Exprs.none, Exprs.more}

-- no reach and no row's sum may pass this
abbrev pub limit : ℕ
limit = 2 ^ 40

-- the reach at the top of each body and for declared constraints
abbrev pub top_reach : ℕ
top_reach = 32768

abbrev pub sizes : List ℤ → ℕ
sizes [] = 0
sizes (c ∷ cs) = nat_abs c + sizes cs

-- (sum of sizes of coefficients) times reach plus size of constant
abbrev pub row_reach : ℕ → Row → ℕ
row_reach r w = sizes w.coefs * r + nat_abs w.const

-- below a dependence: the greatest over its rows, and at least 1
abbrev pub map_reach : ℕ → List Row → ℕ
map_reach r [] = 1
map_reach r (w ∷ ws) = max (row_reach r w) (map_reach r ws)

abbrev pub all_reach : ℕ → List Constraint → Bool
all_reach r [] = true
all_reach r (c ∷ cs) = leb (row_reach r c.row) limit && all_reach r cs

-- no reach and no restriction's constraint below here passes the limit, where the reach is r
unfoldable mutual
  pub reach : Expr → ℕ → Bool
  reach (var v) r = true
  reach (int c) r = true
  reach (boo b) r = true
  reach (un o a) r = reach a r
  reach (bin o a b) r = reach a r && reach b r
  reach (ite a b c) r = reach a r && reach b r && reach c r
  reach (kase es) r = reach_all es r
  reach (restr d cs a) r = all_reach r cs && reach a r
  reach (dep f a) r = leb (map_reach r f.rows) limit && reach a (map_reach r f.rows)

  pub reach_all : Exprs → ℕ → Bool
  reach_all none r = true
  reach_all (more e es) r = reach e r && reach_all es r
