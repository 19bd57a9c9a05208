-- A tree as its first node and its children: what the node itself asks and gives, so that a walk does each node alike. The laws that
-- `fits` and `reach` are made of these are in proofs/Children.antt. Assumes nothing.
use Rattle.std.specs.Prelude.{ℕ, Bool, true, List, length, eqb, leb}
use Rattle.alpha.specs.Sheet.{Node, Head, Expr, Exprs}
use Rattle.alpha.specs.Sheet.{Node.n_var, Node.n_int, Node.n_bool, Node.n_unary, Node.n_binary, Node.n_if, Node.n_case, Node.n_restr, Node.n_dep}
use Rattle.alpha.specs.Sheet.{Expr.var, Expr.int, Expr.boo, Expr.un, Expr.bin, Expr.ite, Expr.kase, Expr.restr, Expr.dep, Exprs.none, Exprs.more}
use Rattle.alpha.specs.Read.{dimension}
use Rattle.alpha.specs.Reach.{limit, map_reach, all_reach}

abbrev pub children_of : Expr → Exprs
children_of (var v) = none
children_of (int c) = none
children_of (boo b) = none
children_of (un o a) = more a none
children_of (bin o a b) = more a (more b none)
children_of (ite a b c) = more a (more b (more c none))
children_of (kase es) = es
children_of (restr d cs a) = more a none
children_of (dep f a) = more a none

-- how many children a node has
abbrev pub arity : Node → ℕ
arity (n_var v) = 0
arity (n_int c) = 0
arity (n_bool b) = 0
arity (n_unary o) = 1
arity (n_binary o) = 2
arity n_if = 3
arity (n_case n) = n
arity (n_restr d cs) = 1
arity (n_dep f) = 1

-- ---- dimensions

-- the node itself may stand where n dimensions are wanted
abbrev pub fits_here : Node → List Head → ℕ → Bool
fits_here (n_var v) hs n = eqb (dimension hs v) n
fits_here (n_int c) hs n = eqb 0 n
fits_here (n_bool b) hs n = eqb 0 n
fits_here (n_unary o) hs n = true
fits_here (n_binary o) hs n = true
fits_here n_if hs n = true
fits_here (n_case k) hs n = true
fits_here (n_restr d cs) hs n = eqb d n
fits_here (n_dep f) hs n = eqb f.cols n

-- how many dimensions are wanted of its children
abbrev pub wanted : Node → ℕ → ℕ
wanted (n_var v) n = n
wanted (n_int c) n = n
wanted (n_bool b) n = n
wanted (n_unary o) n = n
wanted (n_binary o) n = n
wanted n_if n = n
wanted (n_case k) n = n
wanted (n_restr d cs) n = n
wanted (n_dep f) n = length f.rows

-- ---- reach

-- the node itself passes no limit
abbrev pub reach_here : Node → ℕ → Bool
reach_here (n_var v) r = true
reach_here (n_int c) r = true
reach_here (n_bool b) r = true
reach_here (n_unary o) r = true
reach_here (n_binary o) r = true
reach_here n_if r = true
reach_here (n_case k) r = true
reach_here (n_restr d cs) r = all_reach r cs
reach_here (n_dep f) r = leb (map_reach r f.rows) limit

-- the reach at its children
abbrev pub reach_below : Node → ℕ → ℕ
reach_below (n_var v) r = r
reach_below (n_int c) r = r
reach_below (n_bool b) r = r
reach_below (n_unary o) r = r
reach_below (n_binary o) r = r
reach_below n_if r = r
reach_below (n_case k) r = r
reach_below (n_restr d cs) r = r
reach_below (n_dep f) r = map_reach r f.rows
