-- Where an expression holds (the report's Domain), and where a case clashes.
-- Assumes nothing.
use Rattle.std.specs.Prelude.{ℕ, Bool, true, false, ◌&&◌, ◌||◌, [], length, get_or, eqb}
use Rattle.alpha.specs.Sheet.{Kind, Kind.input, Kind.output, Kind.local, Expr, Exprs, Variable, Sheet, Point}
use Rattle.alpha.specs.Sheet.{Expr.var, Expr.int, Expr.boo, Expr.un, Expr.bin, Expr.ite, Expr.kase, Expr.restr, Expr.dep, Exprs.none, Exprs.more}
use Rattle.alpha.specs.Affine.{meets_all, image}
use Rattle.alpha.specs.Box.{in_box}
use Rattle.alpha.specs.Read.{no_head}

-- ---- a sheet's variables

abbrev pub no_variable : Variable
no_variable = record { head = no_head; declared = []; body = kase none; start = 0; end = 0 }

-- variable v; no sheet that is read speaks of one that it does not have
abbrev pub variable : Sheet → ℕ → Variable
variable s v = get_or s v no_variable

abbrev pub is_input_kind : Kind → Bool
is_input_kind input = true
is_input_kind output = false
is_input_kind local = false

abbrev pub is_input : Variable → Bool
is_input x = is_input_kind x.head.kind

-- the declared domain: the points of the box where all declared constraints hold
abbrev pub in_domain : Variable → Point → Bool
in_domain x z = in_box x.head.box z && meets_all x.declared z

-- ---- where an expression holds: a variable on its declared domain, a constant at the one point of dimension 0, operators and if
-- where all operands hold, a case where some branch holds, a restriction where its constraints and its child hold, a dependence
-- where its child holds at the image
unfoldable mutual
  pub holds : Expr → Sheet → Point → Bool
  holds (var v) s z = in_domain (variable s v) z
  holds (int c) s z = eqb (length z) 0
  holds (boo b) s z = eqb (length z) 0
  holds (un o a) s z = holds a s z
  holds (bin o a b) s z = holds a s z && holds b s z
  holds (ite a b c) s z = holds a s z && holds b s z && holds c s z
  holds (kase es) s z = some_holds es s z
  holds (restr d cs a) s z = meets_all cs z && holds a s z
  holds (dep f a) s z = holds a s (image f.rows z)

  pub some_holds : Exprs → Sheet → Point → Bool
  some_holds none s z = false
  some_holds (more e es) s z = holds e s z || some_holds es s z

-- two branches hold at z
unfoldable pub two_hold : Exprs → Sheet → Point → Bool
two_hold none s z = false
two_hold (more e es) s z = holds e s z && some_holds es s z || two_hold es s z

-- ---- a case that is reached at z has two branches that hold: it is reached through operands, branches that hold, restrictions and
-- images, and not through other variables' bodies. Asked only where the expression holds.
unfoldable mutual
  pub clashes : Expr → Sheet → Point → Bool
  clashes (var v) s z = false
  clashes (int c) s z = false
  clashes (boo b) s z = false
  clashes (un o a) s z = clashes a s z
  clashes (bin o a b) s z = clashes a s z || clashes b s z
  clashes (ite a b c) s z = clashes a s z || clashes b s z || clashes c s z
  clashes (kase es) s z = two_hold es s z || in_branches es s z
  clashes (restr d cs a) s z = clashes a s z
  clashes (dep f a) s z = clashes a s (image f.rows z)

  pub in_branches : Exprs → Sheet → Point → Bool
  in_branches none s z = false
  in_branches (more e es) s z = holds e s z && clashes e s z || in_branches es s z
