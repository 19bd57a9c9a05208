-- SHAPE, refusal 7: a body is the tree that stands in prefix order at its place, at most 32 nodes deep, of its variable's dimension.
-- Assumes nothing.
use Rattle.std.specs.Prelude.{ℕ, zero, suc, Bool, true, ◌&&◌, List, [], ◌∷◌, length, eqb}
use Rattle.alpha.specs.Pick.{ifb}
use Rattle.alpha.specs.Answer.{Answer, accepted, refused, next, SHAPE}
use Rattle.alpha.specs.Sheet.{Kind, Kind.input, Kind.output, Kind.local, Constraint, Node, Head, Declared, Raw, Expr, Exprs, Sheet}
use Rattle.alpha.specs.Sheet.{Node.n_var, Node.n_int, Node.n_bool, Node.n_unary, Node.n_binary, Node.n_if, Node.n_case, Node.n_restr, Node.n_dep}
use Rattle.alpha.specs.Sheet.{Expr.var, Expr.int, Expr.boo, Expr.un, Expr.bin, Expr.ite, Expr.kase, Expr.restr, Expr.dep, Exprs.none, Exprs.more}
use Rattle.alpha.specs.Read.{Got, got, bad, node, dimension}

-- ---- trees from the bytes

-- a tree, the place after it and the nodes left; or none
pub data Parsed (A : Type 0) : Type 0 where
  tree : A → ℕ → ℕ → Parsed A
  ill : Parsed A

abbrev pub then : {A B : Type 0} → Parsed A → (A → ℕ → ℕ → Parsed B) → Parsed B
then (tree a p m) k = k a p m
then ill k = ill

-- from a place, with so many nodes left
abbrev pub Parser : Type 0 → Type 0
Parser A = ℕ → ℕ → Parsed A

-- n trees one after another
unfoldable pub branches : Parser Expr → ℕ → Parser Exprs
branches r zero p m = tree none p m
branches r (suc n) p m = then (r p m) (λ e p₁ m₁. then (branches r n p₁ m₁) (λ es p₂ m₂. tree (more e es) p₂ m₂))

-- the tree of a node whose children r reads
unfoldable pub with_node : Parser Expr → Node → Parser Expr
with_node r (n_var v) p m = tree (var v) p m
with_node r (n_int c) p m = tree (int c) p m
with_node r (n_bool b) p m = tree (boo b) p m
with_node r (n_unary o) p m = then (r p m) (λ a p₁ m₁. tree (un o a) p₁ m₁)
with_node r (n_binary o) p m = then (r p m) (λ a p₁ m₁. then (r p₁ m₁) (λ b p₂ m₂. tree (bin o a b) p₂ m₂))
with_node r n_if p m = then (r p m) (λ a p₁ m₁. then (r p₁ m₁) (λ b p₂ m₂. then (r p₂ m₂) (λ c p₃ m₃. tree (ite a b c) p₃ m₃)))
with_node r (n_case n) p m = then (branches r n p m) (λ es p₁ m₁. tree (kase es) p₁ m₁)
with_node r (n_restr d cs) p m = then (r p m) (λ a p₁ m₁. tree (restr d cs a) p₁ m₁)
with_node r (n_dep f) p m = then (r p m) (λ a p₁ m₁. tree (dep f a) p₁ m₁)

unfoldable pub at_node : (Node → Parser Expr) → Got Node → ℕ → Parsed Expr
at_node k (got nd q) m = k nd q m
at_node k (bad n q) m = ill

-- the tree at a place that is at most so many nodes deep; a lone leaf has depth 1
unfoldable pub expr_at : ℕ → ℕ → List ℕ → Parser Expr
expr_at zero vars bs p m = ill
expr_at (suc d) vars bs p zero = ill
expr_at (suc d) vars bs p (suc m) = at_node (with_node (λ q n. expr_at d vars bs q n)) (node vars bs p) m

-- ---- dimensions, from the top: may the expression stand where n dimensions are wanted?
-- A constant has none, a variable its own; operands, branches and a restriction agree; a dependence has its columns, and its child its rows.
unfoldable mutual
  pub fits : Expr → List Head → ℕ → Bool
  fits (var v) hs n = eqb (dimension hs v) n
  fits (int c) hs n = eqb 0 n
  fits (boo b) hs n = eqb 0 n
  fits (un o a) hs n = fits a hs n
  fits (bin o a b) hs n = fits a hs n && fits b hs n
  fits (ite a b c) hs n = fits a hs n && fits b hs n && fits c hs n
  fits (kase es) hs n = all_fit es hs n
  fits (restr d cs a) hs n = eqb d n && fits a hs n
  fits (dep f a) hs n = eqb f.cols n && fits a hs (length f.rows)

  pub all_fit : Exprs → List Head → ℕ → Bool
  all_fit none hs n = true
  all_fit (more e es) hs n = fits e hs n && all_fit es hs n

-- ---- bodies

-- the declared constraints of variable v, in order
abbrev pub of_variable : ℕ → List Declared → List Constraint
of_variable v [] = []
of_variable v (d ∷ ds) = ifb (eqb d.who v) (λ _. d.what ∷ of_variable v ds) (λ _. of_variable v ds)

-- a body, the place after it and the nodes left
pub record Bodied : Type 0 where
  pub expr : Expr
  pub next : ℕ
  pub left : ℕ

unfoldable pub shaped : ℕ → Head → List Head → Parsed Expr → Answer Bodied
shaped v h hs (tree e q n) = ifb (fits e hs (length h.box)) (λ _. accepted (record { expr = e; next = q; left = n })) (λ _. refused SHAPE v)
shaped v h hs ill = refused SHAPE v

-- the body of variable v from p on, with m nodes left; an input has none, which is written as a case of no branches
abbrev pub body_of : Kind → ℕ → Head → List Head → List ℕ → ℕ → ℕ → Answer Bodied
body_of input v h hs bs p m = accepted (record { expr = kase none; next = p; left = m })
body_of output v h hs bs p m = shaped v h hs (expr_at 32 (length hs) bs p m)
body_of local v h hs bs p m = shaped v h hs (expr_at 32 (length hs) bs p m)

-- the variables from number v on, from the node at p on, with m nodes left; after the last, none may be left
unfoldable pub bodies : Raw → List ℕ → List Head → ℕ → ℕ → ℕ → Answer Sheet
bodies r bs [] v p zero = accepted []
bodies r bs [] v p (suc m) = refused SHAPE v
bodies r bs (h ∷ hs) v p m =
    next (body_of h.kind v h r.heads bs p m) (λ b.
    next (bodies r bs hs (suc v) b.next b.left) (λ vs.
    accepted (record { head = h; declared = of_variable v r.decls; body = b.expr; start = p; end = b.next } ∷ vs)))
