-- The form of a normal form, and the sheet whose bodies are the normal forms. Assumes nothing.
use Rattle.std.specs.Prelude.{ℕ, ◌+◌, Bool, true, false, ◌&&◌, List, [], ◌∷◌, ◌++◌, map, length}
use Rattle.alpha.specs.Pick.{ifb}
use Rattle.alpha.specs.Sheet.{Expr, Exprs, Variable, Sheet}
use Rattle.alpha.specs.Sheet.{Expr.var, Expr.int, Expr.boo, Expr.un, Expr.bin, Expr.ite, Expr.kase, Expr.restr, Expr.dep, Exprs.none, Exprs.more}
use Rattle.alpha.specs.Holds.{is_input}
use Rattle.alpha.specs.Written.{bytes, node_count}
use Rattle.alpha.specs.Normalise.{normal_body}

-- ---- the form

-- a variable or a constant
abbrev pub is_leaf : Expr → Bool
is_leaf (var v) = true
is_leaf (int c) = true
is_leaf (boo b) = true
is_leaf (un o a) = false
is_leaf (bin o a b) = false
is_leaf (ite a b c) = false
is_leaf (kase es) = false
is_leaf (restr d cs a) = false
is_leaf (dep f a) = false

-- only operators and ifs, above leaves that are one dependence over a variable or a constant
unfoldable pub tree_form : Expr → Bool
tree_form (var v) = false
tree_form (int c) = false
tree_form (boo b) = false
tree_form (un o a) = tree_form a
tree_form (bin o a b) = tree_form a && tree_form b
tree_form (ite a b c) = tree_form a && tree_form b && tree_form c
tree_form (kase es) = false
tree_form (restr d cs a) = false
tree_form (dep f a) = is_leaf a

abbrev pub branch_form : Expr → Bool
branch_form (var v) = false
branch_form (int c) = false
branch_form (boo b) = false
branch_form (un o a) = false
branch_form (bin o a b) = false
branch_form (ite a b c) = false
branch_form (kase es) = false
branch_form (restr d cs a) = tree_form a
branch_form (dep f a) = false

abbrev pub branch_forms : Exprs → Bool
branch_forms none = true
branch_forms (more e es) = branch_form e && branch_forms es

-- a case of restrictions of such trees
abbrev pub body_form : Expr → Bool
body_form (var v) = false
body_form (int c) = false
body_form (boo b) = false
body_form (un o a) = false
body_form (bin o a b) = false
body_form (ite a b c) = false
body_form (kase es) = branch_forms es
body_form (restr d cs a) = false
body_form (dep f a) = false

-- ---- the sheet

abbrev pub normal_variable : Sheet → Variable → Variable
normal_variable s x = record { head = x.head; declared = x.declared; body = normal_body s x; start = x.start; end = x.end }

abbrev pub normal_sheet : Sheet → Sheet
normal_sheet s = map (normal_variable s) s

-- ---- the bytes

-- the bodies' bytes, of the variables that have bodies
abbrev pub body_bytes : Sheet → Sheet → List ℕ
body_bytes s [] = []
body_bytes s (x ∷ xs) = ifb (is_input x) (λ _. body_bytes s xs) (λ _. bytes (normal_body s x) ++ body_bytes s xs)

-- how many nodes they have
abbrev pub body_nodes : Sheet → Sheet → ℕ
body_nodes s [] = 0
body_nodes s (x ∷ xs) = ifb (is_input x) (λ _. body_nodes s xs) (λ _. node_count (normal_body s x) + body_nodes s xs)

abbrev pub placed : Variable → Expr → ℕ → ℕ → Variable
placed x e p q = record { head = x.head; declared = x.declared; body = e; start = p; end = q }

-- the variables with those bodies, which stand from p on
abbrev pub rewritten : Sheet → Sheet → ℕ → Sheet
rewritten s [] p = []
rewritten s (x ∷ xs) p =
    ifb (is_input x) (λ _. placed x (kase none) p p ∷ rewritten s xs p)
    (λ _. placed x (normal_body s x) p (p + length (bytes (normal_body s x))) ∷ rewritten s xs (p + length (bytes (normal_body s x))))
