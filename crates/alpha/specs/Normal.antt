-- The normal form of an expression: a list of branches, each its constraints and a tree of operators and ifs whose leaves are one
-- dependence over a variable or a constant. The rules are those of source document 002, 8.1 to 8.3, used from the leaves up.
-- Assumes nothing.
use Rattle.std.specs.Prelude.{ℕ, List, [], ◌∷◌, ◌++◌, map}
use Rattle.alpha.specs.Sheet.{Constraint, Map, Expr, Exprs}
use Rattle.alpha.specs.Sheet.{Expr.var, Expr.int, Expr.boo, Expr.un, Expr.bin, Expr.ite, Expr.kase, Expr.restr, Expr.dep, Exprs.none, Exprs.more}
use Rattle.alpha.specs.Affine.{constraint_after, map_after, identity}

pub record Branch : Type 0 where
  pub given : List Constraint
  pub term : Expr

-- ---- dependence: over a dependence the two become one, the inner map after the outer; over an operator or if it goes to each child;
-- over a restriction each constraint is composed with it; over a case it goes to each branch. (A branch's tree holds no case and no
-- restriction: what is written for them is never asked for.)
unfoldable pub push : Expr → Map → Expr
push (var v) f = dep f (var v)
push (int c) f = dep f (int c)
push (boo b) f = dep f (boo b)
push (un o a) f = un o (push a f)
push (bin o a b) f = bin o (push a f) (push b f)
push (ite a b c) f = ite (push a f) (push b f) (push c f)
push (kase es) f = dep f (kase es)
push (restr d cs a) f = dep f (restr d cs a)
push (dep g a) f = dep (map_after f g) a

abbrev pub push_branch : Map → Branch → Branch
push_branch f b = record { given = map (constraint_after f) b.given; term = push b.term f }

-- ---- restriction: over a case it goes to each branch; over a restriction, outer constraints then inner
abbrev pub restrict : List Constraint → Branch → Branch
restrict cs b = record { given = cs ++ b.given; term = b.term }

-- ---- operators: all combinations of the operands' branches, the leftmost operand's changing slowest; their constraints left to right
abbrev pub under1 : (Expr → Expr) → Branch → Branch
under1 k a = record { given = a.given; term = k a.term }

abbrev pub pairs : (Expr → Expr → Expr) → List Branch → List Branch → List Branch
pairs k [] bs = []
pairs k (a ∷ l) bs = map (restrict a.given) (map (under1 (k a.term)) bs) ++ pairs k l bs

abbrev pub triples : (Expr → Expr → Expr → Expr) → List Branch → List Branch → List Branch → List Branch
triples k [] bs cs = []
triples k (a ∷ l) bs cs = map (restrict a.given) (pairs (k a.term) bs cs) ++ triples k l bs cs

-- ---- the branches of an expression, where dims v is the dimension of variable v. A leaf gets the identity; a case in a case is
-- spliced in place; no constraint or branch is dropped or merged
unfoldable mutual
  pub norm : Expr → (ℕ → ℕ) → List Branch
  norm (var v) dims = record { given = []; term = dep (identity (dims v)) (var v) } ∷ []
  norm (int c) dims = record { given = []; term = dep (identity 0) (int c) } ∷ []
  norm (boo b) dims = record { given = []; term = dep (identity 0) (boo b) } ∷ []
  norm (un o a) dims = map (under1 (un o)) (norm a dims)
  norm (bin o a b) dims = pairs (bin o) (norm a dims) (norm b dims)
  norm (ite a b c) dims = triples ite (norm a dims) (norm b dims) (norm c dims)
  norm (kase es) dims = norms es dims
  norm (restr d cs a) dims = map (restrict cs) (norm a dims)
  norm (dep f a) dims = map (push_branch f) (norm a dims)

  pub norms : Exprs → (ℕ → ℕ) → List Branch
  norms none dims = []
  norms (more e es) dims = norm e dims ++ norms es dims

-- ---- the body: a case of the branches, each a restriction of the variable's dimension
abbrev pub as_exprs : ℕ → List Branch → Exprs
as_exprs n [] = none
as_exprs n (b ∷ bs) = more (restr n b.given b.term) (as_exprs n bs)

abbrev pub body_case : ℕ → List Branch → Expr
body_case n bs = kase (as_exprs n bs)
