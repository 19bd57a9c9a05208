-- What holds of every branch of a normal form, by the rules that make it: one induction, `norm-all`, which each fact about branches uses
-- with its own rules. Assumes nothing.
use Prim.Native.Nat.{ℕ}
use mathlib.Core.List.{List, [], ◌∷◌, ◌++◌, map}
use lib.IntN.{ℤ}
use Rattle.alpha.specs.Sheet.{Unary, Binary, Constraint, Map, Expr, Exprs}
use Rattle.alpha.specs.Sheet.{Expr.var, Expr.int, Expr.boo, Expr.un, Expr.bin, Expr.ite, Expr.kase, Expr.restr, Expr.dep, Exprs.none, Exprs.more}
use Rattle.alpha.specs.Affine.{identity}
use Rattle.alpha.specs.Normal.{Branch, push_branch, restrict, under1, pairs, triples, norm, norms}

-- ---- every branch of a list

abbrev pub AllBranches : (Branch → Type 0) → List Branch → Type 0
AllBranches P [] = Unit {0}
AllBranches P (b ∷ bs) = P b × AllBranches P bs

module _ (P : Branch → Type 0) where
  all_append : (xs ys : List Branch) → AllBranches P xs → AllBranches P ys → AllBranches P (xs ++ ys)
  all_append [] ys h k = k
  all_append (x ∷ xs) ys h k = (h.0, all_append xs ys h.1 k)

  module _ (Q : Branch → Type 0) (F : Branch → Branch) (keeps : (b : Branch) → P b → Q (F b)) where
    all_map : (bs : List Branch) → AllBranches P bs → AllBranches Q (map F bs)
    all_map [] h = tt
    all_map (b ∷ bs) h = (keeps b h.0, all_map bs h.1)

pub all_same : (P Q : Branch → Type 0) → ((b : Branch) → P b → Q b) → (bs : List Branch) → AllBranches P bs → AllBranches Q bs
all_same P Q f [] h = tt
all_same P Q f (b ∷ bs) h = (f b h.0, all_same P Q f bs h.1)

-- two branches under an operator: the constraints left to right
abbrev pub joined : (Expr → Expr → Expr) → Branch → Branch → Branch
joined k a b = restrict a.given (under1 (k a.term) b)

module _ (P Q S : Branch → Type 0) (k : Expr → Expr → Expr) (joins : (a b : Branch) → P a → Q b → S (joined k a b)) where
  all-pairs : (xs bs : List Branch) → AllBranches P xs → AllBranches Q bs → AllBranches S (pairs k xs bs)
  all-pairs [] bs h g = tt
  all-pairs (a ∷ xs) bs h g =
      all_append S (map (restrict a.given) (map (under1 (k a.term)) bs)) (pairs k xs bs)
      (all_map (λ b. S (restrict a.given b)) S (restrict a.given) (λ b s. s) (map (under1 (k a.term)) bs)
      (all_map Q (λ b. S (restrict a.given b)) (under1 (k a.term)) (λ b q. joins a b h.0 q) bs g))
      (all-pairs xs bs h.1 g)

-- three branches under an if
abbrev pub joined3 : (Expr → Expr → Expr → Expr) → Branch → Branch → Branch → Branch
joined3 k a b c = restrict a.given (joined (k a.term) b c)

module _ (P Q S T : Branch → Type 0) (k : Expr → Expr → Expr → Expr) (joins : (a b c : Branch) → P a → Q b → S c → T (joined3 k a b c)) where
  all-triples : (xs bs cs : List Branch) → AllBranches P xs → AllBranches Q bs → AllBranches S cs → AllBranches T (triples k xs bs cs)
  all-triples [] bs cs h g f = tt
  all-triples (a ∷ xs) bs cs h g f =
      all_append T (map (restrict a.given) (pairs (k a.term) bs cs)) (triples k xs bs cs)
      (all_map (λ b. T (restrict a.given b)) T (restrict a.given) (λ b t. t) (pairs (k a.term) bs cs)
      (all-pairs Q S (λ b. T (restrict a.given b)) (k a.term) (λ b c q s. joins a b c h.0 q s) bs cs g f))
      (all-triples xs bs cs h.1 g f)

-- ---- the induction

-- what each rule keeps: Q of an expression and a branch of it, R of the branches of a case and a branch of them
pub record Rules (dims : ℕ → ℕ) (Q : Expr → Branch → Type 0) (R : Exprs → Branch → Type 0) : Type 0 where
  pub of-var : (v : ℕ) → Q (var v) (record { given = []; term = dep (identity (dims v)) (var v) })
  pub of-int : (c : ℤ) → Q (int c) (record { given = []; term = dep (identity 0) (int c) })
  pub of-boo : (b : ℕ) → Q (boo b) (record { given = []; term = dep (identity 0) (boo b) })
  pub of-un : (o : Unary) (e : Expr) (a : Branch) → Q e a → Q (un o e) (under1 (un o) a)
  pub of-bin : (o : Binary) (e f : Expr) (a b : Branch) → Q e a → Q f b → Q (bin o e f) (joined (bin o) a b)
  pub of-ite : (e f g : Expr) (a b c : Branch) → Q e a → Q f b → Q g c → Q (ite e f g) (joined3 ite a b c)
  pub of-kase : (es : Exprs) (a : Branch) → R es a → Q (kase es) a
  pub of-restr : (d : ℕ) (cs : List Constraint) (e : Expr) (a : Branch) → Q e a → Q (restr d cs e) (restrict cs a)
  pub of-dep : (f : Map) (e : Expr) (a : Branch) → Q e a → Q (dep f e) (push_branch f a)
  pub of-first : (e : Expr) (es : Exprs) (a : Branch) → Q e a → R (more e es) a
  pub of-rest : (e : Expr) (es : Exprs) (a : Branch) → R es a → R (more e es) a

module _ (dims : ℕ → ℕ) (Q : Expr → Branch → Type 0) (R : Exprs → Branch → Type 0) (k : Rules dims Q R) where
  mutual
    unfolding norm norms

    pub norm-all : (e : Expr) → AllBranches (Q e) (norm e dims)
    norm-all (var v) = (k.of-var v, tt)
    norm-all (int c) = (k.of-int c, tt)
    norm-all (boo b) = (k.of-boo b, tt)
    norm-all (un o a) = all_map (Q a) (Q (un o a)) (under1 (un o)) (k.of-un o a) (norm a dims) (norm-all a)
    norm-all (bin o a b) = all-pairs (Q a) (Q b) (Q (bin o a b)) (bin o) (k.of-bin o a b) (norm a dims) (norm b dims) (norm-all a) (norm-all b)
    norm-all (ite a b c) =
        all-triples (Q a) (Q b) (Q c) (Q (ite a b c)) ite (k.of-ite a b c) (norm a dims) (norm b dims) (norm c dims) (norm-all a) (norm-all b) (norm-all c)
    norm-all (kase es) = all_same (R es) (Q (kase es)) (k.of-kase es) (norms es dims) (norms-all es)
    norm-all (restr d cs a) = all_map (Q a) (Q (restr d cs a)) (restrict cs) (k.of-restr d cs a) (norm a dims) (norm-all a)
    norm-all (dep f a) = all_map (Q a) (Q (dep f a)) (push_branch f) (k.of-dep f a) (norm a dims) (norm-all a)

    pub norms-all : (es : Exprs) → AllBranches (R es) (norms es dims)
    norms-all none = tt
    norms-all (more e es) =
        all_append (R (more e es)) (norm e dims) (norms es dims)
        (all_same (Q e) (R (more e es)) (k.of-first e es) (norm e dims) (norm-all e))
        (all_same (R es) (R (more e es)) (k.of-rest e es) (norms es dims) (norms-all es))
