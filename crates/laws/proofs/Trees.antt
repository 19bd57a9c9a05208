-- A tree at a place is the tree that `expr_at` reads there, with enough depth and enough nodes; so there is one at most. Assumes nothing.
use mathlib.Core.Path.{◌≡◌, refl, sym, ap, ◌∙◌, subst}
use Prim.Native.Nat.{ℕ, zero, suc, ◌+◌, ◌-◌, max, ◌≤◌}
use native.Mathlib.Nat.{zero-add, add_comm, add_assoc}
use native.Mathlib.Omega.{arith}
use mathlib.Core.List.{List}
use Rattle.alpha.specs.Sheet.{Node, Expr, Exprs}
use Rattle.alpha.specs.Sheet.{Node.n_var, Node.n_int, Node.n_bool, Node.n_unary, Node.n_binary, Node.n_if, Node.n_case, Node.n_restr, Node.n_dep}
use Rattle.alpha.specs.Sheet.{Expr.var, Expr.int, Expr.boo, Expr.un, Expr.bin, Expr.ite, Expr.kase, Expr.restr, Expr.dep, Exprs.none, Exprs.more}
use Rattle.alpha.specs.Read.{Got, got, bad, node}
use Rattle.alpha.specs.Shape.{Parsed, tree, ill, then, Parser, branches, with_node, at_node, expr_at}
use Rattle.alpha.specs.Written.{branch_count, node_count, node_counts, depth, depths}
use Rattle.laws.specs.At.{At, AllAt}

-- ---- what expr_at reads stands there

-- the tree e stands from p up to q, and has m - n nodes and at most the depth d
pub record Read (d vars : ℕ) (bs : List ℕ) (p m : ℕ) (e : Expr) (q n : ℕ) : Type 0 where
  pub at : At e vars bs p q
  pub count : m ≡ node_count e + n
  pub deep : depth e ≤ d

pub record ReadAll (d vars : ℕ) (bs : List ℕ) (p m : ℕ) (es : Exprs) (q n : ℕ) : Type 0 where
  pub at : AllAt es vars bs p q
  pub count : m ≡ node_counts es + n
  pub deep : depths es ≤ d

abbrev Good : ℕ → ℕ → List ℕ → ℕ → ℕ → Parsed Expr → Type 0
Good d vars bs p m (tree e q n) = Read d vars bs p m e q n
Good d vars bs p m ill = Unit {0}

module _ (d vars : ℕ) (bs : List ℕ) (r : Parser Expr) (ih : (p m : ℕ) → Good d vars bs p m (r p m)) where
  -- after a child that is a tree
  child : {A : Type 0} (P : Parsed A → Type 0) (k : Expr → Parser A) (p m : ℕ) → P ill →
      ((e : Expr) (p₁ m₁ : ℕ) → Read d vars bs p m e p₁ m₁ → P (k e p₁ m₁)) → P (then (r p m) k)
  child P k p m none' g = go (r p m) (ih p m)
    where
      go : (t : Parsed Expr) → Good d vars bs p m t → P (then t k)
      go ill h = none'
      go (tree e p₁ m₁) h = g e p₁ m₁ h

  -- the branches of a case: as many as are asked for
  abbrev GoodAll : ℕ → ℕ → ℕ → Parsed Exprs → Type 0
  GoodAll k p m (tree es q n) = ReadAll d vars bs p m es q n × (branch_count es ≡ k)
  GoodAll k p m ill = Unit {0}

  branches-good : (k p m : ℕ) → GoodAll k p m (branches r k p m)
  unfolding branches At node_counts depths
  branches-good zero p m = (record { at = refl; count = omega arith; deep = omega arith }, refl)
  branches-good (suc k) p m =
      child (GoodAll (suc k) p m) _ p m tt (λ e p₁ m₁ h. go e p₁ m₁ h (branches r k p₁ m₁) (branches-good k p₁ m₁))
    where
      go : (e : Expr) (p₁ m₁ : ℕ) → Read d vars bs p m e p₁ m₁ → (t : Parsed Exprs) → GoodAll k p₁ m₁ t →
          GoodAll (suc k) p m (then t (λ es p₂ m₂. tree (more e es) p₂ m₂))
      go e p₁ m₁ h ill g = tt
      go e p₁ m₁ h (tree es p₂ m₂) g = (
        record {
          at = record { middle = p₁; before = h.at; after = g.0.at };
          count = omega (arith, h.count, g.0.count);
          deep = omega (arith, h.deep, g.0.deep);
        },
        ap suc g.1,
      )

  module _ (p : ℕ) where
    node-good : (nd : Node) (q m : ℕ) → node vars bs p ≡ got nd q → Good (suc d) vars bs p (suc m) (with_node r nd q m)
    unfolding with_node At node_count depth
    node-good (n_var v) q m e = record { at = e; count = omega arith; deep = omega arith }
    node-good (n_int c) q m e = record { at = e; count = omega arith; deep = omega arith }
    node-good (n_bool b) q m e = record { at = e; count = omega arith; deep = omega arith }
    node-good (n_unary o) q m e =
        child (Good (suc d) vars bs p (suc m)) _ q m tt (λ a p₁ m₁ h.
        record { at = record { next = q; here = e; below = h.at }; count = omega (arith, h.count); deep = omega (arith, h.deep) })
    node-good (n_binary o) q m e =
        child (Good (suc d) vars bs p (suc m)) _ q m tt (λ a p₁ m₁ h.
        child (Good (suc d) vars bs p (suc m)) _ p₁ m₁ tt (λ b p₂ m₂ g.
        record {
          at = record { next = q; here = e; below = record { middle = p₁; before = h.at; after = g.at } };
          count = omega (arith, h.count, g.count);
          deep = omega (arith, h.deep, g.deep);
        }))
    node-good n_if q m e =
        child (Good (suc d) vars bs p (suc m)) _ q m tt (λ a p₁ m₁ h.
        child (Good (suc d) vars bs p (suc m)) _ p₁ m₁ tt (λ b p₂ m₂ g.
        child (Good (suc d) vars bs p (suc m)) _ p₂ m₂ tt (λ c p₃ m₃ k.
        record {
          at = record { next = q; here = e; below = record { middle = p₁; before = h.at; after = record { middle = p₂; before = g.at; after = k.at } } };
          count = omega (arith, h.count, g.count, k.count);
          deep = omega (arith, h.deep, g.deep, k.deep);
        })))
    node-good (n_case n) q m e = go (branches r n q m) (branches-good n q m)
      where
        go : (t : Parsed Exprs) → GoodAll n q m t → Good (suc d) vars bs p (suc m) (then t (λ es p₁ m₁. tree (kase es) p₁ m₁))
        go ill h = tt
        go (tree es p₁ m₁) h =
            record { at = record { next = q; here = rw h.1 e; below = h.0.at }; count = omega (arith, h.0.count); deep = omega (arith, h.0.deep) }
    node-good (n_restr n cs) q m e =
        child (Good (suc d) vars bs p (suc m)) _ q m tt (λ a p₁ m₁ h.
        record { at = record { next = q; here = e; below = h.at }; count = omega (arith, h.count); deep = omega (arith, h.deep) })
    node-good (n_dep f) q m e =
        child (Good (suc d) vars bs p (suc m)) _ q m tt (λ a p₁ m₁ h.
        record { at = record { next = q; here = e; below = h.at }; count = omega (arith, h.count); deep = omega (arith, h.deep) })

    got-good : (g : Got Node) (m : ℕ) → node vars bs p ≡ g → Good (suc d) vars bs p (suc m) (at_node (with_node r) g m)
    unfolding at_node
    got-good (got nd q) m e = node-good nd q m e
    got-good (bad n q) m e = tt

expr_at-good : (d vars : ℕ) (bs : List ℕ) (p m : ℕ) → Good d vars bs p m (expr_at d vars bs p m)
unfolding expr_at
expr_at-good zero vars bs p m = tt
expr_at-good (suc d) vars bs p zero = tt
expr_at-good (suc d) vars bs p (suc m) =
    got-good d vars bs (λ q n. expr_at d vars bs q n) (λ q n. expr_at-good d vars bs q n) p (node vars bs p) m refl

pub expr_at-read : {d vars : ℕ} {bs : List ℕ} {p m : ℕ} {e : Expr} {q n : ℕ} → expr_at d vars bs p m ≡ tree e q n → Read d vars bs p m e q n
expr_at-read {d} {vars} {bs} {p} {m} h = subst (Good d vars bs p m) h (expr_at-good d vars bs p m)

-- ---- what stands there is what expr_at reads

module _ (vars : ℕ) (bs : List ℕ) where
  -- the first node is read, and the rest with a depth and a node less
  one-node : (d p m n q : ℕ) (nd : Node) → node vars bs p ≡ got nd q → 1 ≤ d → m ≡ suc n →
      expr_at d vars bs p m ≡ with_node (λ o k. expr_at (d - 1) vars bs o k) nd q n
  unfolding expr_at at_node
  one-node zero p m n q nd e l c = absurd (omega arith)
  one-node (suc d) p m n q nd e l c = let less : suc d - 1 ≡ d = omega arith in rw (c, e, less)

  mutual
    unfolding At with_node branches node_count node_counts depth depths

    pub at-expr_at : (e : Expr) (d p q k : ℕ) → At e vars bs p q → depth e ≤ d → expr_at d vars bs p (node_count e + k) ≡ tree e q k
    at-expr_at (var v) d p q k h l = one-node d p (1 + k) k q (n_var v) h l (omega arith)
    at-expr_at (int c) d p q k h l = one-node d p (1 + k) k q (n_int c) h l (omega arith)
    at-expr_at (boo b) d p q k h l = one-node d p (1 + k) k q (n_bool b) h l (omega arith)
    at-expr_at (un o a) d p q k h l =
        one-node d p (suc (node_count a) + k) (node_count a + k) h.next (n_unary o) h.here (omega arith) (omega arith)
        ∙ rw (at-expr_at a (d - 1) h.next q k h.below (omega arith)) refl
    at-expr_at (bin o a b) d p q k h l =
        let g = h.below in
        one-node d p (suc (node_count a + node_count b) + k) (node_count a + (node_count b + k)) h.next (n_binary o) h.here (omega arith) (omega arith)
        ∙ rw (
          at-expr_at a (d - 1) h.next g.middle (node_count b + k) g.before (omega arith),
          at-expr_at b (d - 1) g.middle q k g.after (omega arith),
        ) refl
    at-expr_at (ite a b c) d p q k h l =
        let g = h.below in
        let f = g.after in
        let rest = node_count a + (node_count b + (node_count c + k)) in
        one-node d p (suc (node_count a + node_count b + node_count c) + k) rest h.next n_if h.here (omega arith) (omega arith)
        ∙ rw (
          at-expr_at a (d - 1) h.next g.middle (node_count b + (node_count c + k)) g.before (omega arith),
          at-expr_at b (d - 1) g.middle f.middle (node_count c + k) f.before (omega arith),
          at-expr_at c (d - 1) f.middle q k f.after (omega arith),
        ) refl
    at-expr_at (kase es) d p q k h l =
        one-node d p (suc (node_counts es) + k) (node_counts es + k) h.next (n_case (branch_count es)) h.here (omega arith) (omega arith)
        ∙ rw (all_at-branches es (d - 1) h.next q k h.below (omega arith)) refl
    at-expr_at (restr n cs a) d p q k h l =
        one-node d p (suc (node_count a) + k) (node_count a + k) h.next (n_restr n cs) h.here (omega arith) (omega arith)
        ∙ rw (at-expr_at a (d - 1) h.next q k h.below (omega arith)) refl
    at-expr_at (dep f a) d p q k h l =
        one-node d p (suc (node_count a) + k) (node_count a + k) h.next (n_dep f) h.here (omega arith) (omega arith)
        ∙ rw (at-expr_at a (d - 1) h.next q k h.below (omega arith)) refl

    pub all_at-branches : (es : Exprs) (d p q k : ℕ) → AllAt es vars bs p q → depths es ≤ d →
        branches (λ o n. expr_at d vars bs o n) (branch_count es) p (node_counts es + k) ≡ tree es q k
    all_at-branches none d p q k h l = rw (h, zero-add) refl
    all_at-branches (more e es) d p q k h l =
        rw (
          add_assoc (node_count e) (node_counts es) k,
          at-expr_at e d p h.middle (node_counts es + k) h.before (omega arith),
          all_at-branches es d h.middle q k h.after (omega arith),
        ) refl

-- ---- there is one at most

pub record SameTree (e e' : Expr) (q q' : ℕ) : Type 0 where
  pub tree_is : e ≡ e'
  pub end_is : q ≡ q'

pub at-unique : (vars : ℕ) (bs : List ℕ) (p : ℕ) (e e' : Expr) (q q' : ℕ) → At e vars bs p q → At e' vars bs p q' → SameTree e e' q q'
at-unique vars bs p e e' q q' h h' =
    let d = max (depth e) (depth e') in
    let x : expr_at d vars bs p (node_count e + node_count e') ≡ tree e q (node_count e') = at-expr_at vars bs e d p q (node_count e') h (omega arith) in
    let y : expr_at d vars bs p (node_count e' + node_count e) ≡ tree e' q' (node_count e) = at-expr_at vars bs e' d p q' (node_count e) h' (omega arith) in
    let z : tree e q (node_count e') ≡ tree e' q' (node_count e) = sym x ∙ ap (expr_at d vars bs p) (add_comm (node_count e) (node_count e')) ∙ y in
    record { tree_is = cc; end_is = cc }
