-- A tree as its first node and its children: where the children stand, and what `expr_at`, `fits` and `reach` are by the node and the
-- children. A walk over prefix nodes does each node alike, and then so many children. Assumes nothing.
use mathlib.Core.Path.{◌≡◌, refl, sym, ap, ◌∙◌}
use Prim.Native.Nat.{ℕ, zero, suc, ◌≤◌}
use native.Mathlib.Omega.{arith}
use mathlib.Core.Bool.{Bool, true, false, ◌&&◌}
use mathlib.Core.List.{List}
use lib.ListN.{length}
use lib.Dec.{eqb, leb}
use Rattle.alpha.specs.Sheet.{Node, Head, Expr, Exprs}
use Rattle.alpha.specs.Sheet.{Node.n_var, Node.n_int, Node.n_bool, Node.n_unary, Node.n_binary, Node.n_if, Node.n_case, Node.n_restr, Node.n_dep}
use Rattle.alpha.specs.Sheet.{Expr.var, Expr.int, Expr.boo, Expr.un, Expr.bin, Expr.ite, Expr.kase, Expr.restr, Expr.dep, Exprs.none, Exprs.more}
use Rattle.alpha.specs.Read.{got, node, dimension}
use Rattle.alpha.specs.Shape.{Parsed, tree, ill, then, Parser, branches, with_node, at_node, expr_at, fits, all_fit}
use Rattle.alpha.specs.Reach.{limit, map_reach, all_reach, reach, reach_all}
use Rattle.alpha.specs.Written.{branch_count, node_count, node_counts}
use Rattle.laws.specs.At.{node_of, node_end, Headed, At, AllAt}
use Rattle.laws.specs.Children.{children_of, arity, fits_here, wanted, reach_here, reach_below}
use Rattle.laws.proofs.Nodes.{NodeAt, node_end_lem}

-- ---- children

pub children-many : (e : Expr) → branch_count (children_of e) ≡ arity (node_of e)
children-many (var v) = refl
children-many (int c) = refl
children-many (boo b) = refl
children-many (un o a) = refl
children-many (bin o a b) = refl
children-many (ite a b c) = refl
children-many (kase es) = refl
children-many (restr d cs a) = refl
children-many (dep f a) = refl

pub children-count : (e : Expr) → node_count e ≡ suc (node_counts (children_of e))
unfolding node_count node_counts
children-count (var v) = refl
children-count (int c) = refl
children-count (boo b) = refl
children-count (un o a) = omega arith
children-count (bin o a b) = omega arith
children-count (ite a b c) = omega arith
children-count (kase es) = refl
children-count (restr d cs a) = omega arith
children-count (dep f a) = omega arith

-- ---- how many they are at most

module _ (vars : ℕ) (bs : List ℕ) (p : ℕ) where
  pub arity-few : (nd : Node) → NodeAt vars bs p nd → arity nd ≤ 64
  arity-few (n_var v) h = omega arith
  arity-few (n_int c) h = omega arith
  arity-few (n_bool b) h = omega arith
  arity-few (n_unary o) h = omega arith
  arity-few (n_binary o) h = omega arith
  arity-few n_if h = omega arith
  arity-few (n_case n) h = h.fields.high
  arity-few (n_restr d cs) h = omega arith
  arity-few (n_dep f) h = omega arith

-- ---- where the children stand

module _ (vars : ℕ) (bs : List ℕ) where
  one_below : (nd : Node) (p q : ℕ) (a : Expr) → Headed vars bs p nd (λ r. At a vars bs r q) → AllAt (more a none) vars bs (node_end vars bs p) q
  unfolding At
  one_below nd p q a h = record { middle = q; before = rw (node_end_lem vars bs p nd h.next h.here) h.below; after = refl }

  -- from the place after the node on
  pub at-children : (e : Expr) (p q : ℕ) → At e vars bs p q → AllAt (children_of e) vars bs (node_end vars bs p) q
  unfolding At
  at-children (var v) p q h = node_end_lem vars bs p (n_var v) q h
  at-children (int c) p q h = node_end_lem vars bs p (n_int c) q h
  at-children (boo b) p q h = node_end_lem vars bs p (n_bool b) q h
  at-children (un o a) p q h = one_below (n_unary o) p q a h
  at-children (bin o a b) p q h =
      let n = node_end_lem vars bs p (n_binary o) h.next h.here in
      let g = h.below in
      record { middle = g.middle; before = rw n g.before; after = record { middle = q; before = g.after; after = refl } }
  at-children (ite a b c) p q h =
      let n = node_end_lem vars bs p n_if h.next h.here in
      let g = h.below in
      let f = g.after in
      record {
        middle = g.middle;
        before = rw n g.before;
        after = record { middle = f.middle; before = f.before; after = record { middle = q; before = f.after; after = refl } };
      }
  at-children (kase es) p q h = rw (node_end_lem vars bs p (n_case (branch_count es)) h.next h.here) h.below
  at-children (restr d cs a) p q h = one_below (n_restr d cs) p q a h
  at-children (dep f a) p q h = one_below (n_dep f) p q a h

-- ---- the tree of a node and its children

abbrev head_of : Exprs → Expr
head_of none = kase none
head_of (more e es) = e

abbrev rest_of : Exprs → Exprs
rest_of none = none
rest_of (more e es) = es

abbrev pub build : Node → Exprs → Expr
build (n_var v) es = var v
build (n_int c) es = int c
build (n_bool b) es = boo b
build (n_unary o) es = un o (head_of es)
build (n_binary o) es = bin o (head_of es) (head_of (rest_of es))
build n_if es = ite (head_of es) (head_of (rest_of es)) (head_of (rest_of (rest_of es)))
build (n_case n) es = kase es
build (n_restr d cs) es = restr d cs (head_of es)
build (n_dep f) es = dep f (head_of es)

module _ (r : Parser Expr) where
  -- what is made of the trees that `branches` reads, n of them from p on
  abbrev made : (Exprs → Expr) → ℕ → Parser Expr
  made k n p m = then (branches r n p m) (λ es q j. tree (k es) q j)

  -- the first of them, and then the others
  made_more : (k : Exprs → Expr) (n p m : ℕ) → made k (suc n) p m ≡ then (r p m) (λ e q j. made (λ es. k (more e es)) n q j)
  unfolding branches
  made_more k n p m = go (r p m)
    where
      go : (t : Parsed Expr) → then (then t (λ e q j. then (branches r n q j) (λ es q₂ j₂. tree (more e es) q₂ j₂))) (λ es q j. tree (k es) q j)
          ≡ then t (λ e q j. made (λ es. k (more e es)) n q j)
      go ill = refl
      go (tree e q j) = last (branches r n q j)
        where
          last : (b : Parsed Exprs) → then (then b (λ es q₂ j₂. tree (more e es) q₂ j₂)) (λ es q₁ j₁. tree (k es) q₁ j₁) ≡ then b (λ es q₁ j₁. tree (k (more e es)) q₁ j₁)
          last ill = refl
          last (tree es q₂ j₂) = refl

  one-made : (k : Exprs → Expr) (p m : ℕ) → made k 1 p m ≡ then (r p m) (λ a q j. tree (k (more a none)) q j)
  unfolding branches
  one-made k p m = made_more k 0 p m

  two_made : (k : Exprs → Expr) (p m : ℕ) → made k 2 p m ≡ then (r p m) (λ a p₁ m₁. then (r p₁ m₁) (λ b q j. tree (k (more a (more b none))) q j))
  two_made k p m = made_more k 1 p m ∙ simp one-made

  three_made : (k : Exprs → Expr) (p m : ℕ) →
      made k 3 p m ≡ then (r p m) (λ a p₁ m₁. then (r p₁ m₁) (λ b p₂ m₂. then (r p₂ m₂) (λ c q j. tree (k (more a (more b (more c none)))) q j)))
  three_made k p m = made_more k 2 p m ∙ simp two_made

  pub node-branches : (nd : Node) (p m : ℕ) → with_node r nd p m ≡ then (branches r (arity nd) p m) (λ es q n. tree (build nd es) q n)
  unfolding with_node branches
  node-branches (n_var v) p m = refl
  node-branches (n_int c) p m = refl
  node-branches (n_bool b) p m = refl
  node-branches (n_unary o) p m = sym (one-made (build (n_unary o)) p m)
  node-branches (n_binary o) p m = sym (two_made (build (n_binary o)) p m)
  node-branches n_if p m = sym (three_made (build n_if) p m)
  node-branches (n_case n) p m = refl
  node-branches (n_restr d cs) p m = sym (one-made (build (n_restr d cs)) p m)
  node-branches (n_dep f) p m = sym (one-made (build (n_dep f)) p m)

  -- as many trees as were asked for
  abbrev Many : ℕ → Type 0
  Many n = (p m : ℕ) (es : Exprs) (q j : ℕ) → branches r n p m ≡ tree es q j → branch_count es ≡ n

  many-rest : (n : ℕ) → Many n → (e : Expr) (p m : ℕ) (es : Exprs) (q j : ℕ) (b : Parsed Exprs) → branches r n p m ≡ b →
      then b (λ l p₂ m₂. tree (more e l) p₂ m₂) ≡ tree es q j → branch_count es ≡ suc n
  many-rest n ih e p m es q j ill g h = let z : ◌≡◌ {A = ℕ} 0 1 = cc in absurd (omega arith)
  many-rest n ih e p m es q j (tree l p₂ m₂) g h = let is : es ≡ more e l = cc in rw is (ap suc (ih p m l p₂ m₂ g))

  many-first : (n : ℕ) → Many n → (es : Exprs) (q j : ℕ) (t : Parsed Expr) →
      then t (λ e p₁ m₁. then (branches r n p₁ m₁) (λ l p₂ m₂. tree (more e l) p₂ m₂)) ≡ tree es q j → branch_count es ≡ suc n
  many-first n ih es q j ill h = let z : ◌≡◌ {A = ℕ} 0 1 = cc in absurd (omega arith)
  many-first n ih es q j (tree e p₁ m₁) h = many-rest n ih e p₁ m₁ es q j (branches r n p₁ m₁) refl h

  pub branches-many : (n : ℕ) → Many n
  unfolding branches
  branches-many zero p m es q j h = let e : es ≡ none = cc in rw e refl
  branches-many (suc n) p m es q j h = many-first n (branches-many n) es q j (r p m) h

-- the first node is read, and so many children with a depth and a node less
pub expr_at-branches : (vars : ℕ) (bs : List ℕ) (d p m q : ℕ) (nd : Node) → node vars bs p ≡ got nd q →
    expr_at (suc d) vars bs p (suc m) ≡ then (branches (λ o n. expr_at d vars bs o n) (arity nd) q m) (λ es o n. tree (build nd es) o n)
unfolding expr_at at_node
expr_at-branches vars bs d p m q nd e = rw e (node-branches (λ o n. expr_at d vars bs o n) nd q m)

-- the node and the children that it was made of

pub build-node : (nd : Node) (es : Exprs) → branch_count es ≡ arity nd → node_of (build nd es) ≡ nd
build-node (n_var v) es h = refl
build-node (n_int c) es h = refl
build-node (n_bool b) es h = refl
build-node (n_unary o) es h = refl
build-node (n_binary o) es h = refl
build-node n_if es h = refl
build-node (n_case n) es h = ap n_case h
build-node (n_restr d cs) es h = refl
build-node (n_dep f) es h = refl

no-trees : (es : Exprs) → branch_count es ≡ 0 → none ≡ es
no-trees none h = refl
no-trees (more e es) h = absurd (omega arith)

one-tree : (es : Exprs) → branch_count es ≡ 1 → more (head_of es) none ≡ es
one-tree none h = absurd (omega arith)
one-tree (more a es) h = ap (more a) (no-trees es (omega arith))

two-trees : (es : Exprs) → branch_count es ≡ 2 → more (head_of es) (more (head_of (rest_of es)) none) ≡ es
two-trees none h = absurd (omega arith)
two-trees (more a es) h = ap (more a) (one-tree es (omega arith))

three-trees : (es : Exprs) → branch_count es ≡ 3 → more (head_of es) (more (head_of (rest_of es)) (more (head_of (rest_of (rest_of es))) none)) ≡ es
three-trees none h = absurd (omega arith)
three-trees (more a es) h = ap (more a) (two-trees es (omega arith))

pub build-children : (nd : Node) (es : Exprs) → branch_count es ≡ arity nd → children_of (build nd es) ≡ es
build-children (n_var v) es h = no-trees es h
build-children (n_int c) es h = no-trees es h
build-children (n_bool b) es h = no-trees es h
build-children (n_unary o) es h = one-tree es h
build-children (n_binary o) es h = two-trees es h
build-children n_if es h = three-trees es h
build-children (n_case n) es h = refl
build-children (n_restr d cs) es h = one-tree es h
build-children (n_dep f) es h = one-tree es h

-- ---- dimensions

&&-none : (b : Bool) → b ≡ b && true
&&-none true = refl
&&-none false = refl

&&-three : (a b c : Bool) → a && b && c ≡ a && (b && (c && true))
&&-three true true c = &&-none c
&&-three true false c = refl
&&-three false b c = refl

module _ (hs : List Head) (n : ℕ) where
  pub fits-children : (e : Expr) → fits e hs n ≡ fits_here (node_of e) hs n && all_fit (children_of e) hs (wanted (node_of e) n)
  unfolding fits
  fits-children (var v) = &&-none (eqb (dimension hs v) n)
  fits-children (int c) = &&-none (eqb 0 n)
  fits-children (boo b) = &&-none (eqb 0 n)
  fits-children (un o a) = &&-none (fits a hs n)
  fits-children (bin o a b) = ap (λ x. fits a hs n && x) (&&-none (fits b hs n))
  fits-children (ite a b c) = &&-three (fits a hs n) (fits b hs n) (fits c hs n)
  fits-children (kase es) = refl
  fits-children (restr d cs a) = ap (λ x. eqb d n && x) (&&-none (fits a hs n))
  fits-children (dep f a) = ap (λ x. eqb f.cols n && x) (&&-none (fits a hs (length f.rows)))

  pub fits-build : (nd : Node) (es : Exprs) → branch_count es ≡ arity nd → fits (build nd es) hs n ≡ fits_here nd hs n && all_fit es hs (wanted nd n)
  fits-build nd es h = fits-children (build nd es) ∙ rw (build-node nd es h, build-children nd es h)

-- ---- reach

pub reach-children : (e : Expr) (r : ℕ) → reach e r ≡ reach_here (node_of e) r && reach_all (children_of e) (reach_below (node_of e) r)
unfolding reach
reach-children (var v) r = refl
reach-children (int c) r = refl
reach-children (boo b) r = refl
reach-children (un o a) r = &&-none (reach a r)
reach-children (bin o a b) r = ap (λ x. reach a r && x) (&&-none (reach b r))
reach-children (ite a b c) r = &&-three (reach a r) (reach b r) (reach c r)
reach-children (kase es) r = refl
reach-children (restr d cs a) r = ap (λ x. all_reach r cs && x) (&&-none (reach a r))
reach-children (dep f a) r = ap (λ x. leb (map_reach r f.rows) limit && x) (&&-none (reach a (map_reach r f.rows)))
