-- What a node's class says: of the node, of the tree that it heads, and of its fields and the place after it. `view` is the one law by a
-- tree's cases; `leaf-tree` and `operator-tree` take a leaf's and an operator's cases apart. Assumes nothing.
use mathlib.Core.Path.{◌≡◌, refl, sym, ap, ◌∙◌, subst}
use Prim.Native.Nat.{ℕ, ◌+◌, ◌*◌, ◌≤◌}
use native.Mathlib.Omega.{arith}
use mathlib.Core.List.{List}
use mathlib.Core.Logic.{◌⊎◌, inl, inr}
use lib.ListN.{length}
use lib.IntN.{ℤ, pos, nat_abs}
use Rattle.alpha.specs.Field.{field}
use Rattle.alpha.specs.Sheet.{Unary, Binary, Constraint, Map, Node, Expr}
use Rattle.alpha.specs.Sheet.{Node.n_var, Node.n_int, Node.n_bool, Node.n_unary, Node.n_binary, Node.n_if, Node.n_case, Node.n_restr, Node.n_dep}
use Rattle.alpha.specs.Sheet.{Expr.var, Expr.int, Expr.boo, Expr.un, Expr.bin, Expr.ite, Expr.kase, Expr.restr, Expr.dep, Exprs.none}
use Rattle.alpha.specs.Read.{got, node}
use Rattle.laws.specs.At.{node_of, code_of, node_size, node_read, node_end, At}
use Rattle.laws.specs.Children.{children_of, arity}
use Rattle.laws.specs.Sheets.{vars_of}
use Rattle.laws.proofs.Readers.{counted_is}
use Rattle.laws.proofs.Nodes.{NodeAt, node_at, node-size, node-read, node_end_lem}
use Rattle.laws.proofs.Shapes.{KaseAt, RestrAt, DepAt, at_read, at_code, at-shape, all_at-none}
use Rattle.laws.proofs.Children.{at-children}
use Rattle.tree.specs.declared.Class.{Class}
use Rattle.tree.specs.declared.Class.TheVariants.{Leaf, Operator, Case, Restriction, Dependence}
use Rattle.tree.specs.Classes.{class_of, class_at}
use Rattle.tree.specs.Standing.{Noded, NodedAs, Wide}

-- ---- a node by its class

module _ (P : Node → Type 0) where
  pub leaf-node : ((v : ℕ) → P (n_var v)) → ((c : ℤ) → P (n_int c)) → ((b : ℕ) → P (n_bool b)) → (nd : Node) → class_of nd ≡ Leaf → P nd
  leaf-node f g h (n_var v) e = f v
  leaf-node f g h (n_int c) e = g c
  leaf-node f g h (n_bool b) e = h b
  leaf-node f g h (n_unary o) e = absurd cc
  leaf-node f g h (n_binary o) e = absurd cc
  leaf-node f g h n_if e = absurd cc
  leaf-node f g h (n_case n) e = absurd cc
  leaf-node f g h (n_restr d cs) e = absurd cc
  leaf-node f g h (n_dep m) e = absurd cc

  pub operator-node : ((o : Unary) → P (n_unary o)) → ((o : Binary) → P (n_binary o)) → P n_if → (nd : Node) → class_of nd ≡ Operator → P nd
  operator-node f g h (n_var v) e = absurd cc
  operator-node f g h (n_int c) e = absurd cc
  operator-node f g h (n_bool b) e = absurd cc
  operator-node f g h (n_unary o) e = f o
  operator-node f g h (n_binary o) e = g o
  operator-node f g h n_if e = h
  operator-node f g h (n_case n) e = absurd cc
  operator-node f g h (n_restr d cs) e = absurd cc
  operator-node f g h (n_dep m) e = absurd cc

  pub case-node : ((n : ℕ) → P (n_case n)) → (nd : Node) → class_of nd ≡ Case → P nd
  case-node f (n_var v) e = absurd cc
  case-node f (n_int c) e = absurd cc
  case-node f (n_bool b) e = absurd cc
  case-node f (n_unary o) e = absurd cc
  case-node f (n_binary o) e = absurd cc
  case-node f n_if e = absurd cc
  case-node f (n_case n) e = f n
  case-node f (n_restr d cs) e = absurd cc
  case-node f (n_dep m) e = absurd cc

  pub restriction-node : ((d : ℕ) (cs : List Constraint) → P (n_restr d cs)) → (nd : Node) → class_of nd ≡ Restriction → P nd
  restriction-node f (n_var v) e = absurd cc
  restriction-node f (n_int c) e = absurd cc
  restriction-node f (n_bool b) e = absurd cc
  restriction-node f (n_unary o) e = absurd cc
  restriction-node f (n_binary o) e = absurd cc
  restriction-node f n_if e = absurd cc
  restriction-node f (n_case n) e = absurd cc
  restriction-node f (n_restr d cs) e = f d cs
  restriction-node f (n_dep m) e = absurd cc

  pub dependence-node : ((f : Map) → P (n_dep f)) → (nd : Node) → class_of nd ≡ Dependence → P nd
  dependence-node f (n_var v) e = absurd cc
  dependence-node f (n_int c) e = absurd cc
  dependence-node f (n_bool b) e = absurd cc
  dependence-node f (n_unary o) e = absurd cc
  dependence-node f (n_binary o) e = absurd cc
  dependence-node f n_if e = absurd cc
  dependence-node f (n_case n) e = absurd cc
  dependence-node f (n_restr d cs) e = absurd cc
  dependence-node f (n_dep m) e = f m

-- ---- a tree by its class

module _ (P : Expr → Type 0) where
  pub leaf-tree : ((v : ℕ) → P (var v)) → ((c : ℤ) → P (int c)) → ((b : ℕ) → P (boo b)) → (e : Expr) → class_of (node_of e) ≡ Leaf → P e
  leaf-tree f g h (var v) e = f v
  leaf-tree f g h (int c) e = g c
  leaf-tree f g h (boo b) e = h b
  leaf-tree f g h (un o a) e = absurd cc
  leaf-tree f g h (bin o a b) e = absurd cc
  leaf-tree f g h (ite a b c) e = absurd cc
  leaf-tree f g h (kase es) e = absurd cc
  leaf-tree f g h (restr d cs a) e = absurd cc
  leaf-tree f g h (dep m a) e = absurd cc

  pub operator-tree : ((o : Unary) (a : Expr) → P (un o a)) → ((o : Binary) (a b : Expr) → P (bin o a b)) → ((a b c : Expr) → P (ite a b c)) →
      (e : Expr) → class_of (node_of e) ≡ Operator → P e
  operator-tree f g h (var v) e = absurd cc
  operator-tree f g h (int c) e = absurd cc
  operator-tree f g h (boo b) e = absurd cc
  operator-tree f g h (un o a) e = f o a
  operator-tree f g h (bin o a b) e = g o a b
  operator-tree f g h (ite a b c) e = h a b c
  operator-tree f g h (kase es) e = absurd cc
  operator-tree f g h (restr d cs a) e = absurd cc
  operator-tree f g h (dep m a) e = absurd cc

-- ---- a tree at a place by the class that is read there

-- a leaf ends with its node
pub record LeafAt (e : Expr) (bs : List ℕ) (p q : ℕ) : Type 0 where
  pub class_is : class_of (node_of e) ≡ Leaf
  pub none_below : children_of e ≡ none
  pub end : node_end (vars_of bs) bs p ≡ q

pub record OperatorAt (e : Expr) : Type 0 where
  pub class_is : class_of (node_of e) ≡ Operator

-- what a tree of a class is
abbrev pub ViewAt : Expr → List ℕ → ℕ → ℕ → Class → Type 0
ViewAt e bs p q Leaf = LeafAt e bs p q
ViewAt e bs p q Operator = OperatorAt e
ViewAt e bs p q Case = KaseAt e (vars_of bs) bs p q
ViewAt e bs p q Restriction = RestrAt e (vars_of bs) bs p q
ViewAt e bs p q Dependence = DepAt e (vars_of bs) bs p q

module _ (bs : List ℕ) where
  leaf-view : (e : Expr) (p q : ℕ) → At e (vars_of bs) bs p q → class_of (node_of e) ≡ Leaf → children_of e ≡ none → LeafAt e bs p q
  leaf-view e p q h is bare =
      let below = at-children (vars_of bs) bs e p q h in
      record { class_is = is; none_below = bare; end = (all_at-none (vars_of bs) bs (children_of e) (node_end (vars_of bs) bs p) q below (rw bare refl)).end }

  view : (e : Expr) (p q : ℕ) → At e (vars_of bs) bs p q → ViewAt e bs p q (class_of (node_of e))
  view (var v) p q h = leaf-view (var v) p q h refl refl
  view (int c) p q h = leaf-view (int c) p q h refl refl
  view (boo b) p q h = leaf-view (boo b) p q h refl refl
  view (un o a) p q h = record { class_is = refl }
  view (bin o a b) p q h = record { class_is = refl }
  view (ite a b c) p q h = record { class_is = refl }
  view (kase es) p q h = at-shape (vars_of bs) bs (kase es) p q h
  view (restr d cs a) p q h = at-shape (vars_of bs) bs (restr d cs a) p q h
  view (dep f a) p q h = at-shape (vars_of bs) bs (dep f a) p q h

  module _ (e : Expr) (p q : ℕ) (h : At e (vars_of bs) bs p q) where
    -- the class that is read is the tree's
    pub class_same : class_at bs p ≡ class_of (node_of e)
    class_same = ap class_of (at_read (vars_of bs) bs e p q h)

    viewed : (class : Class) → class_at bs p ≡ class → ViewAt e bs p q class
    viewed class c = subst (ViewAt e bs p q) (sym class_same ∙ c) (view e p q h)

    pub leaf-at : class_at bs p ≡ Leaf → LeafAt e bs p q
    leaf-at c = viewed Leaf c

    pub operator-at : class_at bs p ≡ Operator → OperatorAt e
    operator-at c = viewed Operator c

    pub case_at : class_at bs p ≡ Case → KaseAt e (vars_of bs) bs p q
    case_at c = viewed Case c

    pub restriction-at : class_at bs p ≡ Restriction → RestrAt e (vars_of bs) bs p q
    restriction-at c = viewed Restriction c

    pub dependence-at : class_at bs p ≡ Dependence → DepAt e (vars_of bs) bs p q
    dependence-at c = viewed Dependence c

    -- the code that is read is the tree's
    pub coded-field : (code : ℕ) → code_of (node_read (vars_of bs) bs p) ≡ code → field bs p ≡ pos code
    coded-field code c = at_code (vars_of bs) bs e p q h ∙ ap pos (sym (ap code_of (at_read (vars_of bs) bs e p q h)) ∙ c)

-- ---- the node that was read at a place

module _ (bs : List ℕ) (p : ℕ) (h : Noded (vars_of bs) bs p) where
  pub read_here : node (vars_of bs) bs p ≡ got (node_read (vars_of bs) bs p) (node_end (vars_of bs) bs p)
  read_here =
      let nd = node-read (vars_of bs) bs p h.what h.next h.read in
      let q = node_end_lem (vars_of bs) bs p h.what h.next h.read in
      rw (nd, q) h.read

  pub node-here : NodeAt (vars_of bs) bs p (node_read (vars_of bs) bs p)
  node-here = node_at (vars_of bs) bs p (node_read (vars_of bs) bs p) (node_end (vars_of bs) bs p) read_here

  pub code_here : nat_abs (field bs p) ≡ code_of (node_read (vars_of bs) bs p)
  code_here = ap nat_abs node-here.code

  pub size-here : node_end (vars_of bs) bs p ≡ p + node_size (node_read (vars_of bs) bs p)
  size-here = node-size (vars_of bs) bs p (node_read (vars_of bs) bs p) (node_end (vars_of bs) bs p) read_here

  -- the node is there, and its code
  pub end-there : node_end (vars_of bs) bs p ≤ length bs
  end-there = omega (arith, size-here, node-here.there)

  pub end-far : p + 8 ≤ node_end (vars_of bs) bs p
  end-far = omega (arith, size-here, node-here.long)

  pub code-there : p + 8 ≤ length bs
  code-there = omega (arith, end-there, end-far)

-- a node was read, and its class was told
pub noded-as : (bs : List ℕ) (p : ℕ) → Noded (vars_of bs) bs p → (r class : Class) → r ≡ class_at bs p → r ≡ class → NodedAs bs p class
noded-as bs p h r class told is = record { noded = h; class_is = sym told ∙ is }

-- ---- the fields by the class

leaf-size : (nd : Node) → class_of nd ≡ Leaf → node_size nd ≡ 16
leaf-size = leaf-node (λ nd. node_size nd ≡ 16) (λ v. refl) (λ c. refl) (λ b. refl)

case-size : (nd : Node) → class_of nd ≡ Case → node_size nd ≡ 16
case-size = case-node (λ nd. node_size nd ≡ 16) (λ n. refl)

module _ (bs : List ℕ) (p : ℕ) where
  abbrev Here : Node → Type 0
  Here nd = NodeAt (vars_of bs) bs p nd

  restriction-size : (nd : Node) → class_of nd ≡ Restriction → Here nd →
      node_size nd ≡ 24 + nat_abs (field bs (p + 16)) * (16 + 8 * nat_abs (field bs (p + 8)))
  restriction-size = restriction-node (λ nd. Here nd → node_size nd ≡ 24 + nat_abs (field bs (p + 16)) * (16 + 8 * nat_abs (field bs (p + 8))))
      (λ d cs h. rw (← counted_is h.fields.dim, ← counted_is h.fields.many) refl)

  dependence-size : (nd : Node) → class_of nd ≡ Dependence → Here nd →
      node_size nd ≡ 24 + nat_abs (field bs (p + 16)) * (8 + 8 * nat_abs (field bs (p + 8)))
  dependence-size = dependence-node (λ nd. Here nd → node_size nd ≡ 24 + nat_abs (field bs (p + 16)) * (8 + 8 * nat_abs (field bs (p + 8))))
      (λ f h. rw (← counted_is h.fields.width, ← counted_is h.fields.many) refl)

  restriction-wide : (nd : Node) → class_of nd ≡ Restriction → Here nd → Wide bs p
  restriction-wide = restriction-node (λ nd. Here nd → Wide bs p) (λ d cs h. record {
    there = omega (arith, h.fields.many.there);
    dim = omega (arith, counted_is h.fields.dim, h.fields.dim.high);
    many = omega (arith, counted_is h.fields.many, h.fields.many.high);
  })

  dependence-wide : (nd : Node) → class_of nd ≡ Dependence → Here nd → Wide bs p
  dependence-wide = dependence-node (λ nd. Here nd → Wide bs p) (λ f h. record {
    there = omega (arith, h.fields.many.there);
    dim = omega (arith, counted_is h.fields.width, h.fields.width.high);
    many = omega (arith, counted_is h.fields.many, h.fields.many.high);
  })

  rows_few : (nd : Node) → class_of nd ≡ Dependence → Here nd → nat_abs (field bs (p + 16)) ≤ 4
  rows_few = dependence-node (λ nd. Here nd → nat_abs (field bs (p + 16)) ≤ 4) (λ f h. omega (arith, counted_is h.fields.many, h.fields.many.high))

  case-arity : (nd : Node) → class_of nd ≡ Case → Here nd → nat_abs (field bs (p + 8)) ≡ arity nd
  case-arity = case-node (λ nd. Here nd → nat_abs (field bs (p + 8)) ≡ arity nd) (λ n h. sym (counted_is h.fields))

  module _ (h : NodedAs bs p Leaf) where
    pub leaf-there : p + 16 ≤ length bs
    leaf-there = omega (arith, leaf-size (node_read (vars_of bs) bs p) h.class_is, (node-here bs p h.noded).there)

    pub leaf-end : p + 16 ≡ node_end (vars_of bs) bs p
    leaf-end = omega (arith, leaf-size (node_read (vars_of bs) bs p) h.class_is, size-here bs p h.noded)

    pub leaf-arity : 0 ≡ arity (node_read (vars_of bs) bs p)
    leaf-arity = leaf-node (λ nd. 0 ≡ arity nd) (λ v. refl) (λ c. refl) (λ b. refl) (node_read (vars_of bs) bs p) h.class_is

  module _ (h : NodedAs bs p Operator) where
    pub operator-some : 1 ≤ arity (node_read (vars_of bs) bs p)
    operator-some =
        operator-node (λ nd. 1 ≤ arity nd) (λ o. omega arith) (λ o. omega arith) (omega arith) (node_read (vars_of bs) bs p) h.class_is

  module _ (h : NodedAs bs p Case) where
    pub case-there : p + 16 ≤ length bs
    case-there = omega (arith, case-size (node_read (vars_of bs) bs p) h.class_is, (node-here bs p h.noded).there)

    pub case-end : p + 16 ≡ node_end (vars_of bs) bs p
    case-end = omega (arith, case-size (node_read (vars_of bs) bs p) h.class_is, size-here bs p h.noded)

    pub case-some : 1 ≤ arity (node_read (vars_of bs) bs p)
    case-some = case-node (λ nd. Here nd → 1 ≤ arity nd) (λ n at. at.fields.low) (node_read (vars_of bs) bs p) h.class_is (node-here bs p h.noded)

    pub case-many : nat_abs (field bs (p + 8)) ≡ arity (node_read (vars_of bs) bs p)
    case-many = case-arity (node_read (vars_of bs) bs p) h.class_is (node-here bs p h.noded)

  module _ (h : NodedAs bs p Restriction) where
    pub restriction-fields : Wide bs p
    restriction-fields = restriction-wide (node_read (vars_of bs) bs p) h.class_is (node-here bs p h.noded)

    pub restriction-end : p + (24 + nat_abs (field bs (p + 16)) * (16 + 8 * nat_abs (field bs (p + 8)))) ≡ node_end (vars_of bs) bs p
    restriction-end =
        omega (arith, restriction-size (node_read (vars_of bs) bs p) h.class_is (node-here bs p h.noded), size-here bs p h.noded)

    pub restriction-arity : 1 ≡ arity (node_read (vars_of bs) bs p)
    restriction-arity = restriction-node (λ nd. 1 ≡ arity nd) (λ d cs. refl) (node_read (vars_of bs) bs p) h.class_is

  module _ (h : NodedAs bs p Dependence) where
    pub dependence-fields : Wide bs p
    dependence-fields = dependence-wide (node_read (vars_of bs) bs p) h.class_is (node-here bs p h.noded)

    pub dependence-rows : nat_abs (field bs (p + 16)) ≤ 4
    dependence-rows = rows_few (node_read (vars_of bs) bs p) h.class_is (node-here bs p h.noded)

    pub dependence-end : p + (24 + nat_abs (field bs (p + 16)) * (8 + 8 * nat_abs (field bs (p + 8)))) ≡ node_end (vars_of bs) bs p
    dependence-end =
        omega (arith, dependence-size (node_read (vars_of bs) bs p) h.class_is (node-here bs p h.noded), size-here bs p h.noded)

    pub dependence-arity : 1 ≡ arity (node_read (vars_of bs) bs p)
    dependence-arity = dependence-node (λ nd. 1 ≡ arity nd) (λ f. refl) (node_read (vars_of bs) bs p) h.class_is

-- a restriction and a dependence have their fields, and one child
module _ (bs : List ℕ) (p : ℕ) (h : Noded (vars_of bs) bs p) (x : Class) (told : x ≡ class_at bs p) where
  pub wide-fields : (x ≡ Restriction) ⊎ (x ≡ Dependence) → Wide bs p
  wide-fields (inl r) = restriction-fields bs p (noded-as bs p h x Restriction told r)
  wide-fields (inr d) = dependence-fields bs p (noded-as bs p h x Dependence told d)

  pub child-arity : (x ≡ Restriction) ⊎ (x ≡ Dependence) → 1 ≡ arity (node_read (vars_of bs) bs p)
  child-arity (inl r) = restriction-arity bs p (noded-as bs p h x Restriction told r)
  child-arity (inr d) = dependence-arity bs p (noded-as bs p h x Dependence told d)
