-- What is known of a tree at a place from the code that stands there: which tree it is, what its fields say, where its parts stand.
-- One law for each code, `at-var` to `at-dep`, from one law by the tree's cases, `at-shape`. Assumes nothing.
use mathlib.Core.Path.{◌≡◌, refl, sym, ap, ◌∙◌, subst}
use Prim.Native.Nat.{ℕ, suc, ◌+◌, ◌*◌, ◌-◌, ◌≤◌, ◌<◌}
use native.Mathlib.Omega.{arith}
use mathlib.Core.List.{List, [], ◌∷◌}
use lib.ListN.{length, get_or}
use lib.IntN.{ℤ, pos, neg_ℤ, nat_abs}
use Rattle.alpha.specs.Field.{field}
use Rattle.alpha.specs.Sheet.{Unary, Binary, Constraint, Map, Node, Expr, Exprs}
use Rattle.alpha.specs.Sheet.{Node.n_var, Node.n_int, Node.n_bool, Node.n_unary, Node.n_binary, Node.n_if, Node.n_case, Node.n_restr, Node.n_dep}
use Rattle.alpha.specs.Sheet.{Expr.var, Expr.int, Expr.boo, Expr.un, Expr.bin, Expr.ite, Expr.kase, Expr.restr, Expr.dep, Exprs.none, Exprs.more}
use Rattle.alpha.specs.Box.{within}
use Rattle.alpha.specs.Read.{got, unary_of, binary_of, node}
use Rattle.alpha.specs.Written.{branch_count, node_count, node_counts}
use Rattle.laws.specs.At.{node_of, code_number, node_size, node_read, node_end, At, AllAt}
use Rattle.laws.proofs.Readers.{Passed, Counted}
use Rattle.laws.proofs.Rows.{Chosen}
use Rattle.laws.proofs.Nodes.{Restricts, Depends, NodeAt, node_at, node-size, node-read, node_end_lem}

-- ---- the first node

module _ (vars : ℕ) (bs : List ℕ) where
  -- the first node of a tree, and its next place
  first_node : (e : Expr) (p q : ℕ) → At e vars bs p q → (r : ℕ) × (node vars bs p ≡ got (node_of e) r)
  unfolding At
  first_node (var v) p q h = (q, h)
  first_node (int c) p q h = (q, h)
  first_node (boo b) p q h = (q, h)
  first_node (un o a) p q h = (h.next, h.here)
  first_node (bin o a b) p q h = (h.next, h.here)
  first_node (ite a b c) p q h = (h.next, h.here)
  first_node (kase es) p q h = (h.next, h.here)
  first_node (restr d cs a) p q h = (h.next, h.here)
  first_node (dep f a) p q h = (h.next, h.here)

  pub at-node : (e : Expr) (p q : ℕ) → At e vars bs p q → NodeAt vars bs p (node_of e)
  at-node e p q h = let n = first_node e p q h in node_at vars bs p (node_of e) n.0 n.1

  pub at-got : (e : Expr) (p q : ℕ) → At e vars bs p q → node vars bs p ≡ got (node_of e) (node_end vars bs p)
  at-got e p q h = let n = first_node e p q h in n.1 ∙ ap (got (node_of e)) (sym (node_end_lem vars bs p (node_of e) n.0 n.1))

  -- the node that is read there is the tree's first
  pub at_read : (e : Expr) (p q : ℕ) → At e vars bs p q → node_read vars bs p ≡ node_of e
  at_read e p q h = let n = first_node e p q h in node-read vars bs p (node_of e) n.0 n.1

  -- the place after it
  pub at_size : (e : Expr) (p q : ℕ) → At e vars bs p q → node_end vars bs p ≡ p + node_size (node_of e)
  at_size e p q h = node-size vars bs p (node_of e) (node_end vars bs p) (at-got e p q h)

  pub at_code : (e : Expr) (p q : ℕ) → At e vars bs p q → field bs p ≡ pos (code_number e)
  at_code e p q h = (at-node e p q h).code

pub code-high : (e : Expr) → code_number e ≤ 8
code-high (var v) = omega arith
code-high (int c) = omega arith
code-high (boo b) = omega arith
code-high (un o a) = omega arith
code-high (bin o a b) = omega arith
code-high (ite a b c) = omega arith
code-high (kase es) = omega arith
code-high (restr d cs a) = omega arith
code-high (dep f a) = omega arith

-- ---- how far a tree goes: each of its nodes has at least eight bytes, and they are there

pub node_count-pos : (e : Expr) → 1 ≤ node_count e
unfolding node_count
node_count-pos (var v) = omega arith
node_count-pos (int c) = omega arith
node_count-pos (boo b) = omega arith
node_count-pos (un o a) = omega arith
node_count-pos (bin o a b) = omega arith
node_count-pos (ite a b c) = omega arith
node_count-pos (kase es) = omega arith
node_count-pos (restr d cs a) = omega arith
node_count-pos (dep f a) = omega arith

-- the nodes n stand from p to q
pub record Spans (bs : List ℕ) (n p q : ℕ) : Type 0 where
  pub long : p + 8 * n ≤ q
  pub there : p ≤ length bs → q ≤ length bs

module _ (vars : ℕ) (bs : List ℕ) where
  node-spans : (nd : Node) (p r : ℕ) → node vars bs p ≡ got nd r → Spans bs 1 p r
  node-spans nd p r e =
      let n = node_at vars bs p nd r e in
      let x = node-size vars bs p nd r e in
      record { long = omega (arith, n.long, x); there = λ _. omega (arith, n.there, x) }

  two-spans : {m n p r q : ℕ} → Spans bs m p r → Spans bs n r q → Spans bs (m + n) p q
  two-spans s t = record { long = omega (arith, s.long, t.long); there = λ x. t.there (s.there x) }

  headed-spans : {n q : ℕ} (nd : Node) (p r : ℕ) → node vars bs p ≡ got nd r → Spans bs n r q → Spans bs (suc n) p q
  headed-spans nd p r e s =
      let h = node-spans nd p r e in
      record { long = omega (arith, h.long, s.long); there = λ t. s.there (h.there t) }

  mutual
    unfolding At node_count node_counts

    pub at-spans : (e : Expr) (p q : ℕ) → At e vars bs p q → Spans bs (node_count e) p q
    at-spans (var v) p q h = node-spans (n_var v) p q h
    at-spans (int c) p q h = node-spans (n_int c) p q h
    at-spans (boo b) p q h = node-spans (n_bool b) p q h
    at-spans (un o a) p q h = headed-spans (n_unary o) p h.next h.here (at-spans a h.next q h.below)
    at-spans (bin o a b) p q h =
        let g = h.below in
        let left = at-spans a h.next g.middle g.before in
        let right = at-spans b g.middle q g.after in
        headed-spans (n_binary o) p h.next h.here (two-spans left right)
    at-spans (ite a b c) p q h =
        let g = h.below in
        let f = g.after in
        let test = at-spans a h.next g.middle g.before in
        let left = at-spans b g.middle f.middle f.before in
        let right = at-spans c f.middle q f.after in
        headed-spans n_if p h.next h.here (two-spans (two-spans test left) right)
    at-spans (kase es) p q h = headed-spans (n_case (branch_count es)) p h.next h.here (all_at-spans es h.next q h.below)
    at-spans (restr d cs a) p q h = headed-spans (n_restr d cs) p h.next h.here (at-spans a h.next q h.below)
    at-spans (dep f a) p q h = headed-spans (n_dep f) p h.next h.here (at-spans a h.next q h.below)

    pub all_at-spans : (es : Exprs) (p q : ℕ) → AllAt es vars bs p q → Spans bs (node_counts es) p q
    all_at-spans none p q h = record { long = omega arith; there = λ t. omega arith }
    all_at-spans (more e es) p q h = two-spans (at-spans e p h.middle h.before) (all_at-spans es h.middle q h.after)

  pub at_long : (e : Expr) (p q : ℕ) → At e vars bs p q → p + 8 ≤ q
  at_long e p q h = omega (arith, (at-spans e p q h).long, node_count-pos e)

  pub at_there : (e : Expr) (p q : ℕ) → At e vars bs p q → q ≤ length bs
  at_there e p q h = (at-spans e p q h).there (omega (arith, (at-node vars bs e p q h).there))

-- ---- each shape

module _ (e : Expr) (vars : ℕ) (bs : List ℕ) (p q : ℕ) where
  pub record VarAt : Type 0 where
    pub number : ℕ
    pub is : e ≡ var number
    pub stands : Counted 0 (vars - 1) bs (p + 8) number
    pub end : node_end vars bs p ≡ q

  pub record IntAt : Type 0 where
    pub value : ℤ
    pub is : e ≡ int value
    pub stands : Passed (within (neg_ℤ (pos 2147483648)) (pos 2147483647)) bs (p + 8) value
    pub end : node_end vars bs p ≡ q

  pub record BooAt : Type 0 where
    pub value : ℕ
    pub is : e ≡ boo value
    pub stands : Counted 0 1 bs (p + 8) value
    pub end : node_end vars bs p ≡ q

  pub record UnAt : Type 0 where
    pub op : Unary
    pub child : Expr
    pub is : e ≡ un op child
    pub chosen : Chosen unary_of 1 bs (p + 8) op
    pub below : At child vars bs (node_end vars bs p) q

  pub record BinAt : Type 0 where
    pub op : Binary
    pub left : Expr
    pub right : Expr
    pub middle : ℕ
    pub is : e ≡ bin op left right
    pub chosen : Chosen binary_of 15 bs (p + 8) op
    pub before : At left vars bs (node_end vars bs p) middle
    pub after : At right vars bs middle q

  pub record IteAt : Type 0 where
    pub test : Expr
    pub left : Expr
    pub right : Expr
    pub middle : ℕ
    pub last : ℕ
    pub is : e ≡ ite test left right
    pub tested : At test vars bs (node_end vars bs p) middle
    pub before : At left vars bs middle last
    pub after : At right vars bs last q

  pub record KaseAt : Type 0 where
    pub branches : Exprs
    pub is : e ≡ kase branches
    pub many : Counted 1 64 bs (p + 8) (branch_count branches)
    pub below : AllAt branches vars bs (node_end vars bs p) q

  pub record RestrAt : Type 0 where
    pub dim : ℕ
    pub given : List Constraint
    pub child : Expr
    pub is : e ≡ restr dim given child
    pub fields : Restricts bs p dim given
    pub below : At child vars bs (node_end vars bs p) q

  pub record DepAt : Type 0 where
    pub by : Map
    pub child : Expr
    pub is : e ≡ dep by child
    pub fields : Depends bs p by
    pub below : At child vars bs (node_end vars bs p) q

-- the shape that goes with a code
abbrev pub ShapeAt : Expr → ℕ → List ℕ → ℕ → ℕ → ℕ → Type 0
ShapeAt e vars bs p q code =
    get_or
    (VarAt e vars bs p q ∷ IntAt e vars bs p q ∷ BooAt e vars bs p q ∷ UnAt e vars bs p q ∷ BinAt e vars bs p q ∷
    IteAt e vars bs p q ∷ KaseAt e vars bs p q ∷ RestrAt e vars bs p q ∷ DepAt e vars bs p q ∷ [])
    code ⊥

module _ (vars : ℕ) (bs : List ℕ) where
  pub at-shape : (e : Expr) (p q : ℕ) → At e vars bs p q → ShapeAt e vars bs p q (code_number e)
  unfolding At
  at-shape (var v) p q h =
      let n = node_at vars bs p (n_var v) q h in
      record { number = v; is = refl; stands = n.fields; end = node_end_lem vars bs p (n_var v) q h }
  at-shape (int c) p q h =
      let n = node_at vars bs p (n_int c) q h in
      record { value = c; is = refl; stands = n.fields; end = node_end_lem vars bs p (n_int c) q h }
  at-shape (boo b) p q h =
      let n = node_at vars bs p (n_bool b) q h in
      record { value = b; is = refl; stands = n.fields; end = node_end_lem vars bs p (n_bool b) q h }
  at-shape (un o a) p q h =
      let n = node_at vars bs p (n_unary o) h.next h.here in
      let r = node_end_lem vars bs p (n_unary o) h.next h.here in
      record { op = o; child = a; is = refl; chosen = n.fields; below = rw r h.below }
  at-shape (bin o a b) p q h =
      let n = node_at vars bs p (n_binary o) h.next h.here in
      let r = node_end_lem vars bs p (n_binary o) h.next h.here in
      let g = h.below in
      record { op = o; left = a; right = b; middle = g.middle; is = refl; chosen = n.fields; before = rw r g.before; after = g.after }
  at-shape (ite a b c) p q h =
      let n = node_at vars bs p n_if h.next h.here in
      let r = node_end_lem vars bs p n_if h.next h.here in
      let g = h.below in
      let f = g.after in
      record { test = a; left = b; right = c; middle = g.middle; last = f.middle; is = refl; tested = rw r g.before; before = f.before; after = f.after }
  at-shape (kase es) p q h =
      let n = node_at vars bs p (n_case (branch_count es)) h.next h.here in
      let r = node_end_lem vars bs p (n_case (branch_count es)) h.next h.here in
      record { branches = es; is = refl; many = n.fields; below = rw r h.below }
  at-shape (restr d cs a) p q h =
      let n = node_at vars bs p (n_restr d cs) h.next h.here in
      let r = node_end_lem vars bs p (n_restr d cs) h.next h.here in
      record { dim = d; given = cs; child = a; is = refl; fields = n.fields; below = rw r h.below }
  at-shape (dep f a) p q h =
      let n = node_at vars bs p (n_dep f) h.next h.here in
      let r = node_end_lem vars bs p (n_dep f) h.next h.here in
      record { by = f; child = a; is = refl; fields = n.fields; below = rw r h.below }

  module _ (e : Expr) (p q : ℕ) (h : At e vars bs p q) where
    -- the code that stands there is the tree's
    pub at-coded : (code : ℕ) → field bs p ≡ pos code → ShapeAt e vars bs p q code
    at-coded code c =
        let same : code_number e ≡ code = ap nat_abs (sym (at_code vars bs e p q h) ∙ c) in
        subst (ShapeAt e vars bs p q) same (at-shape e p q h)

    pub at-var : field bs p ≡ pos 0 → VarAt e vars bs p q
    at-var c = at-coded 0 c

    pub at-int : field bs p ≡ pos 1 → IntAt e vars bs p q
    at-int c = at-coded 1 c

    pub at-boo : field bs p ≡ pos 2 → BooAt e vars bs p q
    at-boo c = at-coded 2 c

    pub at-un : field bs p ≡ pos 3 → UnAt e vars bs p q
    at-un c = at-coded 3 c

    pub at-bin : field bs p ≡ pos 4 → BinAt e vars bs p q
    at-bin c = at-coded 4 c

    pub at-ite : field bs p ≡ pos 5 → IteAt e vars bs p q
    at-ite c = at-coded 5 c

    pub at-kase : field bs p ≡ pos 6 → KaseAt e vars bs p q
    at-kase c = at-coded 6 c

    pub at-restr : field bs p ≡ pos 7 → RestrAt e vars bs p q
    at-restr c = at-coded 7 c

    pub at-dep : field bs p ≡ pos 8 → DepAt e vars bs p q
    at-dep c = at-coded 8 c

-- there is such a variable, where there is any
pub var-known : {e : Expr} {vars : ℕ} {bs : List ℕ} {p q : ℕ} (h : VarAt e vars bs p q) → 0 < vars → h.number < vars
var-known h l = omega (arith, h.stands.high)

-- ---- branches

-- there is one more branch, and then n
pub record MoreAt (es : Exprs) (vars : ℕ) (bs : List ℕ) (p q n : ℕ) : Type 0 where
  pub first : Expr
  pub rest : Exprs
  pub middle : ℕ
  pub is : es ≡ more first rest
  pub many : branch_count rest ≡ n
  pub before : At first vars bs p middle
  pub after : AllAt rest vars bs middle q

pub record NoneAt (es : Exprs) (p q : ℕ) : Type 0 where
  pub is : es ≡ none
  pub end : p ≡ q

module _ (vars : ℕ) (bs : List ℕ) where
  pub all_at-more : (es : Exprs) (p q n : ℕ) → AllAt es vars bs p q → branch_count es ≡ suc n → MoreAt es vars bs p q n
  unfolding At
  all_at-more none p q n h e = absurd (omega arith)
  all_at-more (more f es) p q n h e = record { first = f; rest = es; middle = h.middle; is = refl; many = omega arith; before = h.before; after = h.after }

  pub all_at-none : (es : Exprs) (p q : ℕ) → AllAt es vars bs p q → branch_count es ≡ 0 → NoneAt es p q
  unfolding At
  all_at-none none p q h e = record { is = refl; end = h }
  all_at-none (more f es) p q h e = absurd (omega arith)
