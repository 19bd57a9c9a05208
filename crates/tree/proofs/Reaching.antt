-- The ways through the walk that judges REACH: what a row, a node, a tree and so many trees say, from what the code has found.
-- Assumes nothing.
use Rattle.std.specs.Prelude.{Option, Some, None}
use mathlib.Core.Path.{◌≡◌, refl, sym, ap, ◌∙◌, subst}
use Prim.Native.Nat.{ℕ, zero, suc, ◌+◌, ◌*◌, ◌-◌, ◌≤◌, ◌<◌}
use native.Mathlib.Nat.{suc-mul, zero-mul}
use native.Mathlib.Omega.{arith}
use mathlib.Core.Bool.{Bool, true, false, ◌&&◌}
use mathlib.Core.List.{List, [], ◌∷◌}
use lib.ListN.{length, get_or}
use lib.IntN.{ℤ, pos, nat_abs}
use lib.Dec.{leb}
use borrow.Author.Tests.{le-leb, lt-leb}
use Rattle.alpha.specs.Field.{field}
use Rattle.alpha.specs.Sheet.{Row, Constraint, Map, Node, Expr, Exprs}
use Rattle.alpha.specs.Sheet.{Node.n_var, Node.n_int, Node.n_bool, Node.n_unary, Node.n_binary, Node.n_if, Node.n_case, Node.n_restr, Node.n_dep, Exprs.more}
use Rattle.alpha.specs.Reach.{limit, row_reach, map_reach, all_reach, reach, reach_all}
use Rattle.affine.specs.declared.Map as Code
use Rattle.affine.specs.Value.{several, map_of}
use Rattle.affine.specs.Size.{Tells}
use Rattle.affine.specs.Reading.{row_fields, MapRead}
use Rattle.laws.specs.At.{node_of, node_read, node_end, At}
use Rattle.laws.specs.Children.{children_of, arity, reach_here, reach_below}
use Rattle.laws.specs.Sheets.{vars_of}
use Rattle.laws.proofs.Readers.{counted_is}
use Rattle.laws.proofs.Rows.{RowAt, ConstraintAt}
use Rattle.laws.proofs.Nodes.{Restricts, NodeAt, restr-constraint}
use Rattle.laws.proofs.Shapes.{at_read, all_at-none}
use Rattle.laws.proofs.Children.{reach-children}
use Rattle.laws.proofs.NormalReach.{map_reach-pos}
use Rattle.tree.specs.declared.Class.TheVariants.{Restriction, Dependence}
use Rattle.tree.specs.Standing.{Noded, NodedAs}
use Rattle.tree.specs.Bounding.{bounded_at, reached_at, constraints_reach, NodeReached, TreeBounded, TreesBounded}
use Rattle.tree.proofs.Classes.{restriction-node, dependence-node, node-here, end-there, restriction-end}
use Rattle.tree.proofs.Standings.{children-at, children-counted, one_more}

-- ---- an answer on a size

pub within-true : (n x : ℕ) → Tells (Some n) x → true ≡ leb x limit
within-true n x h = sym (le-leb x limit h.1)

pub past-false : (x : ℕ) → Tells None x → false ≡ leb x limit
past-false x h = sym (lt-leb x limit h)

tells-reached : (y : Option ℕ) (x : ℕ) → Tells y x → y ≡ reached_at (leb x limit) x
tells-reached (Some n) x h = rw (← within-true n x h) (ap Some h.0)
tells-reached None x h = rw (← past-false x h)

-- ---- rows and constraints

several-is : (n : ℕ) (l : List ℤ) (f : ℕ → ℤ) → length l ≡ n → ((j : ℕ) → j < n → get_or l j (pos 0) ≡ f j) → l ≡ several n f
several-is zero [] f m h = refl
several-is zero (x ∷ l) f m h = absurd (omega arith)
several-is (suc n) [] f m h = absurd (omega arith)
several-is (suc n) (x ∷ l) f m h =
    ap (λ (y : ℤ). y ∷ l) (h 0 (omega arith))
    ∙ ap (λ (ys : List ℤ). f 0 ∷ ys) (several-is n l (λ i. f (suc i)) (omega arith) (λ j lt. h (suc j) (omega arith)))

-- a row that stands at p is what the fields there say
pub row-fields : (n : ℕ) (bs : List ℕ) (p : ℕ) (w : Row) → RowAt n bs p w → w ≡ row_fields n bs p
row-fields n bs p w h =
    ap (λ (cs : List ℤ). record { coefs = cs; const = w.const }) (several-is n w.coefs (λ i. field bs (p + 8 * i)) h.width h.coef)
    ∙ ap (λ (k : ℤ). record { coefs = several n (λ i. field bs (p + 8 * i)); const = k }) h.constant

module _ (r n : ℕ) (bs : List ℕ) where
  -- the first of them, and then the others
  split-first : (k p : ℕ) → 0 < k → constraints_reach r n k bs p
      ≡ leb (row_reach r (row_fields n bs (p + 8))) limit && constraints_reach r n (k - 1) bs (p + (16 + 8 * n))
  unfolding constraints_reach
  split-first zero p l = absurd (omega arith)
  split-first (suc k) p l = let e : suc k - 1 ≡ k = omega arith in rw e refl

  -- of k from `at` on, j are left from p on: they are there, and they decide
  pub record ConstraintsLeft (k at j p : ℕ) : Type 0 where
    pub there : p + j * (16 + 8 * n) ≤ length bs
    pub decides : constraints_reach r n j bs p ≡ constraints_reach r n k bs at

  module _ (k at j p : ℕ) (h : ConstraintsLeft k at j p) where
    pub none-left-pass : j ≤ 0 → true ≡ constraints_reach r n k bs at
    unfolding constraints_reach
    none-left-pass l = let e : j ≡ 0 = omega arith in (rw e refl) ∙ h.decides

    module _ (l : 0 < j) where
      room : (16 + 8 * n) + (j - 1) * (16 + 8 * n) ≡ j * (16 + 8 * n)
      room =
          let e : suc (j - 1) ≡ j = omega arith in
          let m : suc (j - 1) * (16 + 8 * n) ≡ j * (16 + 8 * n) = ap (λ i. i * (16 + 8 * n)) e in omega (arith, suc-mul (j - 1) (16 + 8 * n))

      pub first-fails : leb (row_reach r (row_fields n bs (p + 8))) limit ≡ false → false ≡ constraints_reach r n k bs at
      first-fails e = sym (split-first j p l ∙ rw e) ∙ h.decides

      pub first_passes : (i q : ℕ) → i + 1 ≡ j → q ≡ p + (16 + 8 * n) → leb (row_reach r (row_fields n bs (p + 8))) limit ≡ true →
          ConstraintsLeft k at i q
      first_passes i q less next e =
          let m : i ≡ j - 1 = omega arith in
          rw (next, m) (record { there = omega (arith, room, h.there); decides = sym (split-first j p l ∙ rw e) ∙ h.decides })

  -- they are the constraints that stand there
  pub constraints-are : (cs : List Constraint) (p : ℕ) →
      ((i : ℕ) → i < length cs → (c : Constraint) → ConstraintAt n bs (p + i * (16 + 8 * n)) (get_or cs i c)) →
      constraints_reach r n (length cs) bs p ≡ all_reach r cs
  unfolding constraints_reach
  constraints-are [] p h = refl
  constraints-are (c ∷ cs) p h =
      let at : p + 0 * (16 + 8 * n) ≡ p = rw zero-mul (omega arith) in
      let first : ConstraintAt n bs p c = rw at at (h 0 (omega arith) c) in
      let row = row-fields n bs (p + 8) c.row first.stands in
      let rest = constraints-are cs (p + (16 + 8 * n)) (λ i lt d. subst (λ o. ConstraintAt n bs o (get_or cs i d)) (on i) (h (suc i) (omega arith) d)) in
      ap (λ (w : Row). leb (row_reach r w) limit && constraints_reach r n (length cs) bs (p + (16 + 8 * n))) (sym row)
      ∙ ap (λ b. leb (row_reach r c.row) limit && b) rest
    where
      on : (i : ℕ) → p + suc i * (16 + 8 * n) ≡ p + (16 + 8 * n) + i * (16 + 8 * n)
      on i = omega (arith, suc-mul i (16 + 8 * n))

-- ---- the node itself

below-some : (nd : Node) (r : ℕ) → 1 ≤ r → 1 ≤ reach_below nd r
below-some (n_var v) r l = l
below-some (n_int c) r l = l
below-some (n_bool b) r l = l
below-some (n_unary o) r l = l
below-some (n_binary o) r l = l
below-some n_if r l = l
below-some (n_case n) r l = l
below-some (n_restr d cs) r l = l
below-some (n_dep m) r l = map_reach-pos r m.rows

module _ (bs : List ℕ) (p r : ℕ) where
  abbrev Passing : Option ℕ → Node → Type 0
  Passing y nd = y ≡ reached_at (reach_here nd r) (reach_below nd r)

  -- a restriction by its fields
  by-constraints : (d : ℕ) (cs : List Constraint) → Restricts bs p d cs →
      constraints_reach r (nat_abs (field bs (p + 8))) (nat_abs (field bs (p + 16))) bs (p + 24) ≡ all_reach r cs
  by-constraints d cs f =
      let a = counted_is f.dim in
      let b = counted_is f.many in
      rw (← a, ← b) (constraints-are r d bs cs (p + 24) (λ i lt c. restr-constraint f i lt c))

  module _ (h : NodedAs bs p Restriction) where
    pub constraints-there : p + 24 + nat_abs (field bs (p + 16)) * (16 + 8 * nat_abs (field bs (p + 8))) ≤ length bs
    constraints-there = omega (arith, end-there bs p h.noded, restriction-end bs p h)

    pub restriction-reaches : (b : Bool) → constraints_reach r (nat_abs (field bs (p + 8))) (nat_abs (field bs (p + 16))) bs (p + 24) ≡ b →
        NodeReached bs p r (reached_at b r)
    restriction-reaches b found =
        restriction-node (λ nd. NodeAt (vars_of bs) bs p nd → Passing (reached_at b r) nd)
        (λ d cs n. ap (λ x. reached_at x r) (sym found ∙ by-constraints d cs n.fields))
        (node_read (vars_of bs) bs p) h.class_is (node-here bs p h.noded)

  pub dependence-reaches : NodedAs bs p Dependence → (m : Code.Map) → MapRead bs (p + 8) m → (y : Option ℕ) → Tells y (map_reach r (map_of m).rows) →
      NodeReached bs p r y
  dependence-reaches h m read y t =
      dependence-node (λ nd. NodeAt (vars_of bs) bs p nd → Passing y nd)
      (λ f n. tells-reached y (map_reach r f.rows)
      (subst (λ (g : Map). Tells y (map_reach r g.rows)) (read.is f n.fields.next n.fields.read) t))
      (node_read (vars_of bs) bs p) h.class_is (node-here bs p h.noded)

-- an answer with a reach says that the node passes, and what the reach is; any other that it does not
pub record Reaches (b : Bool) (n x : ℕ) : Type 0 where
  pub passes : b ≡ true
  pub is : n ≡ x

pub reached-within : (b : Bool) (n x : ℕ) → Some n ≡ reached_at b x → Reaches b n x
reached-within true n x h = record { passes = refl; is = cc }
reached-within false n x h = absurd cc

pub reached-past : (b : Bool) (x : ℕ) → None ≡ reached_at b x → b ≡ false
reached-past true x h = absurd cc
reached-past false x h = refl

-- ---- a tree

module _ (bs : List ℕ) (p r : ℕ) (y : Option ℕ) (says : NodeReached bs p r y) where
  pub reach-some : 1 ≤ r → Noded (vars_of bs) bs p → (n : ℕ) → y ≡ Some n → 1 ≤ n
  reach-some l h n is =
      let nd = node_read (vars_of bs) bs p in
      let x = reached-within (reach_here nd r) n (reach_below nd r) (sym is ∙ says) in
      omega (arith, x.is, below-some nd r l)

  -- of the first node of a tree
  of_tree : (e : Expr) (q : ℕ) → At e (vars_of bs) bs p q → y ≡ reached_at (reach_here (node_of e) r) (reach_below (node_of e) r)
  of_tree e q h = says ∙ ap (λ nd. reached_at (reach_here nd r) (reach_below nd r)) (at_read (vars_of bs) bs e p q h)

  pub reach-past : y ≡ None → TreeBounded bs p r None
  reach-past is e q h =
      let no-pass = reached-past (reach_here (node_of e) r) (reach_below (node_of e) r) (sym is ∙ of_tree e q h) in
      rw (reach-children e r, no-pass)

  pub reach-goes : (n : ℕ) → y ≡ Some n → (k c : ℕ) → k ≡ node_end (vars_of bs) bs p → c ≡ arity (node_read (vars_of bs) bs p) →
      (t : Option ℕ) → TreesBounded bs k n c t → TreeBounded bs p r t
  reach-goes n is k c next many t all e q h =
      let x = reached-within (reach_here (node_of e) r) n (reach_below (node_of e) r) (sym is ∙ of_tree e q h) in
      all (children_of e) q (children-at (vars_of bs) bs p k c next many e q h) (children-counted (vars_of bs) bs p k c next many e q h)
      ∙ ap (λ z. bounded_at (reach_all (children_of e) z) q) x.is
      ∙ ap (λ b. bounded_at b q) (sym (reach-children e r ∙ ap (λ b. b && reach_all (children_of e) (reach_below (node_of e) r)) x.passes))

-- ---- so many trees

-- an answer with a place says that the tree passes and where it ends; any other that it does not
pub record Bounds (b : Bool) (n q : ℕ) : Type 0 where
  pub passes : b ≡ true
  pub end_is : n ≡ q

pub bounded-next : (b : Bool) (n q : ℕ) → Some n ≡ bounded_at b q → Bounds b n q
bounded-next true n q h = record { passes = refl; end_is = cc }
bounded-next false n q h = absurd cc

pub bounded-beyond : (b : Bool) (q : ℕ) → None ≡ bounded_at b q → b ≡ false
bounded-beyond true q h = absurd cc
bounded-beyond false q h = refl

module _ (bs : List ℕ) (p r n : ℕ) where
  pub trees-none-bounded : n ≤ 0 → TreesBounded bs p r n (Some p)
  unfolding reach_all
  trees-none-bounded l es q h m =
      let z = all_at-none (vars_of bs) bs es p q h (omega arith) in
      ap Some z.end ∙ ap (λ x. bounded_at (reach_all x r) q) (sym z.is)

  all_more : (e : Expr) (es : Exprs) → reach_all (more e es) r ≡ reach e r && reach_all es r
  unfolding reach_all
  all_more e es = refl

  module _ (enough : 1 ≤ n) (t : Option ℕ) (says : TreeBounded bs p r t) where
    pub first_ends : (m : ℕ) → t ≡ Some m → (e : Expr) (q : ℕ) → At e (vars_of bs) bs p q → m ≡ q
    first_ends m is e q h = (bounded-next (reach e r) m q (sym is ∙ says e q h)).end_is

    pub trees-beyond : t ≡ None → TreesBounded bs p r n None
    trees-beyond is es q h c =
        let f = one_more (vars_of bs) bs es p q n enough h c in
        let x = bounded-beyond (reach f.first r) f.middle (sym is ∙ says f.first f.middle f.before) in
        let y : reach_all es r ≡ false = ap (λ l. reach_all l r) f.is ∙ all_more f.first f.rest ∙ ap (λ b. b && reach_all f.rest r) x in
        ap (λ b. bounded_at b q) (sym y)

    pub trees-bounded : (m : ℕ) → t ≡ Some m → (k : ℕ) → k + 1 ≡ n → (u : Option ℕ) → TreesBounded bs m r k u → TreesBounded bs p r n u
    trees-bounded m is k less u rest es q h c =
        let f = one_more (vars_of bs) bs es p q n enough h c in
        let x = bounded-next (reach f.first r) m f.middle (sym is ∙ says f.first f.middle f.before) in
        let y : reach_all es r ≡ reach_all f.rest r =
        ap (λ l. reach_all l r) f.is ∙ all_more f.first f.rest ∙ ap (λ b. b && reach_all f.rest r) x.passes in
        rest f.rest q (rw x.end_is f.after) (omega (arith, f.many)) ∙ ap (λ b. bounded_at b q) (sym y)
