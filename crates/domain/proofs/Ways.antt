-- The ways through the walk that says how a tree stands: for each, what the code answers from what it has found. Assumes nothing.
use mathlib.Core.Path.{◌≡◌, refl, sym, ap, ◌∙◌, subst}
use Prim.Native.Nat.{ℕ, ◌+◌, ◌-◌, ◌≤◌, ◌<◌}
use native.Mathlib.Omega.{arith}
use mathlib.Core.Bool.{Bool, true, false, ◌&&◌}
use mathlib.Core.List.{List}
use lib.ListN.{length}
use lib.IntN.{ℤ, nat_abs}
use borrow.Author.Tests.{eqb-true}
use Rattle.alpha.specs.Field.{field}
use Rattle.alpha.specs.Sheet.{Expr, Expr.var, Expr.int, Expr.boo, Expr.restr, Sheet, Point, Head}
use Rattle.alpha.specs.Affine.{meets_all, image}
use Rattle.alpha.specs.Read.{dimension}
use Rattle.alpha.specs.Shape.{fits, all_fit}
use Rattle.alpha.specs.Holds.{holds, clashes}
use Rattle.laws.specs.At.{code_of, node_read, node_end, At}
use Rattle.laws.specs.Children.{children_of, arity}
use Rattle.laws.specs.Sheets.{heads_of, vars_of, sheet_of}
use Rattle.laws.proofs.Tests.{&&-left, &&-right}
use Rattle.laws.proofs.Readers.{counted_is}
use Rattle.laws.proofs.Shapes.{RestrAt, MoreAt, at-var, at-int, at-boo, all_at-none}
use Rattle.affine.specs.declared.Map.{Map}
use Rattle.affine.specs.Value.{point_of, map_of}
use Rattle.affine.specs.Reading.{MapRead}
use Rattle.tree.specs.declared.Class.TheVariants.{Operator, Case, Restriction, Dependence}
use Rattle.tree.specs.Classes.{class_at}
use Rattle.tree.specs.Ends.{EndsAt}
use Rattle.tree.proofs.Classes.{operator-at, case_at, restriction-at, dependence-at, coded-field}
use Rattle.tree.proofs.Standings.{children-at, children-counted, one_more}
use Rattle.domain.specs.declared.Standing.{Standing}
use Rattle.domain.specs.declared.Together.{Together}
use Rattle.domain.specs.declared.Together.TheVariants.{Branches, Operands}
use Rattle.domain.specs.declared.Standing.TheVariants.{Not, Holds}
use Rattle.domain.specs.declared.Stood.{Stood}
use Rattle.domain.specs.Standing.{standing, joined, alone, together, StandsAt, StandTogether}
use Rattle.domain.specs.Constraints.{restriction_met}
use Rattle.domain.proofs.Standings.{joined-alone, joined-assoc, alone-joined, operands-stand, branches-stand, restriction-stands}
use Rattle.domain.proofs.Standings.{restriction-not, dependence-stands}
use Rattle.domain.proofs.Walks.{SamePoint, children-fit, restriction-dims, restricted-fits, mapped-fits, image-is}
use Rattle.domain.proofs.Restrictions.{restriction-says}

-- ---- leaves

-- a constant holds at the one point of dimension 0
integer-stands : (s : Sheet) (hs : List Head) (z : List ℤ) (c : ℤ) (n : ℕ) → fits (int c) hs n ≡ true → Holds ≡ standing (int c) s (point_of n z)
unfolding fits holds clashes
integer-stands s hs z c n f = rw (← eqb-true 0 n f) refl

boolean-stands : (s : Sheet) (hs : List Head) (z : List ℤ) (b : ℕ) (n : ℕ) → fits (boo b) hs n ≡ true → Holds ≡ standing (boo b) s (point_of n z)
unfolding fits holds clashes
boolean-stands s hs z b n f = rw (← eqb-true 0 n f) refl

module _ (bs : List ℕ) (p : ℕ) (z : List ℤ) where
  -- a leaf that stands so ends with its node
  abbrev LeafStands : Standing → Type 0
  LeafStands how = StandsAt bs p z (record { how = how; next = node_end (vars_of bs) bs p })

  abbrev Coded : ℕ → Type 0
  Coded code = code_of (node_read (vars_of bs) bs p) ≡ code

  pub variable-way : (v : ℕ) (how : Standing) → Coded 0 → v ≡ nat_abs (field bs (p + 8)) →
      how ≡ standing (var v) (sheet_of bs) (point_of (dimension (heads_of bs) v) z) → LeafStands how
  variable-way v how code number is e q n h f =
      let x = at-var (vars_of bs) bs e p q h (coded-field bs e p q h 0 code) in
      let same : v ≡ x.number = number ∙ sym (counted_is x.stands) in (
        x.end,
        is ∙ ap (λ i. standing (var i) (sheet_of bs) (point_of (dimension (heads_of bs) i) z)) same
            ∙ ap (λ d. standing (var x.number) (sheet_of bs) (point_of d z)) (wide x.number (rw x.is at f))
            ∙ ap (λ t. standing t (sheet_of bs) (point_of n z)) (sym x.is),
      )
    where
      wide : (v : ℕ) → fits (var v) (heads_of bs) n ≡ true → dimension (heads_of bs) v ≡ n
      wide v g = unfold fits in eqb-true (dimension (heads_of bs) v) n g

  pub integer-way : Coded 1 → LeafStands Holds
  integer-way code e q n h f =
      let x = at-int (vars_of bs) bs e p q h (coded-field bs e p q h 1 code) in
      (x.end, rw x.is (integer-stands (sheet_of bs) (heads_of bs) z x.value n (rw x.is at f)))

  pub boolean-way : Coded 2 → LeafStands Holds
  boolean-way code e q n h f =
      let x = at-boo (vars_of bs) bs e p q h (coded-field bs e p q h 2 code) in
      (x.end, rw x.is (boolean-stands (sheet_of bs) (heads_of bs) z x.value n (rw x.is at f)))

-- ---- the ways to a node's children, where the next place is k

module _ (bs : List ℕ) (p k : ℕ) (z : List ℤ) (next : k ≡ node_end (vars_of bs) bs p) where
  -- all together, where the code has n of them
  module _ (n : ℕ) (many : n ≡ arity (node_read (vars_of bs) bs p)) where
    children-way : (which : Together) → SamePoint (class_at bs p) →
        ((e : Expr) (q : ℕ) → At e (vars_of bs) bs p q → (y : Point) → standing e (sheet_of bs) y ≡ together which (children_of e) (sheet_of bs) y) →
        (r : Stood) → StandTogether bs k n z which r → StandsAt bs p z r
    children-way which same stands r t e q d h f =
        let below = children-at (vars_of bs) bs p k n next many e q h in
        let counted = children-counted (vars_of bs) bs p k n next many e q h in
        let a = t (children_of e) q d below counted (children-fit bs p e q h same d f) in
        (a.0, a.1 ∙ sym (stands e q h (point_of d z)))

    pub operands-way : class_at bs p ≡ Operator → (r : Stood) → StandTogether bs k n z Operands r → StandsAt bs p z r
    operands-way class_is = children-way Operands (rw class_is tt) (λ e q h y. operands-stand (sheet_of bs) y e (operator-at bs e p q h class_is).class_is)

    pub branches-way : class_at bs p ≡ Case → (r : Stood) → StandTogether bs k n z Branches r → StandsAt bs p z r
    branches-way class_is = children-way Branches (rw class_is tt) (λ e q h y.
        let x = case_at bs e p q h class_is in
        subst (λ t. standing t (sheet_of bs) y ≡ together Branches (children_of t) (sheet_of bs) y) (sym x.is) (branches-stand (sheet_of bs) y x.branches))

  -- a dependence, whose map is m and whose image is y
  pub image-way : (m : Map) (y : List ℤ) (r : Stood) → class_at bs p ≡ Dependence → MapRead bs (p + 8) m →
      point_of m.height y ≡ image (map_of m).rows (point_of m.width z) →
      StandsAt bs k y r → StandsAt bs p z r
  image-way m y r class_is read is t e q n h f =
      let x = dependence-at bs e p q h class_is in
      let a = t x.child q (length x.by.rows) (rw next x.below) (mapped-fits bs e p q n f x) in (
        a.0,
        a.1 ∙ ap (standing x.child (sheet_of bs)) (image-is bs e p q n f x m read z y is)
            ∙ sym (dependence-stands (sheet_of bs) (point_of n z) x.by x.child)
            ∙ ap (λ t. standing t (sheet_of bs) (point_of n z)) (sym x.is),
      )

  -- a restriction, whose constraints hold or not
  module _ (class_is : class_at bs p ≡ Restriction) (met : Bool) (is : met ≡ restriction_met bs p z) where
    module _ (e : Expr) (q n : ℕ) (h : At e (vars_of bs) bs p q) (f : fits e (heads_of bs) n ≡ true) where
      here : RestrAt e (vars_of bs) bs p q
      here = restriction-at bs e p q h class_is

      dims : nat_abs (field bs (p + 8)) ≡ n
      dims = sym (counted_is here.fields.dim) ∙ restriction-dims bs e p q n f here

      child-at : At here.child (vars_of bs) bs k q
      child-at = subst (λ i. At here.child (vars_of bs) bs i q) (sym next) here.below

      met-is : met ≡ meets_all here.given (point_of n z)
      met-is = is ∙ ap (λ l. meets_all l (point_of (nat_abs (field bs (p + 8))) z)) (sym (restriction-says bs p here.dim here.given here.fields))
          ∙ ap (λ d. meets_all here.given (point_of d z)) dims

      back : standing (restr here.dim here.given here.child) (sheet_of bs) (point_of n z) ≡ standing e (sheet_of bs) (point_of n z)
      back = ap (λ t. standing t (sheet_of bs) (point_of n z)) (sym here.is)

    pub restriction-way : (r : Stood) → met ≡ true → StandsAt bs k z r → StandsAt bs p z r
    restriction-way r held t e q n h f =
        let x = here e q n h f in
        let a = t x.child q n (child-at e q n h f) (restricted-fits bs e p q n f x) in
        (a.0, a.1 ∙ sym (restriction-stands (sheet_of bs) (point_of n z) x.dim x.given x.child (sym (met-is e q n h f) ∙ held)) ∙ back e q n h f)

    -- below one whose constraints do not hold nothing is asked: it ends where its child does
    pub restriction-off-way : (end : ℕ) → met ≡ false → EndsAt (vars_of bs) bs k end → StandsAt bs p z (record { how = Not; next = end })
    restriction-off-way end fails ends e q n h f =
        let x = here e q n h f in (
          ends x.child q (child-at e q n h f),
          sym (restriction-not (sheet_of bs) (point_of n z) x.dim x.given x.child (sym (met-is e q n h f) ∙ fails)) ∙ back e q n h f,
        )

-- ---- so many trees

module _ (bs : List ℕ) (z : List ℤ) (which : Together) where
  none-together : (p count : ℕ) → count < 1 → StandTogether bs p count z which (record { how = alone which; next = p })
  unfolding together
  none-together p count l es q n h m f =
      let x = all_at-none (vars_of bs) bs es p q h (omega arith) in
      (x.end, ap (λ t. together which t (sheet_of bs) (point_of n z)) (sym x.is))

  -- the first, and then the others
  more-together : (p count : ℕ) → 1 ≤ count → (one t : Stood) → StandsAt bs p z one → StandTogether bs one.next (count - 1) z which t →
      StandTogether bs p count z which (record { how = joined which one.how t.how; next = t.next })
  unfolding together
  more-together p count some one t first others es q n h m f =
      let x = one_more (vars_of bs) bs es p q count some h m in
      let fit = parts x in
      let a = first x.first x.middle n x.before (&&-left (fits x.first (heads_of bs) n) (all_fit x.rest (heads_of bs) n) fit) in
      let b = others x.rest q n (rw a.0 x.after) x.many (&&-right (fits x.first (heads_of bs) n) (all_fit x.rest (heads_of bs) n) fit) in (
        b.0,
        ap (λ w. joined which w t.how) a.1
            ∙ ap (joined which (standing x.first (sheet_of bs) (point_of n z))) b.1
            ∙ ap (λ l. together which l (sheet_of bs) (point_of n z)) (sym x.is),
      )
    where
      parts : (x : MoreAt es (vars_of bs) bs p q (count - 1)) → fits x.first (heads_of bs) n && all_fit x.rest (heads_of bs) n ≡ true
      parts x = unfold fits in rw x.is at f

  -- ---- one after another

  module _ (p count : ℕ) where
    -- of `count` trees from p on the first, which end at next, come to `how`, and `more` others are left
    abbrev pub SoFar : Standing → ℕ → ℕ → Type 0
    SoFar how next more =
        (t : Stood) → StandTogether bs next more z which t →
        StandTogether bs p count z which (record { how = joined which how t.how; next = t.next })

    -- the answer, where it is the same
    together-is : (next : ℕ) {how how2 : Standing} → how ≡ how2 → StandTogether bs p count z which (record { how = how; next = next }) →
        StandTogether bs p count z which (record { how = how2; next = next })
    together-is next e h = subst (λ x. StandTogether bs p count z which (record { how = x; next = next })) e h

    pub sofar-none : SoFar (alone which) p count
    sofar-none t h = together-is t.next (sym (alone-joined which t.how)) h

    module _ (how : Standing) (next more : ℕ) (sofar : SoFar how next more) where
      pub sofar-more : 1 ≤ more → (one : Stood) → StandsAt bs next z one → SoFar (joined which how one.how) one.next (more - 1)
      sofar-more some one stands t h =
          together-is t.next (sym (joined-assoc which how one.how t.how)) (sofar _ (more-together next more some one t stands h))

      pub sofar-all : more < 1 → StandTogether bs p count z which (record { how = how; next = next })
      sofar-all l = together-is next (joined-alone which how) (sofar _ (none-together next more l))
