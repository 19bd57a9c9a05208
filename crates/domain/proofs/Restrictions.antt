-- A restriction's constraints are what its fields say, and may be tested at any point that the walk may be at. Assumes nothing.
use mathlib.Core.Path.{◌≡◌, refl, sym, ap, ◌∙◌, subst}
use Prim.Native.Nat.{ℕ, zero, suc, ◌+◌, ◌-◌, ◌*◌, ◌^◌, ◌≤◌, ◌<◌}
use native.Mathlib.Omega.{arith}
use native.Mathlib.Nat.{suc-mul}
use mathlib.Core.Bool.{Bool, true, ◌&&◌}
use mathlib.Core.List.{List, [], ◌∷◌}
use lib.ListN.{length, get_or}
use lib.IntN.{nat_abs}
use lib.Dec.{leb}
use borrow.Author.Tests.{leb-true}
use Rattle.std.specs.List.{list_all, range_with_len}
use lib.IntN.{ℤ}
use Rattle.alpha.specs.Field.{field}
use Rattle.alpha.specs.Sheet.{Relation, Row, Constraint, Point}
use Rattle.alpha.specs.Affine.{meets, meets_all}
use Rattle.alpha.specs.Reach.{limit, row_reach, all_reach, reach}
use Rattle.alpha.specs.Written.{node_count}
use Rattle.laws.specs.At.{node_end}
use Rattle.laws.specs.Sheets.{vars_of}
use Rattle.laws.proofs.Tests.{&&-left, &&-right}
use Rattle.laws.proofs.Readers.{counted_is}
use Rattle.laws.proofs.Rows.{ConstraintAt}
use Rattle.laws.proofs.Nodes.{Restricts, restr-constraint}
use Rattle.laws.proofs.Shapes.{RestrAt}
use Rattle.affine.specs.declared.Row.{Row as Coded}
use Rattle.affine.specs.Value.{point_of, row_of, NeatRow}
use Rattle.affine.specs.Size.{Near, row_size}
use Rattle.affine.proofs.Several.{row_size-neat}
use Rattle.affine.proofs.Bounds.{row_size-near}
use Rattle.tree.specs.declared.Class.TheVariants.{Restriction}
use Rattle.tree.specs.Classes.{class_at}
use Rattle.tree.specs.Standing.{Wide}
use Rattle.tree.proofs.Classes.{restriction-at, restriction-fields}
use Rattle.tree.proofs.Standings.{at-noded}
use Rattle.tree.proofs.Reaching.{row-fields}
use Rattle.domain.specs.Walk.{Walk}
use Rattle.domain.specs.Constraints.{constraint_fields, constraints_fields, Testable, AllTestable, RestrictionTestable}
use Rattle.domain.proofs.Walks.{restriction-dims, restricted-fits}

-- ---- what the fields say

pub constraint-same : {r t : Relation} {w y : Row} → r ≡ t → w ≡ y → ◌≡◌ {A = Constraint} (record { rel = r; row = w }) (record { rel = t; row = y })
constraint-same e f = cc

pub constraint-is : (n : ℕ) (bs : List ℕ) (p : ℕ) (c : Constraint) → ConstraintAt n bs p c → c ≡ constraint_fields n bs p
constraint-is n bs p c h = constraint-same h.relation.is (row-fields n bs (p + 8) c.row h.stands)

-- a constraint within reach can be tested
pub constraint-testable : (n : ℕ) (bs : List ℕ) (p : ℕ) (c : Constraint) → ConstraintAt n bs p c → n ≤ 4 →
    (bound : ℕ) (z : Point) → Near bound z → row_reach bound c.row ≤ limit → Testable bs p n z
constraint-testable n bs p c h few bound z near k = record {
  few = few;
  there = h.there;
  relation = h.relation.high;
  small = subst (λ w. row_size w z < 2 ^ 63) (row-fields n bs (p + 8) c.row h.stands) (omega (arith, row_size-near bound c.row z near));
}

-- a row of n coefficients that is w, with zeros beyond
pub neat-small : (n : ℕ) (r : Coded) (z : List ℤ) → NeatRow n r → (w : Row) → row_of n r ≡ w → row_size w (point_of n z) < 2 ^ 63 →
    row_size (row_of 4 r) (point_of 4 z) < 2 ^ 63
neat-small n r z h w e k =
    let l : row_size (row_of n r) (point_of n z) < 2 ^ 63 = subst (λ x. row_size x (point_of n z) < 2 ^ 63) (sym e) k in
    omega (arith, row_size-neat n r h z)

-- ---- one after another

module _ (n : ℕ) (bs : List ℕ) where
  -- the constraints cs stand from p on
  abbrev pub Each : List Constraint → ℕ → Type 0
  Each cs p = (i : ℕ) → i < length cs → (c : Constraint) → ConstraintAt n bs (p + i * (16 + 8 * n)) (get_or cs i c)

  pub each_first : (c : Constraint) (cs : List Constraint) (p : ℕ) → Each (c ∷ cs) p → ConstraintAt n bs p c
  each_first c cs p h = let e : p + 0 * (16 + 8 * n) ≡ p = omega arith in rw e at (h 0 (omega arith) c)

  pub each-rest : (c : Constraint) (cs : List Constraint) (p : ℕ) → Each (c ∷ cs) p → Each cs (p + (16 + 8 * n))
  each-rest c cs p h i lt d =
      let e : p + suc i * (16 + 8 * n) ≡ p + (16 + 8 * n) + i * (16 + 8 * n) = ap (λ x. p + x) (suc-mul i (16 + 8 * n)) ∙ omega arith in
      rw e at (h (suc i) (omega arith) d)

  constraints-are : (cs : List Constraint) (p : ℕ) → Each cs p → cs ≡ constraints_fields (length cs) n bs p
  unfolding constraints_fields
  constraints-are [] p h = refl
  constraints-are (c ∷ cs) p h =
      ap (λ x. x ∷ cs) (constraint-is n bs p c (each_first c cs p h))
      ∙ ap (λ l. constraint_fields n bs p ∷ l) (constraints-are cs (p + (16 + 8 * n)) (each-rest c cs p h))

  -- the i-th of constraints that are within reach is
  reach-each : (bound : ℕ) (cs : List Constraint) (i : ℕ) → i < length cs → (c : Constraint) → all_reach bound cs ≡ true →
      row_reach bound (get_or cs i c).row ≤ limit
  reach-each bound [] i lt d r = absurd (omega arith)
  reach-each bound (c ∷ cs) zero lt d r = leb-true (row_reach bound c.row) limit (&&-left (leb (row_reach bound c.row) limit) (all_reach bound cs) r)
  reach-each bound (c ∷ cs) (suc i) lt d r = reach-each bound cs i (omega arith) d (&&-right (leb (row_reach bound c.row) limit) (all_reach bound cs) r)

  constraints-testable : n ≤ 4 → (bound : ℕ) (z : Point) → Near bound z → (cs : List Constraint) (p : ℕ) → Each cs p → all_reach bound cs ≡ true →
      AllTestable (length cs) bs p n z
  constraints-testable few bound z near cs p h r i lt =
      let d = constraint_fields n bs p in
      constraint-testable n bs (p + i * (16 + 8 * n)) (get_or cs i d) (h i lt d) few bound z near (reach-each bound cs i lt d r)

-- ---- a test of so many, by their number

module _ (n : ℕ) (bs : List ℕ) (z : Point) (p : ℕ) where
  abbrev pub meets_at : ℕ → Bool
  meets_at i = meets (constraint_fields n bs (p + i * (16 + 8 * n))) z

  pub all-meet : (k a q : ℕ) → q ≡ p + a * (16 + 8 * n) → list_all meets_at (range_with_len a k) ≡ meets_all (constraints_fields k n bs q) z
  unfolding constraints_fields
  all-meet zero a q e = refl
  all-meet (suc k) a q e =
      let next : q + (16 + 8 * n) ≡ p + (a + 1) * (16 + 8 * n) = omega (arith, suc-mul a (16 + 8 * n)) in
      ap (λ x. meets (constraint_fields n bs x) z && list_all meets_at (range_with_len (a + 1) k)) (sym e)
      ∙ ap (λ b. meets (constraint_fields n bs q) z && b) (all-meet k (a + 1) (q + (16 + 8 * n)) next)

-- ---- a restriction

module _ (bs : List ℕ) (p : ℕ) where
  -- the constraints of any restriction at p, by its fields
  pub restriction-says : (d : ℕ) (cs : List Constraint) → Restricts bs p d cs →
      cs ≡ constraints_fields (nat_abs (field bs (p + 16))) (nat_abs (field bs (p + 8))) bs (p + 24)
  restriction-says d cs h = rw (← counted_is h.many, ← counted_is h.dim) (constraints-are d bs cs (p + 24) (λ i lt c. restr-constraint h i lt c))

  module _ (left : ℕ) (z : List ℤ) (h : Walk bs p left z) (class_is : class_at bs p ≡ Restriction) where
    here : RestrAt h.tree (vars_of bs) bs p h.end
    here = restriction-at bs h.tree p h.end h.at class_is

    dims-are : here.dim ≡ h.dims
    dims-are = restriction-dims bs h.tree p h.end h.dims h.fitting here

    reach_here : all_reach h.bound here.given && reach here.child h.bound ≡ true
    unfolding reach
    reach_here = rw here.is at h.reaches

    count-here : node_count h.tree ≡ suc (node_count here.child)
    unfolding node_count
    count-here = ap node_count here.is

    wide : Wide bs p
    wide = restriction-fields bs p (record { noded = at-noded (vars_of bs) bs h.tree p h.end h.at; class_is = class_is })

    -- its constraints can be tested
    pub restriction-testable : RestrictionTestable bs p z
    restriction-testable = record {
      there = wide.there;
      few = wide.dim;
      all =
          rw (← counted_is here.fields.many, ← counted_is here.fields.dim)
          (constraints-testable here.dim bs here.fields.dim.high h.bound (point_of here.dim z) (rw dims-are h.point.near)
          here.given (p + 24) (λ i lt c. restr-constraint here.fields i lt c)
          (&&-left (all_reach h.bound here.given) (reach here.child h.bound) reach_here));
    }

    -- and its child, at the next place, may be walked at the same point
    pub restriction-walk : (k : ℕ) → k ≡ node_end (vars_of bs) bs p → Walk bs k (left - 1) z
    restriction-walk k next = record {
      tree = here.child;
      end = h.end;
      dims = h.dims;
      bound = h.bound;
      at = rw next here.below;
      few = omega (arith, h.few, count-here);
      most = omega (arith, h.most);
      fitting = restricted-fits bs h.tree p h.end h.dims h.fitting here;
      reaches = &&-right (all_reach h.bound here.given) (reach here.child h.bound) reach_here;
      point = h.point;
    }
