-- The declared constraints tested at a point, one after another; and the table of the elements that are inside, filled one after another. Assumes nothing.
use mathlib.Core.Path.{◌≡◌, refl, sym, ap, ◌∙◌, subst}
use mathlib.Core.Logic.{⊎_elim}
use Prim.Native.Nat.{ℕ, zero, suc, ◌+◌, ◌-◌, ◌≤◌, ◌<◌}
use native.Mathlib.Omega.{arith}
use mathlib.Core.Bool.{Bool, true, false, ◌&&◌}
use mathlib.Core.List.{List, [], ◌∷◌}
use lib.ListN.{length, get_or, set, length-set}
use lib.Seq.{get_or-set_same, get_or-set_other}
use lib.IntN.{nat_abs}
use lib.Dec.{eqb, leb}
use borrow.Author.Tests.{eq-eqb, ne_eqb, leb-true}
use Rattle.alpha.specs.Pick.{ifb}
use lib.IntN.{ℤ}
use Rattle.alpha.specs.Field.{field}
use Rattle.alpha.specs.Sheet.{Range, Declared, Sheet, Point}
use Rattle.alpha.specs.Affine.{meets, meets_all}
use Rattle.alpha.specs.Box.{size, in_box, index, point_at}
use Rattle.alpha.specs.Read.{got, dimension, declared}
use Rattle.alpha.specs.Shape.{of_variable}
use Rattle.alpha.specs.Holds.{variable}
use Rattle.alpha.specs.Reach.{limit, top_reach, row_reach, all_reach}
use Rattle.alpha.specs.Ask.{before, number_of}
use Rattle.laws.specs.Heads.{declared_len, InRow}
use Rattle.laws.specs.Sheets.{raw_of, heads_of, vars_of, sheet_of}
use Rattle.laws.proofs.Tests.{&&-left, &&-right}
use Rattle.laws.proofs.Readers.{counted_is}
use Rattle.laws.proofs.Rows.{ConstraintAt}
use Rattle.laws.proofs.Heads.{DeclaredAt, declared-at, declared-next}
use Rattle.laws.proofs.Boxes.{index-low, point_at-index, in_box-small}
use Rattle.laws.proofs.Elements.{before-suc}
use Rattle.affine.specs.Value.{point_of}
use Rattle.affine.proofs.Several.{lt-or-le}
use Rattle.tree.specs.Formed.{DeclaredRead, Formed}
use Rattle.tree.proofs.Heading.{prepared-sections}
use Rattle.domain.specs.Constraints.{constraint_fields}
use Rattle.domain.specs.Filling.{declared_meets, DeclaredTestable, FilledBelow}
use Rattle.domain.proofs.Restrictions.{constraint-is, constraint-testable}
use Rattle.domain.proofs.Records.{VariableLaid}
use Rattle.domain.proofs.Bodying.{near-each}
use Rattle.sheet.specs.declared.table.Table.{Table}

-- ---- one declared constraint

module _ (bs : List ℕ) (p v : ℕ) (z : Point) (d : Declared) (q : ℕ) (e : declared (heads_of bs) bs p ≡ got d q) where
  here : DeclaredAt (heads_of bs) bs p d
  here = declared-at (heads_of bs) bs p d q e

  pub other-meets : (nat_abs (field bs p) ≡ v → ⊥) → true ≡ declared_meets v d z
  other-meets n = let x : eqb d.who v ≡ false = ne_eqb d.who v (λ f. n (sym (counted_is here.who-is) ∙ f)) in rw x

  pub own_meets : nat_abs (field bs p) ≡ v → meets (constraint_fields (dimension (heads_of bs) v) bs (p + 8)) z ≡ declared_meets v d z
  own_meets n =
      let who : d.who ≡ v = counted_is here.who-is ∙ n in
      let x : eqb d.who v ≡ true = eq-eqb d.who v who in
      let c = constraint-is (dimension (heads_of bs) d.who) bs (p + 8) d.what here.what-is in
      ap (λ w. meets (constraint_fields (dimension (heads_of bs) w) bs (p + 8)) z) (sym who) ∙ ap (λ t. meets t z) (sym c) ∙ sym (rw x)

-- ---- so many of them

meets-more : (v : ℕ) (z : Point) (d : Declared) (ds : List Declared) →
    meets_all (of_variable v (d ∷ ds)) z ≡ declared_meets v d z && meets_all (of_variable v ds) z
meets-more v z d ds = go (eqb d.who v)
  where
    go : (b : Bool) → meets_all (ifb b (λ _. d.what ∷ of_variable v ds) (λ _. of_variable v ds)) z
        ≡ ifb b (λ _. meets d.what z) (λ _. true) && meets_all (of_variable v ds) z
    go true = refl
    go false = refl

-- of constraints that pass REACH, the first does if it is v's, and the others do
reach-first : (v : ℕ) (d : Declared) (ds : List Declared) → all_reach top_reach (of_variable v (d ∷ ds)) ≡ true → d.who ≡ v →
    row_reach top_reach d.what.row ≤ limit
reach-first v d ds h w =
    let x : eqb d.who v ≡ true = eq-eqb d.who v w in
    leb-true _ _ (&&-left (leb (row_reach top_reach d.what.row) limit) (all_reach top_reach (of_variable v ds)) (rw x at h))

reach-rest : (v : ℕ) (d : Declared) (ds : List Declared) → all_reach top_reach (of_variable v (d ∷ ds)) ≡ true → all_reach top_reach (of_variable v ds) ≡ true
reach-rest v d ds h = go (eqb d.who v) h
  where
    go : (b : Bool) → all_reach top_reach (ifb b (λ _. d.what ∷ of_variable v ds) (λ _. of_variable v ds)) ≡ true →
        all_reach top_reach (of_variable v ds) ≡ true
    go true k = &&-right (leb (row_reach top_reach d.what.row) limit) (all_reach top_reach (of_variable v ds)) k
    go false k = k

module _ (bs : List ℕ) (v : ℕ) (z : List ℤ) where
  abbrev point : Point
  point = point_of (dimension (heads_of bs) v) z

  -- `left` declared constraints stand from p on, and those of v among them decide; their rows are within reach
  pub record MeetsLeft (left p : ℕ) : Type 0 where
    pub rest : List Declared
    pub many : length rest ≡ left
    pub stand : InRow rest (declared (heads_of bs)) bs p (raw_of bs).third
    pub reaches : all_reach top_reach (of_variable v rest) ≡ true
    pub decides : meets_all (of_variable v rest) point ≡ meets_all (variable (sheet_of bs) v).declared point

  pub meets-left : (tab : Table) → Formed bs tab → v < vars_of bs → (left p : ℕ) → left ≡ nat_abs (field bs (raw_of bs).second) →
      p ≡ (raw_of bs).second + 8 → MeetsLeft left p
  meets-left tab f lt left p l e =
      let s = prepared-sections bs tab f.placed.prepared in
      let n : length (raw_of bs).decls ≡ left = sym (l ∙ ap nat_abs s.declared_count) in
      let is = f.placed.declared_is v lt in
      record {
        rest = (raw_of bs).decls;
        many = n;
        stand = rw e s.declared_stand;
        reaches = rw is at (&&-left (all_reach top_reach (variable (sheet_of bs) v).declared) _ (f.reaching v lt));
        decides = ap (λ l. meets_all l point) (sym is);
      }

  module _ (left p : ℕ) (h : MeetsLeft left p) where
    pub none-left-meets : left ≤ 0 → true ≡ meets_all (variable (sheet_of bs) v).declared point
    none-left-meets l = go h.rest h.many ∙ h.decides
      where
        go : (ds : List Declared) → length ds ≡ left → true ≡ meets_all (of_variable v ds) point
        go [] m = refl
        go (d ∷ ds) m = absurd (omega arith)

    -- the first of them, and the others
    pub record FirstMet : Type 0 where
      pub read : DeclaredRead bs p
      pub reach : read.what.who ≡ v → row_reach top_reach read.what.what.row ≤ limit
      pub others : List Declared
      pub fewer : length others ≡ left - 1
      pub after : InRow others (declared (heads_of bs)) bs (p + declared_len (heads_of bs) bs p) (raw_of bs).third
      pub reaches : all_reach top_reach (of_variable v others) ≡ true
      pub decides : declared_meets v read.what point && meets_all (of_variable v others) point ≡ meets_all (variable (sheet_of bs) v).declared point

    pub first-met : 0 < left → FirstMet
    unfolding InRow
    first-met l = go h.rest h.many h.stand h.reaches h.decides
      where
        go : (ds : List Declared) → length ds ≡ left → InRow ds (declared (heads_of bs)) bs p (raw_of bs).third →
            all_reach top_reach (of_variable v ds) ≡ true →
            meets_all (of_variable v ds) point ≡ meets_all (variable (sheet_of bs) v).declared point → FirstMet
        go [] m r a e = absurd (omega arith)
        go (d ∷ ds) m r a e = record {
          read = record { what = d; next = r.next; read = r.here };
          reach = λ w. reach-first v d ds a w;
          others = ds;
          fewer = omega arith;
          after = rw (declared-next (heads_of bs) bs p d r.next r.here) at r.after;
          reaches = reach-rest v d ds a;
          decides = sym (meets-more v point d ds) ∙ e;
        }

    -- the first can be tested at a point of v's box
    pub first-testable : (tab : Table) → VariableLaid bs tab v → in_box (variable (sheet_of bs) v).head.box point ≡ true → 0 < left → DeclaredTestable bs p v z
    first-testable tab x inside l =
        let f = first-met l in
        let r = f.read in
        let at = declared-at (heads_of bs) bs p r.what r.next r.read in
        record {
          read = r;
          test = λ w.
              let who : r.what.who ≡ v = counted_is at.who-is ∙ w in
              let few : dimension (heads_of bs) v ≤ 4 = omega (arith, x.dims-are, x.recorded.small) in
              let near = near-each top_reach point (λ j. in_box-small (variable (sheet_of bs) v).head.box point j x.box_read inside) in
              constraint-testable (dimension (heads_of bs) v) bs (p + 8) r.what.what
              (subst (λ i. ConstraintAt (dimension (heads_of bs) i) bs (p + 8) r.what.what) who at.what-is) few top_reach point near (f.reach who);
        }

    module _ (l : 0 < left) (b : Bool) (says : (d : Declared) (q : ℕ) → declared (heads_of bs) bs p ≡ got d q → b ≡ declared_meets v d point) where
      pub one-fails-meets : b ≡ false → false ≡ meets_all (variable (sheet_of bs) v).declared point
      one-fails-meets e =
          let f = first-met l in
          let r = f.read in
          ap (λ x. x && meets_all (of_variable v f.others) point) (sym e ∙ says r.what r.next r.read) ∙ f.decides

      pub one-meets : b ≡ true → (next : ℕ) → next ≡ p + declared_len (heads_of bs) bs p → MeetsLeft (left - 1) next
      one-meets e next is =
          let f = first-met l in
          let r = f.read in
          record {
            rest = f.others;
            many = f.fewer;
            stand = rw is f.after;
            reaches = f.reaches;
            decides = ap (λ x. x && meets_all (of_variable v f.others) point) (sym e ∙ says r.what r.next r.read) ∙ f.decides;
          }

-- where the sheet declares nothing, every point is inside
pub none-declared : (bs : List ℕ) (tab : Table) → Formed bs tab → (v : ℕ) → v < vars_of bs → nat_abs (field bs (raw_of bs).second) < 1 → (z : Point) →
    true ≡ meets_all (variable (sheet_of bs) v).declared z
none-declared bs tab f v lt none z =
    let s = prepared-sections bs tab f.placed.prepared in
    go (raw_of bs).decls (sym (ap nat_abs s.declared_count)) ∙ ap (λ l. meets_all l z) (sym (f.placed.declared_is v lt))
  where
    go : (ds : List Declared) → length ds ≡ nat_abs (field bs (raw_of bs).second) → true ≡ meets_all (of_variable v ds) z
    go [] m = refl
    go (d ∷ ds) m = absurd (omega arith)

-- ---- the table

-- a later variable's first element comes no earlier
before_more : (s : Sheet) (w v : ℕ) → w ≤ v → v ≤ length s → before s w ≤ before s v
before_more s w zero l k = let e : w ≡ 0 = omega arith in rw e (omega arith)
before_more s w (suc v) l k = ⊎_elim (λ h. omega (arith, before_more s w v (omega arith) (omega arith), before-suc s v (omega arith))) (λ h. same h)
    (lt-or-le w (suc v))
  where
    same : suc v ≤ w → before s w ≤ before s (suc v)
    same h = let e : w ≡ suc v = omega arith in rw e (omega arith)

-- the table says it of the elements below v, and of the first i elements of v
pub record FilledTo (s : Sheet) (v i : ℕ) (inside : List Bool) : Type 0 where
  pub below : FilledBelow s v inside
  pub here : (j : ℕ) → j < i → get_or inside (before s v + j) false ≡ meets_all (variable s v).declared (point_at (variable s v).head.box j)

module _ (s : Sheet) (v : ℕ) where
  abbrev box : List Range
  box = (variable s v).head.box

  -- the elements of earlier variables have lower numbers
  earlier-low : (w : ℕ) (z : Point) → w < v → v ≤ length s → in_box (variable s w).head.box z ≡ true → number_of s w z < before s v
  earlier-low w z lt le b = omega (arith, before-suc s w (omega arith), index-low (variable s w).head.box z b, before_more s (suc w) v (omega arith) le)

  pub fill_one : (inside inside' : List Bool) (i n : ℕ) (met : Bool) → v < length s → FilledTo s v i inside → n ≡ before s v + i → n < 4096 →
      met ≡ meets_all (variable s v).declared (point_at box i) → inside' ≡ set inside n met → FilledTo s v (i + 1) inside'
  fill_one inside inside' i n met low h is fits m e = rw e (record {
    below = record {
      sized = simp (length-set {A = Bool}) h.below.sized;
      says = λ w z lt k b.
          let less = earlier-low w z lt (omega arith) b in
          get_or-set_other inside n (number_of s w z) met false (λ x. omega arith) ∙ h.below.says w z lt k b;
    };
    here = λ j lt. ⊎_elim (earlier j) (last j lt) (lt-or-le j i);
  })
    where
      earlier : (j : ℕ) → j < i → get_or (set inside n met) (before s v + j) false ≡ meets_all (variable s v).declared (point_at box j)
      earlier j lt = get_or-set_other inside n (before s v + j) met false (λ x. omega arith) ∙ h.here j lt

      last : (j : ℕ) → j < i + 1 → i ≤ j → get_or (set inside n met) (before s v + j) false ≡ meets_all (variable s v).declared (point_at box j)
      last j lt le =
          let j-is : j ≡ i = omega arith in
          let same : get_or (set inside n met) n false ≡ met = get_or-set_same inside n met false (omega (arith, h.below.sized)) in
          rw (j-is, ← is) (same ∙ m)

  pub fill-all : (inside : List Bool) (i : ℕ) → size box ≤ i → FilledTo s v i inside → FilledBelow s (v + 1) inside
  fill-all inside i le h = record { sized = h.below.sized; says = λ w z lt k b. ⊎_elim (λ l. h.below.says w z l k b) (λ l. own w z lt l b) (lt-or-le w v) }
    where
      mine : (z : Point) → in_box box z ≡ true → get_or inside (number_of s v z) false ≡ meets_all (variable s v).declared z
      mine z b = h.here (index box z) (omega (arith, index-low box z b)) ∙ ap (meets_all (variable s v).declared) (point_at-index box z b)

      own : (w : ℕ) (z : Point) → w < v + 1 → v ≤ w → in_box (variable s w).head.box z ≡ true →
          get_or inside (number_of s w z) false ≡ meets_all (variable s w).declared z
      own w z lt l b =
          let e : v ≡ w = omega arith in
          subst (λ u. in_box (variable s u).head.box z ≡ true → get_or inside (number_of s u z) false ≡ meets_all (variable s u).declared z) e (mine z) b
