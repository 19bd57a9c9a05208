-- The declared constraints as they stand in the second section, one after another: what is read at each, and whether those of one
-- variable pass REACH. Assumes nothing.
use mathlib.Core.Path.{◌≡◌, refl, sym, ap, ◌∙◌}
use Prim.Native.Nat.{ℕ, ◌+◌, ◌*◌, ◌-◌, ◌≤◌, ◌<◌}
use native.Mathlib.Omega.{arith}
use mathlib.Core.Bool.{Bool, true, false, ◌&&◌}
use mathlib.Core.List.{List, [], ◌∷◌}
use lib.ListN.{length}
use lib.IntN.{nat_abs}
use lib.Dec.{eqb, leb}
use borrow.Author.Tests.{eq-eqb, ne_eqb}
use Rattle.alpha.specs.Pick.{ifb}
use Rattle.alpha.specs.Field.{field}
use Rattle.alpha.specs.Sheet.{Row, Head, Declared}
use Rattle.alpha.specs.Read.{got, dimension, declared}
use Rattle.alpha.specs.Shape.{of_variable}
use Rattle.alpha.specs.Reach.{limit, top_reach, row_reach, all_reach}
use Rattle.affine.specs.Reading.{row_fields}
use Rattle.laws.specs.Heads.{declared_len, InRow}
use Rattle.laws.specs.Sheets.{raw_of, heads_of, vars_of}
use Rattle.laws.proofs.Readers.{counted_is}
use Rattle.laws.proofs.Heads.{DeclaredAt, declared-at, declared-next}
use Rattle.tree.specs.Prepared.{Prepared}
use Rattle.tree.specs.Ruled.{declared_passes}
use Rattle.tree.specs.Formed.{DeclaredRead}
use Rattle.tree.proofs.Heading.{prepared-sections}
use Rattle.tree.proofs.Reaching.{row-fields}
use Rattle.sheet.specs.declared.table.Table.{Table}

-- ---- one declared constraint

-- they end where they start, or after it
row_goes : (hs : List Head) (bs : List ℕ) (ds : List Declared) (p q : ℕ) → InRow ds (declared hs) bs p q → p ≤ q
unfolding InRow
row_goes hs bs [] p q h = omega arith
row_goes hs bs (d ∷ ds) p q h = omega (arith, declared-next hs bs p d h.next h.here, row_goes hs bs ds h.next q h.after)

module _ (bs : List ℕ) (tab : Table) (h : Prepared bs tab) (p : ℕ) (d : DeclaredRead bs p) where
  here : DeclaredAt (heads_of bs) bs p d.what
  here = declared-at (heads_of bs) bs p d.what d.next d.read

  pub who-there : p + 8 ≤ length bs
  who-there = here.who-is.there

  pub who-known : nat_abs (field bs p) < vars_of bs
  who-known = omega (arith, counted_is here.who-is, here.who-is.high, (prepared-sections bs tab h).some)

  pub declared-there : p + (24 + 8 * dimension (heads_of bs) (nat_abs (field bs p))) ≤ length bs
  declared-there = here.there

module _ (bs : List ℕ) (p v : ℕ) (d : Declared) (q : ℕ) (e : declared (heads_of bs) bs p ≡ got d q) where
  at : DeclaredAt (heads_of bs) bs p d
  at = declared-at (heads_of bs) bs p d q e

  pub other-passes : (nat_abs (field bs p) ≡ v → ⊥) → true ≡ declared_passes v d
  other-passes n = let x : eqb d.who v ≡ false = ne_eqb d.who v (λ f. n (sym (counted_is at.who-is) ∙ f)) in rw x

  pub own-passes : nat_abs (field bs p) ≡ v → leb (row_reach top_reach (row_fields (dimension (heads_of bs) (nat_abs (field bs p))) bs (p + 16))) limit
      ≡ declared_passes v d
  own-passes n =
      let who = counted_is at.who-is in
      let x : eqb d.who v ≡ true = eq-eqb d.who v (who ∙ n) in
      let on : p + 8 + 8 ≡ p + 16 = omega arith in
      let row = row-fields (dimension (heads_of bs) d.who) bs (p + 8 + 8) d.what.row at.what-is.stands in
      let same : row_fields (dimension (heads_of bs) (nat_abs (field bs p))) bs (p + 16) ≡ d.what.row =
      ap (λ w. row_fields (dimension (heads_of bs) w) bs (p + 16)) (sym who) ∙ ap (row_fields (dimension (heads_of bs) d.who) bs) (sym on) ∙ sym row in
      ap (λ (w : Row). leb (row_reach top_reach w) limit) same ∙ sym (rw x)

-- ---- so many of them

-- the second section's count is there
pub section-there : (bs : List ℕ) (tab : Table) → Prepared bs tab → (raw_of bs).second + 8 ≤ length bs
section-there bs tab h =
    let s = prepared-sections bs tab h in
    let d : (raw_of bs).second + 8 ≤ (raw_of bs).third =
    row_goes (heads_of bs) bs (raw_of bs).decls ((raw_of bs).second + 8) (raw_of bs).third s.declared_stand in
    omega (arith, s.first_is, s.first_there)

-- the constraints of v among these pass if the first does and those among the others do
own-more : (v : ℕ) (d : Declared) (ds : List Declared) →
    all_reach top_reach (of_variable v (d ∷ ds)) ≡ declared_passes v d && all_reach top_reach (of_variable v ds)
own-more v d ds = go (eqb d.who v)
  where
    go : (b : Bool) → all_reach top_reach (ifb b (λ _. d.what ∷ of_variable v ds) (λ _. of_variable v ds))
        ≡ ifb b (λ _. leb (row_reach top_reach d.what.row) limit) (λ _. true) && all_reach top_reach (of_variable v ds)
    go true = refl
    go false = refl

module _ (bs : List ℕ) (v : ℕ) where
  -- `left` declared constraints stand from p on, and those of v among them decide
  pub record DeclaredLeft (left p : ℕ) : Type 0 where
    pub rest : List Declared
    pub many : length rest ≡ left
    pub stand : InRow rest (declared (heads_of bs)) bs p (raw_of bs).third
    pub decides : all_reach top_reach (of_variable v rest) ≡ all_reach top_reach (of_variable v (raw_of bs).decls)

  pub all_left : (tab : Table) → Prepared bs tab → (left p : ℕ) → left ≡ nat_abs (field bs (raw_of bs).second) →
      p ≡ (raw_of bs).second + 8 → DeclaredLeft left p
  all_left tab h left p l e =
      let s = prepared-sections bs tab h in
      let n : length (raw_of bs).decls ≡ left = sym (l ∙ ap nat_abs s.declared_count) in
      record { rest = (raw_of bs).decls; many = n; stand = rw e s.declared_stand; decides = refl }

  module _ (left p : ℕ) (h : DeclaredLeft left p) where
    -- the first of them, and the others
    pub record FirstDeclared : Type 0 where
      pub read : DeclaredRead bs p
      pub others : List Declared
      pub fewer : length others ≡ left - 1
      pub after : InRow others (declared (heads_of bs)) bs (p + declared_len (heads_of bs) bs p) (raw_of bs).third
      pub decides : declared_passes v read.what && all_reach top_reach (of_variable v others) ≡ all_reach top_reach (of_variable v (raw_of bs).decls)

    pub first-declared : 0 < left → FirstDeclared
    unfolding InRow
    first-declared l = go h.rest h.many h.stand h.decides
      where
        go : (ds : List Declared) → length ds ≡ left → InRow ds (declared (heads_of bs)) bs p (raw_of bs).third →
            all_reach top_reach (of_variable v ds) ≡ all_reach top_reach (of_variable v (raw_of bs).decls) → FirstDeclared
        go [] m r e = absurd (omega arith)
        go (d ∷ ds) m r e = record {
          read = record { what = d; next = r.next; read = r.here };
          others = ds;
          fewer = omega arith;
          after = rw (declared-next (heads_of bs) bs p d r.next r.here) at r.after;
          decides = sym (own-more v d ds) ∙ e;
        }

    module _ (l : 0 < left) (b : Bool) (says : (d : Declared) (q : ℕ) → declared (heads_of bs) bs p ≡ got d q → b ≡ declared_passes v d) where
      pub one-declared-fails : b ≡ false → false ≡ all_reach top_reach (of_variable v (raw_of bs).decls)
      one-declared-fails e =
          let f = first-declared l in
          let r = f.read in
          ap (λ x. x && all_reach top_reach (of_variable v f.others)) (sym e ∙ says r.what r.next r.read) ∙ f.decides

      pub one-declared-passes : b ≡ true → (k : ℕ) → k ≡ declared_len (heads_of bs) bs p → DeclaredLeft (left - 1) (p + k)
      one-declared-passes e k long =
          let f = first-declared l in
          let r = f.read in
          record {
            rest = f.others;
            many = f.fewer;
            stand = rw long f.after;
            decides = ap (λ x. x && all_reach top_reach (of_variable v f.others)) (sym e ∙ says r.what r.next r.read) ∙ f.decides;
          }
