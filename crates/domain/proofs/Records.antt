-- What the table says of a variable of a sheet that is laid out: its record, its box, its first element. Assumes nothing.
use mathlib.Core.Path.{◌≡◌, refl, sym, ap, ◌∙◌}
use Prim.Native.Nat.{ℕ, zero, suc, ◌+◌, ◌*◌, ◌≤◌, ◌<◌}
use native.Mathlib.Omega.{arith}
use mathlib.Core.Bool.{Bool, true, ◌&&◌}
use mathlib.Core.List.{List, [], ◌∷◌, ◌++◌, map}
use lib.ListN.{length, get_or, length-map, get_or-map}
use lib.IntN.{ℤ, pos, neg_ℤ}
use lib.Signed.{le_z}
use Rattle.alpha.specs.Field.{field}
use Rattle.alpha.specs.Sheet.{Head, Range, Sheet}
use Rattle.alpha.specs.Box.{within, size}
use Rattle.alpha.specs.Read.{no_head, dimension}
use Rattle.alpha.specs.Holds.{no_variable, variable}
use Rattle.alpha.specs.Check.{total}
use Rattle.alpha.specs.Ask.{before}
use Rattle.laws.specs.Box.{read_box}
use Rattle.laws.specs.Heads.{HeadsAt, points_of}
use Rattle.laws.specs.Sheets.{raw_of, heads_of, vars_of, sheet_of}
use Rattle.laws.proofs.Tests.{&&-left, &&-right, &&-true}
use Rattle.laws.proofs.Readers.{counted_is}
use Rattle.laws.proofs.Order.{le_z-trans}
use Rattle.laws.proofs.Heads.{RangeAt, HeadAt, head_at, head-range, head-box}
use Rattle.laws.proofs.Bodies.{BodiesRead, bodies-read}
use Rattle.laws.proofs.Elements.{before-suc, before-fits}
use Rattle.sheet.specs.declared.table.Table.{Table}
use Rattle.sheet.specs.Record.{box_at, dimension_at, Recorded}
use Rattle.sheet.specs.Record as Record
use Rattle.points.specs.Number.{box_of}
use Rattle.tree.proofs.Heading.{prepared-sections, prepared-few}
use Rattle.tree.specs.Formed.{BodiesPlaced}
use Rattle.domain.specs.Ground.{Laid, Grounds}
use Rattle.domain.specs.Inside.{Inside}

-- ---- a record by its place

-- the record h stands at p
record StandsAt (bs : List ℕ) (h : Head) (p : ℕ) : Type 0 where
  recorded : Recorded bs p
  box-is : box_of bs p ≡ h.box
  dims-are : dimension_at bs p ≡ length h.box
  box_read : read_box h.box ≡ true

abbrev no_range : Range
no_range = record { lo = pos 0; hi = pos 0 }

range_same : {a b x y : ℤ} → a ≡ b → x ≡ y → ◌≡◌ {A = Range} (record { lo = a; hi = x }) (record { lo = b; hi = y })
range_same e f = rw (e, f)

-- the ranges of a box, where each stands
box-fields : (bs : List ℕ) (box : List Range) (p : ℕ) → ((i : ℕ) → i < length box → RangeAt bs (p + i * 16) (get_or box i no_range)) →
    box_at bs p (length box) ≡ box
unfolding box_at
box-fields bs [] p h = refl
box-fields bs (r ∷ rs) p h =
    let e : p + 0 * 16 ≡ p = omega arith in
    let first = rw e at (h 0 (omega arith)) in
    ap (λ x. x ∷ box_at bs (p + 16) (length rs)) (sym (range_same first.lo-is first.hi-is))
    ∙ ap (λ l. r ∷ l) (box-fields bs rs (p + 16) (λ i lt. let f : p + suc i * 16 ≡ p + 16 + i * 16 = omega arith in rw f at (h (suc i) (omega arith))))

module _ (bs : List ℕ) (p : ℕ) (r : Range) (h : RangeAt bs p r) where
  low : le_z (neg_ℤ (pos 32768)) r.lo ≡ true
  low = &&-left _ (le_z r.lo r.hi) (&&-left (le_z (neg_ℤ (pos 32768)) r.lo && le_z r.lo r.hi) (le_z r.hi (pos 32767)) h.fine)

  up : le_z r.lo r.hi ≡ true
  up = &&-right (le_z (neg_ℤ (pos 32768)) r.lo) _ (&&-left (le_z (neg_ℤ (pos 32768)) r.lo && le_z r.lo r.hi) (le_z r.hi (pos 32767)) h.fine)

  high : le_z r.hi (pos 32767) ≡ true
  high = &&-right (le_z (neg_ℤ (pos 32768)) r.lo && le_z r.lo r.hi) (le_z r.hi (pos 32767)) h.fine

  lo-within : within (neg_ℤ (pos 32768)) (pos 32767) (field bs p) ≡ true
  lo-within = rw (← h.lo-is) (&&-true low (le_z-trans r.lo r.hi (pos 32767) up high))

  hi-within : within (field bs p) (pos 32767) (field bs (p + 8)) ≡ true
  hi-within = rw (← h.lo-is, ← h.hi-is) (&&-true up high)

head-stands : (earlier : List Head) (bs : List ℕ) (p : ℕ) (h : Head) → HeadAt earlier bs p h → StandsAt bs h h.place
head-stands earlier bs p h a =
    let d = counted_is a.dim in
    let item : (i : ℕ) → i < dimension_at bs p → RangeAt bs (p + 32 + 16 * i) (get_or h.box i no_range) =
    λ i lt. let e : p + 32 + i * 16 ≡ p + 32 + 16 * i = omega arith in rw e at (head-range a i (omega arith) no_range) in
    rw a.place_is (record {
      recorded = record {
        fields = omega (arith, a.dim.there);
        small = omega (arith, a.dim.high);
        ranges = record {
          there = omega (arith, a.there);
          low = λ i lt. lo-within bs (p + 32 + 16 * i) (get_or h.box i no_range) (item i lt);
          high = λ i lt. hi-within bs (p + 32 + 16 * i) (get_or h.box i no_range) (item i lt);
        };
      };
      box-is = rw (← d) (box-fields bs h.box (p + 32) (λ i lt. head-range a i lt no_range));
      dims-are = sym d;
      box_read = head-box a;
    })

heads_stand : (bs : List ℕ) (hs earlier : List Head) (p q : ℕ) → HeadsAt hs earlier bs p q → (v : ℕ) → v < length hs →
    StandsAt bs (get_or hs v no_head) (get_or hs v no_head).place
unfolding HeadsAt
heads_stand bs [] earlier p q h v lt = absurd (omega arith)
heads_stand bs (x ∷ hs) earlier p q h zero lt = head-stands earlier bs p x (head_at earlier bs p x h.next h.here)
heads_stand bs (x ∷ hs) earlier p q h (suc v) lt = heads_stand bs hs (earlier ++ (x ∷ [])) h.next q h.after v (omega arith)

-- ---- elements by the records

total-points : (s : Sheet) → points_of (map (λ x. x.head) s) ≡ total s
total-points [] = refl
total-points (x ∷ s) = rw (total-points s)

before-points : (s : Sheet) (v : ℕ) → Record.before (map (λ x. x.head) s) v ≡ before s v
before-points s zero = refl
before-points [] (suc v) = refl
before-points (x ∷ s) (suc v) = ap (λ n. size x.head.box + n) (before-points s v)

-- ---- a variable of a sheet that is laid out

pub record VariableLaid (bs : List ℕ) (tab : Table) (v : ℕ) : Type 0 where
  pub low : v < 32
  pub known : v < length (sheet_of bs)
  pub head_is : (variable (sheet_of bs) v).head ≡ get_or (heads_of bs) v no_head
  pub recorded : Recorded bs (get_or tab.records v 0)
  pub box-is : box_of bs (get_or tab.records v 0) ≡ (variable (sheet_of bs) v).head.box
  pub box_read : read_box (variable (sheet_of bs) v).head.box ≡ true
  pub dims-are : dimension_at bs (get_or tab.records v 0) ≡ dimension (heads_of bs) v
  pub first_is : get_or tab.firsts v 0 ≡ before (sheet_of bs) v
  pub last-is : get_or tab.firsts (v + 1) 0 ≡ before (sheet_of bs) v + size (variable (sheet_of bs) v).head.box
  -- its elements are numbered below 4,096
  pub few : before (sheet_of bs) v + size (variable (sheet_of bs) v).head.box ≤ 4096

pub laid-of : {bs : List ℕ} {tab : Table} {v : ℕ} → VariableLaid bs tab v → Laid bs tab v
laid-of h = record {
  low = h.low;
  known = h.known;
  recorded = h.recorded;
  box-is = h.box-is;
  dims-are = h.dims-are;
  first_is = h.first_is;
  few = h.few;
}

module _ (bs : List ℕ) (tab : Table) (h : BodiesPlaced bs tab) where
  laid-bodies : BodiesRead (raw_of bs) bs (heads_of bs) 0 (raw_of bs).first (raw_of bs).nodes (sheet_of bs)
  laid-bodies = bodies-read (raw_of bs) bs h.shaped

  pub laid-length : length (sheet_of bs) ≡ vars_of bs
  laid-length = sym (length-map (sheet_of bs) (λ x. x.head)) ∙ ap length laid-bodies.heads_are

  pub laid-total : total (sheet_of bs) ≤ 4096
  laid-total = rw (← total-points (sheet_of bs), laid-bodies.heads_are) (prepared-sections bs tab h.prepared).small

  pub laid-head : (v : ℕ) → (variable (sheet_of bs) v).head ≡ get_or (heads_of bs) v no_head
  laid-head v = sym (get_or-map (λ x. x.head) (sheet_of bs) v no_variable) ∙ ap (λ l. get_or l v no_head) laid-bodies.heads_are

  -- the first element of a variable, and the total after the last
  first : (v : ℕ) → v ≤ vars_of bs → get_or tab.firsts v 0 ≡ before (sheet_of bs) v
  first v le = h.prepared.table.first-element v le ∙ ap (λ l. Record.before l v) (sym laid-bodies.heads_are) ∙ before-points (sheet_of bs) v

  pub laid-variable : (v : ℕ) → v < vars_of bs → VariableLaid bs tab v
  laid-variable v lt =
      let r = heads_stand bs (heads_of bs) [] 8 (raw_of bs).second (prepared-sections bs tab h.prepared).heads_stand v lt in
      let place = h.prepared.table.record_at v lt in
      let known : v < length (sheet_of bs) = omega (arith, laid-length) in
      record {
        low = prepared-few bs tab h.prepared v lt;
        known = known;
        head_is = laid-head v;
        recorded = rw place r.recorded;
        box-is = rw (place, laid-head v) r.box-is;
        box_read = rw (laid-head v) r.box_read;
        dims-are = rw place r.dims-are;
        first_is = first v (omega arith);
        last-is =
            let e : v + 1 ≡ suc v = omega arith in
            first (v + 1) (omega arith) ∙ ap (before (sheet_of bs)) e ∙ before-suc (sheet_of bs) v known;
        few = omega (arith, before-fits (sheet_of bs) v known, laid-total);
      }

-- what a walk needs of the tables
pub placed-grounds : (bs : List ℕ) (tab : Table) (inside : List Bool) → BodiesPlaced bs tab → Inside (sheet_of bs) inside → Grounds bs tab inside
placed-grounds bs tab inside h i =
    record { some = (prepared-sections bs tab h.prepared).some; laid = λ v lt. laid-of (laid-variable bs tab h v lt); inside_is = i }
