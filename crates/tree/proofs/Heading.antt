-- What the table and the bytes say of a variable of a prepared sheet: where its record stands, and what its fields say. Assumes nothing.
use mathlib.Core.Path.{◌≡◌, sym}
use Prim.Native.Nat.{ℕ, ◌+◌, ◌≤◌, ◌<◌}
use native.Mathlib.Omega.{arith}
use mathlib.Core.List.{List, []}
use lib.ListN.{length, get_or}
use lib.IntN.{nat_abs}
use Rattle.alpha.specs.Field.{field}
use Rattle.alpha.specs.Sheet.{Head}
use Rattle.alpha.specs.Read.{no_head, kind_of, sort_of}
use Rattle.laws.specs.Accepted.{Sections}
use Rattle.laws.specs.Sheets.{raw_of, heads_of, vars_of}
use Rattle.laws.proofs.Readers.{counted_is}
use Rattle.laws.proofs.Heads.{HeadAt}
use Rattle.laws.proofs.Bodies.{SheetRead, read-says}
use Rattle.laws.proofs.Checked.{heads_at-each}
use Rattle.tree.specs.Prepared.{Prepared}
use Rattle.sheet.specs.declared.table.Table.{Table}

-- the record h stands at p, and its fields say what it is
pub record Recorded (bs : List ℕ) (h : Head) (p : ℕ) : Type 0 where
  pub there : p + 32 ≤ length bs
  pub kind-is : h.kind ≡ kind_of (nat_abs (field bs (p + 8)))
  pub kind-high : nat_abs (field bs (p + 8)) ≤ 2
  pub sort-is : h.sort ≡ sort_of (nat_abs (field bs (p + 16)))
  pub sort-high : nat_abs (field bs (p + 16)) ≤ 1
  pub dim-is : nat_abs (field bs (p + 24)) ≡ length h.box
  pub dim-high : nat_abs (field bs (p + 24)) ≤ 4

head-recorded : (earlier : List Head) (bs : List ℕ) (p : ℕ) (h : Head) → HeadAt earlier bs p h → Recorded bs h h.place
head-recorded earlier bs p h a =
    let d = counted_is a.dim in
    rw a.place_is (record {
      there = omega (arith, a.dim.there);
      kind-is = a.kind-is.is;
      kind-high = a.kind-is.high;
      sort-is = a.sort-is.is;
      sort-high = a.sort-is.high;
      dim-is = sym d;
      dim-high = omega (arith, a.dim.high);
    })

module _ (bs : List ℕ) (tab : Table) (h : Prepared bs tab) where
  pub prepared-read : SheetRead bs (raw_of bs)
  prepared-read = read-says h.accepted

  pub prepared-sections : Sections bs (raw_of bs)
  prepared-sections = prepared-read.parts

  module _ (v : ℕ) (lt : v < vars_of bs) where
    pub prepared-record : Recorded bs (get_or (heads_of bs) v no_head) (get_or tab.records v 0)
    prepared-record =
        rw (h.table.record_at v lt)
        (heads_at-each (λ x. Recorded bs x x.place) bs (λ earlier p x a. head-recorded earlier bs p x a) (heads_of bs) [] 8 (raw_of bs).second
        prepared-sections.heads_stand v lt no_head)

    -- the table has a place for each variable
    pub prepared-few : v < 32
    prepared-few = omega (arith, prepared-sections.few)
