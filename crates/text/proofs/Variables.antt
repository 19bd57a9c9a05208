-- What a line says of a variable of a sheet that is laid out: its name where its record stands, and its points, how long each is.
-- Assumes nothing.
use mathlib.Core.Path.{◌≡◌, refl, sym, ap, ◌∙◌}
use Prim.Native.Nat.{ℕ, zero, suc, ◌+◌, ◌≤◌, ◌<◌}
use native.Mathlib.Omega.{arith}
use mathlib.Core.List.{List, [], ◌∷◌, ◌++◌}
use lib.ListN.{length, get_or, take}
use lib.IntN.{ℤ}
use Rattle.alpha.specs.Field.{eight}
use Rattle.alpha.specs.Sheet.{Head, Range}
use Rattle.alpha.specs.Box.{size, point_at}
use Rattle.alpha.specs.Read.{no_head, dimension}
use Rattle.alpha.specs.Kinds.{sort_meant}
use Rattle.alpha.specs.declared.kind.Sort.{Sort}
use Rattle.alpha.specs.Holds.{variable}
use Rattle.alpha.specs.Program.{trimmed, spaced}
use Rattle.laws.specs.Heads.{HeadsAt}
use Rattle.laws.specs.Sheets.{raw_of, heads_of, vars_of, sheet_of}
use Rattle.laws.proofs.Heads.{HeadAt, head_at}
use Rattle.laws.proofs.Boxes.{point_at-in_box, length-point_at, read_box-ordered, in_box-small}
use Rattle.affine.specs.Value.{several, at, point_of}
use Rattle.points.specs.Number.{PointAt}
use Rattle.tree.specs.Formed.{Formed}
use Rattle.tree.proofs.Heading.{prepared-sections}
use Rattle.domain.proofs.Records.{VariableLaid, laid-variable}
use Rattle.domain.proofs.Bodying.{point_at_lem}
use Rattle.text.proofs.Elements.{spaced-length}
use Rattle.sheet.specs.declared.table.Table.{Table}

-- ---- the name

head-named : (earlier : List Head) (bs : List ℕ) (p : ℕ) (h : Head) → HeadAt earlier bs p h → h.name ≡ eight bs h.place
head-named earlier bs p h a = rw a.place_is a.named.is

heads-named : (bs : List ℕ) (hs earlier : List Head) (p q : ℕ) → HeadsAt hs earlier bs p q → (v : ℕ) → v < length hs →
    (get_or hs v no_head).name ≡ eight bs (get_or hs v no_head).place
unfolding HeadsAt
heads-named bs [] earlier p q h v lt = absurd (omega arith)
heads-named bs (x ∷ hs) earlier p q h zero lt = head-named earlier bs p x (head_at earlier bs p x h.next h.here)
heads-named bs (x ∷ hs) earlier p q h (suc v) lt = heads-named bs hs (earlier ++ (x ∷ [])) h.next q h.after v (omega arith)

-- ---- a point

-- its coordinates are the first numbers of the array
several-take : (n : ℕ) (z : List ℤ) → n ≤ length z → several n (at z) ≡ take n z
several-take zero z h = refl
several-take (suc n) [] h = absurd (omega arith)
several-take (suc n) (x ∷ z) h = ap (λ t. x ∷ t) (several-take n z (omega arith))

-- ---- a variable

module _ (bs : List ℕ) (tab : Table) (f : Formed bs tab) (v : ℕ) (lt : v < vars_of bs) where
  pub laid : VariableLaid bs tab v
  laid = laid-variable bs tab f.placed v lt

  pub laid-name : trimmed (eight bs (get_or tab.records v 0)) ≡ trimmed (variable (sheet_of bs) v).head.name
  laid-name =
      let prepared = f.placed.prepared in
      let named = heads-named bs (heads_of bs) [] 8 (raw_of bs).second (prepared-sections bs tab prepared).heads_stand v lt in
      ap trimmed (ap (eight bs) (prepared.table.record_at v lt) ∙ sym named ∙ ap (λ h. h.name) (sym laid.head_is))

  pub laid-sort : (sort : Sort) → (get_or (heads_of bs) v no_head).sort ≡ sort_meant sort → sort_meant sort ≡ (variable (sheet_of bs) v).head.sort
  laid-sort sort e = sym e ∙ ap (λ h. h.sort) (sym laid.head_is)

  module _ (i : ℕ) (low : i < size (variable (sheet_of bs) v).head.box) where
    abbrev box : List Range
    box = (variable (sheet_of bs) v).head.box

    pub laid-point : (n : ℕ) (z : List ℤ) → n ≡ dimension (heads_of bs) v → PointAt bs (get_or tab.records v 0) i z →
        spaced (point_of n z) ≡ spaced (point_at box i)
    laid-point n z e at = ap spaced (ap (λ k. point_of k z) e ∙ point_at_lem bs tab v i laid low z at)

    -- the same of the first numbers of an array
    pub laid-part : (n : ℕ) (z : List ℤ) → n ≡ dimension (heads_of bs) v → PointAt bs (get_or tab.records v 0) i z →
        n ≤ length z → spaced (take n z) ≡ spaced (point_at box i)
    laid-part n z e at h = ap spaced (sym (several-take n z h)) ∙ laid-point n z e at

    pub laid-length : length (spaced (point_at box i)) ≤ 28
    laid-length =
        let inside = point_at-in_box box i (read_box-ordered box laid.box_read) low in
        let dims = laid.dims-are ∙ ap (λ h. length h.box) (sym laid.head_is) in
        omega (
          arith,
          spaced-length (point_at box i) (λ j. in_box-small box (point_at box i) j laid.box_read inside),
          length-point_at box i,
          dims,
          laid.recorded.small,
        )

    pub laid-number : get_or tab.firsts v 0 + i < 4096
    laid-number = omega (arith, laid.first_is, laid.few)
