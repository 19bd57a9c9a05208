-- How a variable stands at a point, by what the code finds: the number of the point in the variable's box, and what the table says of
-- that element. Assumes nothing.
use Rattle.std.specs.Prelude.{Option, Some, None}
use mathlib.Core.Path.{◌≡◌, refl, sym, ap, ◌∙◌}
use Prim.Native.Nat.{ℕ, ◌+◌, ◌<◌}
use native.Mathlib.Omega.{arith}
use mathlib.Core.Bool.{Bool, true, false, ◌&&◌}
use mathlib.Core.List.{List}
use lib.ListN.{get_or}
use lib.IntN.{ℤ}
use Rattle.alpha.specs.Pick.{ifb}
use Rattle.alpha.specs.Sheet.{Range, Point, Expr.var}
use Rattle.alpha.specs.Affine.{meets_all}
use Rattle.alpha.specs.Box.{in_box, index}
use Rattle.alpha.specs.Read.{dimension}
use Rattle.alpha.specs.Holds.{variable, holds, clashes}
use Rattle.laws.specs.Sheets.{heads_of, sheet_of}
use Rattle.laws.proofs.Boxes.{index-low}
use Rattle.affine.specs.Value.{point_of}
use Rattle.sheet.specs.declared.table.Table.{Table}
use Rattle.sheet.specs.Record.{dimension_at}
use Rattle.points.specs.Number.{box_of, number_in}
use Rattle.domain.specs.declared.Standing.TheVariants.{Not, Holds}
use Rattle.domain.specs.Standing.{rated, standing}
use Rattle.domain.specs.Ground.{Laid}
use Rattle.domain.specs.Inside.{Inside}

-- ---- a point's number in a box

module _ (box : List Range) (z : Point) where
  -- the point has a number: it is in the box, and that is its number
  pub record Numbered (i : ℕ) : Type 0 where
    pub inside : in_box box z ≡ true
    pub is : i ≡ index box z

  pub at-numbered : (i : ℕ) → Some i ≡ number_in box z → Numbered i
  at-numbered i e = go (in_box box z) refl e
    where
      go : (b : Bool) → in_box box z ≡ b → Some i ≡ ifb b (λ _. Some (index box z)) (λ _. None) → Numbered i
      go true h f = record { inside = h; is = cc }
      go false h f = let x : ◌≡◌ {A = ℕ} 0 1 = cc in absurd (omega arith)

  pub off-outside : None ≡ number_in box z → in_box box z ≡ false
  off-outside e = go (in_box box z) refl e
    where
      go : (b : Bool) → in_box box z ≡ b → None ≡ ifb b (λ _. Some (index box z)) (λ _. None) → in_box box z ≡ false
      go true h f = let x : ◌≡◌ {A = ℕ} 0 1 = cc in absurd (omega arith)
      go false h f = h

-- ---- a variable

module _ (bs : List ℕ) (tab : Table) (v : ℕ) (z : List ℤ) (h : Laid bs tab v) where
  abbrev box : List Range
  box = (variable (sheet_of bs) v).head.box

  abbrev point : Point
  point = point_of (dimension (heads_of bs) v) z

  -- the code's number is that of the point in the variable's box
  pub number_is : (f : Option ℕ) → f ≡ number_in (box_of bs (get_or tab.records v 0)) (point_of (dimension_at bs (get_or tab.records v 0)) z) → f ≡ number_in box point
  number_is f e = rw (h.box-is, h.dims-are) at e

  variable-rated : standing (var v) (sheet_of bs) point ≡ rated (in_box box point && meets_all (variable (sheet_of bs) v).declared point) false
  unfolding holds clashes
  variable-rated = refl

  -- off the box it does not hold
  pub off-stands : None ≡ number_in (box_of bs (get_or tab.records v 0)) (point_of (dimension_at bs (get_or tab.records v 0)) z) → Not ≡ standing (var v) (sheet_of bs) point
  off-stands e =
      sym (variable-rated ∙ ap (λ b. rated (b && meets_all (variable (sheet_of bs) v).declared point) false) (off-outside box point (number_is None e)))

  module _ (i : ℕ) (e : Some i ≡ number_in (box_of bs (get_or tab.records v 0)) (point_of (dimension_at bs (get_or tab.records v 0)) z)) where
    numbered : Numbered box point i
    numbered = at-numbered box point i (number_is (Some i) e)

    pub element-low : get_or tab.firsts v 0 + i < 4096
    element-low = omega (arith, numbered.is, h.first_is, index-low box point numbered.inside, h.few)

    -- within it, by the table
    module _ (inside : List Bool) (t : Inside (sheet_of bs) inside) where
      told_is : get_or inside (get_or tab.firsts v 0 + i) false ≡ meets_all (variable (sheet_of bs) v).declared point
      told_is = rw (h.first_is, numbered.is) (t.says v point h.known numbered.inside)

      told-stands : (b : Bool) → get_or inside (get_or tab.firsts v 0 + i) false ≡ b → rated b false ≡ standing (var v) (sheet_of bs) point
      told-stands b e =
          sym (variable-rated
          ∙ ap (λ x. rated (x && meets_all (variable (sheet_of bs) v).declared point) false) numbered.inside
          ∙ ap (λ x. rated x false) (sym told_is ∙ e))

      pub within-stands : get_or inside (get_or tab.firsts v 0 + i) false ≡ true → Holds ≡ standing (var v) (sheet_of bs) point
      within-stands = told-stands true

      pub without-stands : get_or inside (get_or tab.firsts v 0 + i) false ≡ false → Not ≡ standing (var v) (sheet_of bs) point
      without-stands = told-stands false
