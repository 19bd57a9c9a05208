-- The body of a variable at an element: what the table says of it, and that it may be walked there.
-- Assumes nothing.
use mathlib.Core.Path.{◌≡◌, sym, ap, ◌∙◌}
use Prim.Native.Nat.{ℕ, suc, ◌+◌, ◌≤◌, ◌<◌}
use native.Mathlib.Omega.{arith}
use mathlib.Core.Bool.{Bool, true, false, ◌&&◌}
use mathlib.Core.List.{List, [], ◌∷◌}
use lib.ListN.{length, get_or}
use lib.IntN.{pos, nat_abs}
use lib.IntN.{ℤ}
use Rattle.alpha.specs.Pick.{ifb}
use Rattle.alpha.specs.Sheet.{Range, Point}
use Rattle.alpha.specs.Affine.{meets_all}
use Rattle.alpha.specs.Box.{size, in_box, point_at}
use Rattle.alpha.specs.Read.{dimension}
use Rattle.alpha.specs.Holds.{variable, in_domain}
use Rattle.alpha.specs.Reach.{top_reach}
use Rattle.alpha.specs.Ask.{number_of}
use Rattle.laws.specs.Sheets.{heads_of, sheet_of}
use Rattle.laws.proofs.Boxes.{index-point_at, point_at-in_box, read_box-ordered, in_box-small}
use Rattle.affine.specs.Value.{point_of}
use Rattle.affine.specs.Size.{Near}
use Rattle.sheet.specs.declared.table.Table.{Table}
use Rattle.sheet.specs.Record.{dimension_at}
use Rattle.points.specs.Number.{PointAt}
use Rattle.tree.specs.Formed.{Formed}
use Rattle.domain.specs.declared.Standing.TheVariants.{Holds}
use Rattle.domain.specs.declared.Stood.{Stood}
use Rattle.domain.specs.Walk.{Walk}
use Rattle.domain.specs.Standing.{standing, StandsAt}
use Rattle.domain.specs.Inside.{Inside}
use Rattle.domain.specs.Element.{body_standing, HasBody}
use Rattle.domain.proofs.Records.{VariableLaid}

pub near-each : (r : ℕ) (z : Point) → ((i : ℕ) → nat_abs (get_or z i (pos 0)) ≤ r) → Near r z
near-each r [] h = tt
near-each r (x ∷ z) h = (h 0, near-each r z (λ i. h (suc i)))

module _ (bs : List ℕ) (tab : Table) (v i : ℕ) (h : VariableLaid bs tab v) (low : i < size (variable (sheet_of bs) v).head.box) where
  abbrev box : List Range
  box = (variable (sheet_of bs) v).head.box

  abbrev point : Point
  point = point_at box i

  in-box : in_box box point ≡ true
  in-box = point_at-in_box box i (read_box-ordered box h.box_read) low

  -- the code's point is the i-th of the box
  pub point_at_lem : (z : List ℤ) → PointAt bs (get_or tab.records v 0) i z → point_of (dimension (heads_of bs) v) z ≡ point
  point_at_lem z at = ap (λ n. point_of n z) (sym h.dims-are) ∙ at.is ∙ ap (λ b. point_at b i) h.box-is

  pub point-inside : (z : List ℤ) → PointAt bs (get_or tab.records v 0) i z → in_box box (point_of (dimension (heads_of bs) v) z) ≡ true
  point-inside z at = ap (in_box box) (point_at_lem z at) ∙ in-box

  pub number-low : get_or tab.firsts v 0 + i < 4096
  number-low = omega (arith, h.first_is, h.few)

  -- ---- whether it is inside

  module _ (inside : List Bool) (t : Inside (sheet_of bs) inside) where
    in-domain : in_domain (variable (sheet_of bs) v) point ≡ get_or inside (get_or tab.firsts v 0 + i) false
    in-domain =
        let n : number_of (sheet_of bs) v point ≡ get_or tab.firsts v 0 + i = omega (arith, index-point_at box i low, h.first_is) in
        ap (λ b. b && meets_all (variable (sheet_of bs) v).declared point) in-box ∙ sym (rw n at (t.says v point h.known in-box))

    told-asks : (b : Bool) → get_or inside (get_or tab.firsts v 0 + i) false ≡ b →
        ifb b (λ _. standing (variable (sheet_of bs) v).body (sheet_of bs) point) (λ _. Holds) ≡ body_standing (sheet_of bs) v point
    told-asks b e =
        ap (λ b. ifb b (λ _. standing (variable (sheet_of bs) v).body (sheet_of bs) point) (λ _. Holds)) (sym (in-domain ∙ e))

    pub within-asks : get_or inside (get_or tab.firsts v 0 + i) false ≡ true →
        standing (variable (sheet_of bs) v).body (sheet_of bs) point ≡ body_standing (sheet_of bs) v point
    within-asks = told-asks true

    pub without-skips : get_or inside (get_or tab.firsts v 0 + i) false ≡ false → Holds ≡ body_standing (sheet_of bs) v point
    without-skips = told-asks false

  -- ---- its walk

  module _ (f : Formed bs tab) (body : HasBody bs v) (z : List ℤ)
      (at : PointAt bs (get_or tab.records v 0) i z) (place : ℕ) (place_is : place ≡ get_or tab.bodies v 0) where
    dims : dimension_at bs (get_or tab.records v 0) ≡ length box
    dims = h.dims-are ∙ ap (λ x. length x.box) (sym h.head_is)

    point-is : point_of (length box) z ≡ point
    point-is = ap (λ n. point_of n z) (sym dims) ∙ at.is ∙ ap (λ b. point_at b i) h.box-is

    starts : place ≡ (variable (sheet_of bs) v).start
    starts = place_is ∙ f.placed.starts v body.known

    pub body-walk : Walk bs place 2048 z
    body-walk =
        let b = f.placed.body v body.known body.no_input in
        record {
          tree = (variable (sheet_of bs) v).body;
          end = (variable (sheet_of bs) v).end;
          dims = length box;
          bound = top_reach;
          at = rw starts b.at;
          few = b.few;
          most = omega arith;
          fitting = b.fitting;
          reaches = f.body_reach v body.known body.no_input;
          point = record {
            padded = rw dims at at.rest;
            near = rw point-is (near-each top_reach point (λ j. in_box-small box point j h.box_read in-box));
            low = omega arith;
            high = omega arith;
          };
        }

    pub body-way : (r : Stood) → StandsAt bs place z r → r.how ≡ standing (variable (sheet_of bs) v).body (sheet_of bs) point
    body-way r t =
        let b = f.placed.body v body.known body.no_input in
        (t (variable (sheet_of bs) v).body (variable (sheet_of bs) v).end (length box) (rw starts b.at) b.fitting).1
        ∙ ap (standing (variable (sheet_of bs) v).body (sheet_of bs)) point-is
