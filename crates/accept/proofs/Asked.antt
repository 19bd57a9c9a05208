-- The element number, by each way through: no such variable, another dimension, a point off the box, a point of it. Assumes nothing.
use Rattle.std.specs.Prelude.{Result, Err, Option, Some, None}
use Rattle.std.specs.Option.{ok_or}
use mathlib.Core.Path.{◌≡◌, refl, sym, ap, ◌∙◌}
use Prim.Native.Nat.{ℕ, ◌+◌, ◌≤◌, ◌<◌}
use native.Mathlib.Omega.{arith}
use mathlib.Core.Bool.{Bool, true, false}
use mathlib.Core.List.{List, [], ◌∷◌, ◌++◌}
use lib.ListN.{length, get_or}
use lib.IntN.{ℤ}
use lib.Dec.{ltb}
use borrow.Author.Tests.{lt-ltb, le-ltb}
use Rattle.alpha.specs.Pick.{ifb}
use Rattle.alpha.specs.Answer.{Answer, accepted, refused, next, ASK}
use Rattle.alpha.specs.Sheet.{Sheet, Point, Range}
use Rattle.alpha.specs.Box.{in_box, index}
use Rattle.alpha.specs.Holds.{variable}
use Rattle.alpha.specs.Check.{check, total}
use Rattle.alpha.specs.Ask.{asks, before, element_number, numbered}
use Rattle.alpha.specs.Promise.{total_of}
use Rattle.alpha.specs.Verdict.{told, place_of}
use Rattle.alpha.specs.Verdict as Verdicts
use Rattle.alpha.specs.declared.Refusal.{Refusal}
use Rattle.alpha.specs.declared.Refusal.TheVariants.{Ask}
use Rattle.accept.specs.Shown.{asked}
use Rattle.affine.specs.Value.{point_of}
use Rattle.alpha.specs.Read.{dimension}
use Rattle.laws.specs.Sheets.{heads_of, vars_of, sheet_of}
use Rattle.laws.proofs.Boxes.{in_box-length, index-low}
use Rattle.sheet.specs.declared.table.Table.{Table}
use Rattle.sheet.specs.Record.{dimension_at}
use Rattle.tree.specs.Formed.{Formed}
use Rattle.domain.proofs.Records.{VariableLaid, laid-variable}
use Rattle.points.specs.Number.{box_of, number_in}

-- ---- the array of the coordinates

-- the coordinates with others after them
pub front-coordinates : (point rest : List ℤ) → point_of (length point) (point ++ rest) ≡ point
front-coordinates [] rest = refl
front-coordinates (x ∷ xs) rest = ap (λ t. x ∷ t) (front-coordinates xs rest)

-- ---- the four ways

refuses : (s : Sheet) (v : ℕ) (z : Point) → asks s v z ≡ false → refused ASK 0 ≡ numbered s v z
refuses s v z e = rw e refl

no-box : (t : Bool) (s : Sheet) (v : ℕ) (z : Point) → in_box (variable s v).head.box z ≡ false → ltb v (length s) ≡ t → asks s v z ≡ false
no-box true s v z e l = rw (l, e) refl
no-box false s v z e l = rw l refl

pub unknown-asked : (s : Sheet) (v : ℕ) (z : Point) → length s ≤ v → refused ASK 0 ≡ numbered s v z
unknown-asked s v z h = refuses s v z (rw (le-ltb v (length s) h) refl)

pub other-asked : (s : Sheet) (v : ℕ) (z : Point) → (length z ≡ length (variable s v).head.box → ⊥) → refused ASK 0 ≡ numbered s v z
other-asked s v z n = refuses s v z (no-box (ltb v (length s)) s v z (go (in_box (variable s v).head.box z) refl) refl)
  where
    go : (b : Bool) → in_box (variable s v).head.box z ≡ b → in_box (variable s v).head.box z ≡ false
    go true e = absurd (n (in_box-length (variable s v).head.box z e))
    go false e = e

pub off-asked : (s : Sheet) (v : ℕ) (z : Point) → None ≡ number_in (variable s v).head.box z → refused ASK 0 ≡ numbered s v z
off-asked s v z o = refuses s v z (no-box (ltb v (length s)) s v z (go (in_box (variable s v).head.box z) refl o) refl)
  where
    go : (b : Bool) → in_box (variable s v).head.box z ≡ b → None ≡ ifb b (λ _. Some (index (variable s v).head.box z)) (λ _. None) →
        in_box (variable s v).head.box z ≡ false
    go true e q = absurd (let w : ◌≡◌ {A = ℕ} 0 1 = cc in omega arith)
    go false e q = e

pub found-asked : (s : Sheet) (v : ℕ) (z : Point) (i n : ℕ) → v < length s → Some i ≡ number_in (variable s v).head.box z → n ≡ before s v + i →
    accepted n ≡ numbered s v z
found-asked s v z i n lt a e = go (in_box (variable s v).head.box z) refl a
  where
    go : (b : Bool) → in_box (variable s v).head.box z ≡ b → Some i ≡ ifb b (λ _. Some (index (variable s v).head.box z)) (λ _. None) →
        accepted n ≡ numbered s v z
    go true b q =
        let is : i ≡ index (variable s v).head.box z = cc in
        rw (lt-ltb v (length s) lt, b) (ap accepted (e ∙ ap (λ k. before s v + k) is))
    go false b q = absurd (let w : ◌≡◌ {A = ℕ} 0 1 = cc in omega arith)

-- ---- a number of none is ASK

pub asked-told : (r : Result ℕ Refusal) (o : Option ℕ) → r ≡ ok_or o Ask → told r ≡ asked o
asked-told r (Some n) e = ap told e
asked-told r None e = ap told e

-- ---- the sheet is refused, or accepted

pub refused-number : (bs : List ℕ) (v : ℕ) (z : Point) (r : Result ℕ Refusal) (k : Refusal) → r ≡ Err k → told r ≡ total_of (check bs) →
    told r ≡ element_number bs v z
unfolding element_number
refused-number bs v z r k e a = ap told e ∙ go (check bs) (sym (ap told e) ∙ a)
  where
    go : (c : Answer Sheet) → refused (Verdicts.number_of k) (place_of k) ≡ total_of c →
        refused (Verdicts.number_of k) (place_of k) ≡ next c (λ s. numbered s v z)
    go (accepted s) h = absurd (let w : ◌≡◌ {A = ℕ} 0 1 = cc in omega arith)
    go (refused n p) h = h

-- for the search, by the sheet alone: where it is not accepted, the answer is its refusal
pub refused_element : (bs : List ℕ) (v : ℕ) (z : Point) → ((n : ℕ) → total_of (check bs) ≡ accepted n → ⊥) →
    element_number bs v z ≡ total_of (check bs)
unfolding element_number
refused_element bs v z none = go (check bs) none
  where
    go : (c : Answer Sheet) → ((n : ℕ) → total_of c ≡ accepted n → ⊥) → next c (λ s. numbered s v z) ≡ total_of c
    go (accepted s) h = absurd (h (total s) refl)
    go (refused n p) h = refl

pub accepted-number : (bs : List ℕ) (s : Sheet) (v : ℕ) (z : Point) → check bs ≡ accepted s → element_number bs v z ≡ numbered s v z
unfolding element_number
accepted-number bs s v z e = ap (λ (c : Answer Sheet). next c (λ t. numbered t v z)) e

-- and where it is, the number that it has there
pub accepted_element : (bs : List ℕ) (v : ℕ) (z : Point) → check bs ≡ accepted (sheet_of bs) → element_number bs v z ≡ numbered (sheet_of bs) v z
accepted_element bs v z e = accepted-number bs (sheet_of bs) v z e

-- what the code's index of the coordinates says of the point
module _ (bs : List ℕ) (tab : Table) (f : Formed bs tab) (v : ℕ) (lt : v < vars_of bs) where
  laid : VariableLaid bs tab v
  laid = laid-variable bs tab f.placed v lt

  pub index_is : (place : ℕ) (z : List ℤ) (point : Point) → place ≡ get_or tab.records v 0 → length point ≡ dimension (heads_of bs) v →
      point_of (length point) z ≡ point →
      number_in (box_of bs place) (point_of (dimension_at bs place) z) ≡ number_in (variable (sheet_of bs) v).head.box point
  index_is place z point p d e =
      ap (λ q. number_in (box_of bs q) (point_of (dimension_at bs q) z)) p
      ∙ ap (λ b. number_in b (point_of (dimension_at bs (get_or tab.records v 0)) z)) laid.box-is
      ∙ ap (λ n. number_in (variable (sheet_of bs) v).head.box (point_of n z)) (laid.dims-are ∙ sym d)
      ∙ ap (number_in (variable (sheet_of bs) v).head.box) e

  -- a number in the box is below 4,096
  pub found-low : (i : ℕ) (point : Point) → Some i ≡ number_in (variable (sheet_of bs) v).head.box point → before (sheet_of bs) v + i < 4096
  found-low i point a = go (in_box (variable (sheet_of bs) v).head.box point) refl a
    where
      box : List Range
      box = (variable (sheet_of bs) v).head.box

      go : (b : Bool) → in_box box point ≡ b → Some i ≡ ifb b (λ _. Some (index box point)) (λ _. None) → before (sheet_of bs) v + i < 4096
      go true e q = let is : i ≡ index box point = cc in omega (arith, is, index-low box point e, laid.few)
      go false e q = absurd (let w : ◌≡◌ {A = ℕ} 0 1 = cc in omega arith)
