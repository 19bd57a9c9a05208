-- SHAPE, TYPE and REACH one after another: where the walk over all variables starts, what it leaves, and the answer for each way through
-- the three. Assumes nothing.
use Rattle.std.specs.Prelude.{Some, None, Result, Ok, Err}
use mathlib.Core.Path.{◌≡◌, refl, sym, ap, ◌∙◌}
use Prim.Native.Nat.{ℕ, ◌+◌, ◌≤◌, ◌<◌}
use native.Mathlib.Omega.{arith}
use mathlib.Core.List.{List}
use lib.ListN.{length, get_or, set}
use Rattle.alpha.specs.Answer.{Answer, accepted, refused, next, TYPE, REACH}
use Rattle.alpha.specs.Sheet.{Sheet}
use Rattle.alpha.specs.Shape.{bodies}
use Rattle.alpha.specs.Check.{first, typed, reached}
use Rattle.alpha.specs.Holds.{variable}
use Rattle.alpha.specs.Verdict.{told}
use Rattle.alpha.specs.declared.Refusal.{Refusal}
use Rattle.alpha.specs.declared.Refusal.TheVariants.{Shape}
use Rattle.laws.specs.Sheets.{raw_of, heads_of, vars_of, shaped_of, sheet_of}
use Rattle.laws.proofs.Checked.{each-passes}
use Rattle.tree.specs.declared.Rest.{Rest}
use Rattle.tree.specs.Prepared.{Prepared}
use Rattle.tree.specs.Judged.{Flat}
use Rattle.tree.specs.Ruled.{body_shape, body_at, shapes_from, only, forms_of}
use Rattle.tree.specs.Formed.{ShapesFrom, BodiesPlaced, ShapesAll, Formed, Forms}
use Rattle.sheet.specs.Table.{with_body}
use Rattle.tree.proofs.Heading.{prepared-sections}
use Rattle.tree.proofs.Placing.{prepared-kept, stored-prepared}
use Rattle.tree.proofs.Bodying.{ends-well, ends-left, ends-bad, goes_on, all_placed}
use Rattle.tree.proofs.Passing.{body-reaches}
use Rattle.sheet.specs.declared.table.Table.{Table}

-- ---- SHAPE over all variables

-- as far as variable v: what the variables from there on answer, of the nodes that are left, is what all of them answer
pub record ShapesLeft (bs : List ℕ) (tab : Table) (from : Rest) (v : ℕ) (tab' : Table) (rest : Rest) : Type 0 where
  pub prepared : Prepared bs tab'
  pub flat : Flat bs rest.next rest.left
  pub decides : (tab'' : Table) (r : Result (Unit {0}) Refusal) → ShapesFrom bs v rest tab' tab'' r → ShapesFrom bs 0 from tab tab'' r

module _ (bs : List ℕ) (tab : Table) (from : Rest) (v : ℕ) (tab' : Table) (rest : Rest) (h : ShapesLeft bs tab from v tab' rest) where
  sized : length tab'.bodies ≡ 33
  sized = h.prepared.table.sized

  -- the places of the bodies are at most 33
  places : v ≤ vars_of bs → v ≤ 32
  places known = omega (arith, (prepared-sections bs tab' h.prepared).few)

  pub kept-prepared : v ≤ vars_of bs → Prepared bs (with_body tab' v rest.next)
  kept-prepared known = stored-prepared tab' v rest.next bs h.prepared

  pub shapes-bad : v < vars_of bs → None ≡ body_shape (body_at bs v rest) → ShapesFrom bs 0 from tab (with_body tab' v rest.next) (Err (Shape v))
  shapes-bad known bad = h.decides _ _ (ends-bad bs tab' v rest sized (places (omega arith)) known bad)

  pub shapes-go : v < vars_of bs → (after : Rest) → Some after ≡ body_shape (body_at bs v rest) → Flat bs after.next after.left →
      ShapesLeft bs tab from (v + 1) (with_body tab' v rest.next) after
  shapes-go known after is flat = record {
    prepared = kept-prepared (omega arith);
    flat = flat;
    decides = λ t r a. h.decides t r (goes_on bs tab' v rest sized (places (omega arith)) known after is t r a);
  }

  pub shapes-end : v ≡ vars_of bs → rest.left ≡ 0 → ShapesFrom bs 0 from tab (with_body tab' v rest.next) (Ok tt)
  shapes-end all none = h.decides _ _ (ends-well bs tab' v rest sized (places (omega arith)) (omega arith) none)

  pub shapes-over : v ≡ vars_of bs → 1 ≤ rest.left → ShapesFrom bs 0 from tab (with_body tab' v rest.next) (Err (Shape v))
  shapes-over all some = h.decides _ _ (ends-left bs tab' v rest sized (places (omega arith)) (omega arith) some)

module _ (bs : List ℕ) (tab : Table) (h : Prepared bs tab) (from : Rest) (first_is : from.next ≡ tab.third + 8) (nodes_are : from.left ≡ tab.nodes) where
  place : from.next ≡ (raw_of bs).first
  place = first_is ∙ ap (λ x. x + 8) h.table.third ∙ sym h.table.first_node

  count : from.left ≡ (raw_of bs).nodes
  count = nodes_are ∙ h.table.nodes

  -- all the nodes stand from the first on
  pub all_left : ShapesLeft bs tab from 0 tab from
  all_left =
      let s = prepared-sections bs tab h in
      record {
        prepared = h;
        flat = rw (place, count) (record { nodes = s.listed; many = s.listed_count; stand = s.nodes_stand });
        decides = λ t r a. a;
      }

  whole : shapes_from bs 0 from ≡ shaped_of bs
  whole =
      ap (λ x. bodies (raw_of bs) bs (heads_of bs) 0 x from.left) place
      ∙ ap (bodies (raw_of bs) bs (heads_of bs) 0 (raw_of bs).first) count

  pub all-shaped : (tab' : Table) (r : Result (Unit {0}) Refusal) → ShapesFrom bs 0 from tab tab' r → ShapesAll bs tab' r
  all-shaped tab' r w = record { answer = w.answer ∙ ap only whole; placed = λ e. go (shaped_of bs) refl (sym (w.answer ∙ ap only whole) ∙ ap told e) }
    where
      go : (a : Answer Sheet) → shaped_of bs ≡ a → only (shaped_of bs) ≡ accepted tt → BodiesPlaced bs tab'
      go (accepted s) e f =
          all_placed bs tab' (prepared-kept bs tab tab' h w.same) s e (rw place at (w.places s (whole ∙ e)))
      go (refused n q) e f = let x : only (shaped_of bs) ≡ refused n q = ap only e in absurd cc

-- ---- one after another

module _ (bs : List ℕ) (tab : Table) (a : Result (Unit {0}) Refusal) (sh : ShapesAll bs tab a) where
  module _ (pass : a ≡ (Ok tt)) where
    pub placed : BodiesPlaced bs tab
    placed = sh.placed pass

    after-shape : forms_of bs ≡ next (first TYPE (typed (heads_of bs)) 0 (sheet_of bs)) (λ _. first REACH reached 0 (sheet_of bs))
    after-shape = ap (λ (x : Answer Sheet). next x (λ s. next (first TYPE (typed (heads_of bs)) 0 s) (λ _. first REACH reached 0 s))) placed.shaped

    module _ (b : Result (Unit {0}) Refusal) (types : told b ≡ first TYPE (typed (heads_of bs)) 0 (sheet_of bs)) where
      pub forms-rest : b ≡ Ok tt → (r : Result (Unit {0}) Refusal) → told r ≡ first REACH reached 0 (sheet_of bs) → Forms bs tab r
      forms-rest fine r reaches =
          let x : first TYPE (typed (heads_of bs)) 0 (sheet_of bs) ≡ accepted tt = sym types ∙ ap told fine in
          record {
            answer = reaches ∙ sym (after-shape ∙ ap (λ (y : Answer (Unit {0})). next y (λ _. first REACH reached 0 (sheet_of bs))) x);
            formed = λ e. formed x (sym reaches ∙ ap told e);
          }
        where
          formed : first TYPE (typed (heads_of bs)) 0 (sheet_of bs) ≡ accepted tt → first REACH reached 0 (sheet_of bs) ≡ accepted tt → Formed bs tab
          formed x y =
              let typing = each-passes TYPE (typed (heads_of bs)) 0 (sheet_of bs) x in
              let reaching = each-passes REACH reached 0 (sheet_of bs) y in
              let n = placed.many in
              record {
                placed = placed;
                types = x;
                reaches = y;
                typing = λ v lt. typing v (omega arith);
                reaching = λ v lt. reaching v (omega arith);
                body_reach = λ v lt i. body-reaches (variable (sheet_of bs) v) i (reaching v (omega arith));
              }
