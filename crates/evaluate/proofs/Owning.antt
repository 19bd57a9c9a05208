-- The variable of an element, and its point, found by the table of places. Assumes nothing.
use mathlib.Core.Path.{◌≡◌, ap, ◌∙◌, subst}
use Prim.Native.Nat.{ℕ, suc, ◌+◌, ◌-◌, ◌≤◌, ◌<◌}
use native.Mathlib.Omega.{arith}
use mathlib.Core.List.{List}
use lib.ListN.{length, get_or}
use lib.IntN.{ℤ}
use Rattle.alpha.specs.Box.{size}
use Rattle.alpha.specs.Holds.{variable}
use Rattle.alpha.specs.Check.{total}
use Rattle.alpha.specs.Ask.{before}
use Rattle.laws.specs.Sheets.{vars_of, sheet_of}
use Rattle.laws.proofs.Boxes.{index-point_at}
use Rattle.laws.proofs.Elements.{before-suc, before-all}
use Rattle.affine.specs.Value.{Padded}
use Rattle.points.specs.Number.{PointAt}
use Rattle.tree.specs.Formed.{Formed}
use Rattle.domain.proofs.Records.{VariableLaid, laid-variable, laid-length}
use Rattle.domain.proofs.Bodying.{point_at_lem, point-inside}
use Rattle.evaluate.specs.Working.{ElementIs}
use Rattle.evaluate.specs.Settling.{Owns}
use Rattle.evaluate.proofs.Operands.{some-variable}
use Rattle.sheet.specs.declared.table.Table.{Table}

-- the variables up to v start at or before element e
pub record Reached (bs : List ℕ) (tab : Table) (e v : ℕ) : Type 0 where
  pub known : v < vars_of bs
  pub from : get_or tab.firsts v 0 ≤ e

module _ (bs : List ℕ) (tab : Table) (F : Formed bs tab) (e : ℕ) where
  laid : (v : ℕ) → v < vars_of bs → VariableLaid bs tab v
  laid v lt = laid-variable bs tab F.placed v lt

  pub reached-first : Reached bs tab e 0
  reached-first = let some = some-variable bs tab F in record { known = some; from = omega (arith, (laid 0 some).first_is) }

  pub reached-next : (v : ℕ) → v + 1 < vars_of bs → get_or tab.firsts (v + 1) 0 ≤ e → Reached bs tab e (v + 1)
  reached-next v lt next = record { known = lt; from = next }

  -- the last variable has what no variable before it has
  pub reached-last : e < total (sheet_of bs) → (v : ℕ) → v + 1 ≡ vars_of bs → e < get_or tab.firsts (v + 1) 0
  reached-last low v is =
      let l = laid v (omega (arith, is)) in
      let same = laid-length bs tab F.placed in
      let all : suc v ≡ length (sheet_of bs) = omega (arith, is, same) in
      let last : before (sheet_of bs) (suc v) ≡ total (sheet_of bs) = ap (before (sheet_of bs)) all ∙ before-all (sheet_of bs) in
      omega (arith, last, before-suc (sheet_of bs) v l.known, l.last-is)

  pub reached-owns : (v : ℕ) → Reached bs tab e v → e < get_or tab.firsts (v + 1) 0 → Owns bs tab e v
  reached-owns v r next = record { known = r.known; from = r.from; below_next = next }

  module _ (v : ℕ) (O : Owns bs tab e v) where
    owned : VariableLaid bs tab v
    owned = laid v O.known

    pub owned-low : v < 32
    owned-low = owned.low

    -- its place among its variable's
    abbrev place : ℕ
    place = e - get_or tab.firsts v 0

    pub place-low : place < size (variable (sheet_of bs) v).head.box
    place-low = omega (arith, owned.last-is, owned.first_is, O.from, O.below_next)

    pub owned-element : (z : List ℤ) → PointAt bs (get_or tab.records v 0) place z → ElementIs bs v e z
    owned-element z at = record {
      known = O.known;
      in-box = point-inside bs tab v place owned place-low z at;
      number =
          let i = index-point_at (variable (sheet_of bs) v).head.box place place-low in
          rw (point_at_lem bs tab v place owned place-low z at) (omega (arith, i, owned.first_is, O.from));
      rest = subst (λ n. Padded n z) owned.dims-are at.rest;
    }
