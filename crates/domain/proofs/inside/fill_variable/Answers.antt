-- `domain::fill_variable` meets its contract. The loop's invariant: the table is filled for the variables before v and for v's first i
-- elements. Assumes nothing.
use mathlib.Core.Path.{◌≡◌, refl, ap, ◌∙◌}
use mathlib.Core.Bool.{not}
use Prim.Native.Nat.{◌+◌, ◌<◌}
use native.Mathlib.Omega.{arith}
use lib.Dec.{ltb}
use lib.IntN.{nat_abs}
use Rattle.alpha.specs.Box as Box
use Rattle.alpha.specs.Field.{field}
use Rattle.alpha.specs.Holds.{variable}
use Rattle.laws.specs.Sheets.{raw_of, sheet_of}
use Rattle.tree.proofs.Declaring.{section-there}
use Rattle.domain.proofs.Records.{VariableLaid, laid-variable}
use Rattle.domain.proofs.Filled.{none-declared, fill_one, fill-all}
use Rattle.domain.proofs.inside.fill_variable.Goals.{After-second_place, In-loop-i, Start, then-not-declares, else-not-declares}
use Rattle.domain.proofs.inside.fill_variable.Goals as goal

-- the variable
laid : (c : Start) → VariableLaid c.args.s.now c.args.tab.now c.args.v
laid c = laid-variable _ _ c.requires.0.placed _ c.requires.1.known

-- the element is one of its elements
low : (c : In-loop-i) → VariableLaid c.args.s.now c.args.tab.now c.args.v →
    c.loop-i.i < Box.size (variable (sheet_of c.args.s.now) c.args.v).head.box
low c l = omega (arith, l.first_is, l.last-is, c.first_element-first.ensures, c.first_element.ensures, c.loop-i-test.true)

-- and its number is below 4096
number-low : (c : In-loop-i) → VariableLaid c.args.s.now c.args.tab.now c.args.v → c.first_element-first.result + c.loop-i.i < 4096
number-low c l = omega (arith, l.first_is, c.first_element-first.ensures, low c l, l.few)

-- the second section's place, where its count is
second_is : (c : After-second_place) → c.second_place.result ≡ (raw_of c.args.s.now).second
second_is c = c.second_place.ensures ∙ c.requires.0.placed.prepared.table.second

pub first_element-first-requires : goal.first_element-first-requires
first_element-first-requires c = omega (arith, (laid (goal.at.first_element-first-requires c).Start).low)

pub natural-declares-requires : goal.natural-declares-requires
natural-declares-requires c =
    omega (arith, section-there _ _ c.requires.0.placed.prepared, second_is (goal.at.natural-declares-requires c).After-second_place)

pub first_element-requires : goal.first_element-requires
first_element-requires c = omega (arith, (laid (goal.at.first_element-requires c).Start).low)

pub overflow_sub-i-end : goal.overflow_sub-i-end
overflow_sub-i-end c =
    let l = laid (goal.at.overflow_sub-i-end c).Start in
    omega (arith, l.first_is, l.last-is, c.first_element-first.ensures, c.first_element.ensures)

pub element_inside-requires : goal.element_inside-requires
element_inside-requires c =
    let way = goal.at.element_inside-requires c in
    (c.requires.0, record { known = c.requires.1.known; low = low way.In-loop-i (laid way.Start) })

pub bounds-inside-first : goal.bounds-inside-first
bounds-inside-first c =
    let way = goal.at.bounds-inside-first c in number-low way.In-loop-i (laid way.Start)

pub loop-i-preserved : goal.loop-i-preserved
loop-i-preserved c =
    let way = goal.at.loop-i-preserved c in
    let l = laid way.Start in
    let number = ap (λ n. n + c.loop-i.i) (c.first_element-first.ensures ∙ l.first_is) in
    let count = c.natural-declares.ensures ∙ ap (λ p. nat_abs (field c.args.s.now p)) (second_is way.After-second_place) in
    fill_one _ _ _ _ _ _ _ l.known c.loop-i.invariant number (number-low way.In-loop-i l)
    (elim c.if-not-declares.branch [
      | then-not-declares w ↦
          let none : c.natural-declares.result ≡ 0 = omega (arith, w.if-not-declares.true) in
          w.inside-is ∙ ap (λ n. not (ltb 0 n)) none ∙ none-declared _ _ c.requires.0 _ c.requires.1.known (omega (arith, count, none)) _
      | else-not-declares w ↦ w.inside-is ∙ w.element_inside.ensures
    ]) refl

pub returns : goal.returns
returns c =
    let l = laid (goal.at.returns c).Start in
    fill-all _ _ _ _ (omega (arith, l.first_is, l.last-is, c.first_element-first.ensures, c.first_element.ensures, c.loop-i-test.false))
    c.loop-i.invariant
