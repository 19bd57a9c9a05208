-- `run::start_variable` meets its contract. The loop's invariant: the entries of the variable's first i elements are those before the run.
-- Assumes nothing.
use mathlib.Core.Path.{◌≡◌, sym, ap, ◌∙◌, subst}
use Prim.Native.Nat.{suc, ◌+◌, ◌≤◌, ◌<◌}
use native.Mathlib.Omega.{arith}
use mathlib.Core.Bool.{true}
use lib.ListN.{length}
use Rattle.alpha.specs.Box.{size}
use Rattle.alpha.specs.Holds.{variable, is_input, is_input_kind}
use Rattle.alpha.specs.Ask.{before}
use Rattle.laws.specs.Sheets.{sheet_of}
use Rattle.laws.proofs.Elements.{before-suc}
use Rattle.domain.proofs.Records.{VariableLaid, laid-variable, laid-total}
use Rattle.run.specs.Starting.{Started}
use Rattle.run.proofs.Listing.{kind-test, size-input, before-step, before-count, count-total}
use Rattle.run.proofs.Beginning.{started-next}
use Rattle.run.proofs.start.start_variable.Goals.{After-first_element-first, After-eq-input, After-loop-i, In-loop-i, Start}
use Rattle.run.proofs.start.start_variable.Goals as goal

-- the variable
laid : (c : Start) → VariableLaid c.args.ground.now.sheet.now c.args.ground.now.table.now c.args.v
laid c = laid-variable _ _ c.requires.0.formed.placed _ c.requires.1.known

-- whether it is an input
input-is : (c : After-eq-input) →
    (laid : VariableLaid c.args.ground.now.sheet.now c.args.ground.now.table.now c.args.v) →
    is_input (variable (sheet_of c.args.ground.now.sheet.now) c.args.v)
    ≡ c.eq-input.result
input-is c laid =
    ap (λ h. is_input_kind h.kind) laid.head_is ∙ ap is_input_kind c.kind_of.ensures ∙ kind-test _ _ c.eq-input.ensures

-- its first element
first_is : (c : After-first_element-first) →
    (laid : VariableLaid c.args.ground.now.sheet.now c.args.ground.now.table.now c.args.v) →
    c.first_element-first.result ≡ before (sheet_of c.args.ground.now.sheet.now) c.args.v
first_is c laid =
    c.first_element-first.ensures ∙ laid.first_is

-- the next is one of its elements
many : (c : In-loop-i) →
    (laid : VariableLaid c.args.ground.now.sheet.now c.args.ground.now.table.now c.args.v) →
    (first_is : c.first_element-first.result ≡ before (sheet_of c.args.ground.now.sheet.now) c.args.v) →
    c.loop-i.i < size (variable (sheet_of c.args.ground.now.sheet.now) c.args.v).head.box
many c laid first_is =
    let l = laid in
    omega (arith, c.loop-i-test.true, first_is, l.last-is, c.first_element.ensures)

-- an input's element has an entry
listed : (c : In-loop-i) →
    (laid : VariableLaid c.args.ground.now.sheet.now c.args.ground.now.table.now c.args.v) →
    (first_is : c.first_element-first.result ≡ before (sheet_of c.args.ground.now.sheet.now) c.args.v) →
    is_input (variable (sheet_of c.args.ground.now.sheet.now) c.args.v) ≡ true →
    c.inputs_before-from.result + c.loop-i.i < length c.args.ins.now
listed c laid first_is t =
    let sheet = sheet_of c.args.ground.now.sheet.now in
    omega (
      arith,
      c.inputs_before-from.ensures,
      before-step sheet c.args.v laid.known,
      before-count sheet (suc c.args.v),
      size-input sheet c.args.v t,
      many c laid first_is,
      c.requires.0.many,
    )

-- the list is short
short : (c : Start) → length c.args.ins.now ≤ 4096
short c =
    omega (arith, c.requires.0.many, count-total (sheet_of c.args.ground.now.sheet.now), laid-total _ _ c.requires.0.formed.placed)

-- after its last element
whole : (c : After-loop-i) →
    (laid : VariableLaid c.args.ground.now.sheet.now c.args.ground.now.table.now c.args.v) →
    (first_is : c.first_element-first.result ≡ before (sheet_of c.args.ground.now.sheet.now) c.args.v) →
    before (sheet_of c.args.ground.now.sheet.now) c.args.v + c.loop-i.i ≡ before (sheet_of c.args.ground.now.sheet.now) (c.args.v + 1)
whole c laid first_is =
    let sheet = sheet_of c.args.ground.now.sheet.now in
    let l = laid in
    let one : c.args.v + 1 ≡ suc c.args.v = omega arith in
    let all = c.loop-i.auto.i-end in
    rw one (omega (
      arith,
      before-suc sheet c.args.v l.known,
      c.loop-i-test.false,
      all,
      first_is,
      l.last-is,
      c.first_element.ensures,
    ))

pub first_element-first-requires : goal.first_element-first-requires
first_element-first-requires c = omega (arith, (laid (goal.at.first_element-first-requires c).Start).low)

pub overflow_add-v : goal.overflow_add-v
overflow_add-v c = omega (arith, (laid (goal.at.overflow_add-v c).Start).low)

pub first_element-requires : goal.first_element-requires
first_element-requires c = omega (arith, (laid (goal.at.first_element-requires c).Start).low)

pub overflow_sub-size : goal.overflow_sub-size
overflow_sub-size c =
    let l = laid (goal.at.overflow_sub-size c).Start in omega (arith, l.first_is, l.last-is, c.first_element.ensures, c.first_element-first.ensures)

pub overflow_add-from : goal.overflow_add-from
overflow_add-from c =
    let way = goal.at.overflow_add-from c in
    let l = laid way.Start in
    let first = first_is way.After-first_element-first l in
    let n = c.inputs_before-from.ensures in
    omega (arith, n, before-count (sheet_of c.args.ground.now.sheet.now) c.args.v, c.requires.0.many, many way.In-loop-i l first, l.few, short way.Start)

pub start_element-requires : goal.start_element-requires
start_element-requires c =
    let way = goal.at.start_element-requires c in
    let l = laid way.Start in
    let first = first_is way.After-first_element-first l in
    (omega (arith, first, many way.In-loop-i l first, l.few), λ t. listed way.In-loop-i l first (input-is way.After-eq-input l ∙ t))

pub loop-i-preserved : goal.loop-i-preserved
loop-i-preserved c =
    let way = goal.at.loop-i-preserved c in
    let l = laid way.Start in
    let first = first_is way.After-first_element-first l in
    let from = c.inputs_before-from.ensures in
    let inside = c.args.ground.now.grounds.inside_is in
    let input = sym (input-is way.After-eq-input l) in
    let next = started-next _ _ _ _ l (many way.In-loop-i l first) _ inside _ _ c.loop-i.invariant _ input in
    rw (c.start_element.ensures, first, from) next

pub returns : goal.returns
returns c =
    let way = goal.at.returns c in
    let l = laid way.Start in
    let first = first_is way.After-first_element-first l in
    let sheet = sheet_of c.args.ground.now.sheet.now in
    let done : before sheet c.args.v + c.loop-i.i ≡ before sheet (c.args.v + 1) = whole way.After-loop-i l first in
    subst (Started _ _ _) done c.loop-i.invariant
