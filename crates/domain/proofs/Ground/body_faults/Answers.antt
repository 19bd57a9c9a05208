-- `domain::Ground::body_faults` meets its contract. The loop's invariant: the elements from the i-th on decide. Assumes nothing.
use mathlib.Core.Path.{ap, ◌∙◌}
use Prim.Native.Nat.{◌+◌, ◌<◌}
use native.Mathlib.Omega.{arith}
use Rattle.std.proofs.lemmas.Result.{err_from_is_err_and}
use Rattle.alpha.specs.Box as Box
use Rattle.alpha.specs.Holds.{variable}
use Rattle.laws.specs.Sheets.{sheet_of}
use Rattle.domain.specs.Element.{fault_of}
use Rattle.domain.proofs.Records.{VariableLaid, laid-variable}
use Rattle.domain.proofs.Checking.{body_end, body-fails, body-passes}
use Rattle.domain.proofs.Ground.body_faults.Goals.{After-first_element, In-loop-i, Start}
use Rattle.domain.proofs.Ground.body_faults.Goals as goal

-- the variable
laid : (c : Start) → VariableLaid c.args.self.now.sheet.now c.args.self.now.table.now c.args.v
laid c = laid-variable _ _ c.requires.0.placed _ c.requires.1.known

-- the element is one of the variable's
low : (c : In-loop-i) → VariableLaid c.args.self.now.sheet.now c.args.self.now.table.now c.args.v →
    c.loop-i.i < Box.size (variable (sheet_of c.args.self.now.sheet.now) c.args.v).head.box
low c l = omega (arith, l.first_is, l.last-is, c.first_element-first.ensures, c.first_element.ensures, c.loop-i-test.true)

pub overflow_sub-i-end : goal.overflow_sub-i-end
overflow_sub-i-end c =
    let l = laid (goal.at.overflow_sub-i-end c).Start in
    omega (arith, l.first_is, l.last-is, c.first_element-first.ensures, c.first_element.ensures)

pub body_stands-requires : goal.body_stands-requires
body_stands-requires c =
    let way = goal.at.body_stands-requires c in
    (c.requires.0, record { has_body = c.requires.1; low = low way.In-loop-i (laid way.Start) })

pub returns-in_err-fault : goal.returns-in_err-fault
returns-in_err-fault c =
    let way = goal.at.returns-in_err-fault c in
    let l = laid way.Start in
    let number = ap (λ n. fault_of c.body_stands.result (n + c.loop-i.i)) (c.first_element-first.ensures ∙ l.first_is) in
    let p = err_from_is_err_and c.from_residual.result c.from_residual.ensures.1 in
    rw (p.1, p.2)
    (body-fails _ _ _ c.loop-i.invariant (low way.In-loop-i l) c.requires.1.no_input _ c.body_stands.ensures _ _ (c.in_err-fault.ensures ∙ number))

pub loop-i-preserved : goal.loop-i-preserved
loop-i-preserved c =
    let way = goal.at.loop-i-preserved c in
    let l = laid way.Start in
    let number = ap (λ n. fault_of c.body_stands.result (n + c.loop-i.i)) (c.first_element-first.ensures ∙ l.first_is) in
    body-passes _ _ _ c.loop-i.invariant (low way.In-loop-i l) c.requires.1.no_input _ c.body_stands.ensures (c.in_ok-fault.ensures ∙ number)

pub returns : goal.returns
returns c =
    let l = laid (goal.at.returns c).Start in
    body_end _ _ _ c.loop-i.invariant
    (omega (arith, l.first_is, l.last-is, c.first_element-first.ensures, c.first_element.ensures, c.loop-i-test.false))
