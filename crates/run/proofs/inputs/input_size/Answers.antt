-- `run::input_size` meets its contract. Assumes nothing.
use Rattle.std.proofs.Common.{rules}
use mathlib.Core.Path.{◌≡◌, ap, ◌∙◌}
use native.Mathlib.Omega.{arith}
use Rattle.alpha.specs.Holds.{variable, is_input, is_input_kind}
use Rattle.laws.specs.Sheets.{sheet_of}
use Rattle.domain.proofs.Records.{VariableLaid, laid-variable}
use Rattle.tree.proofs.Passing.{input-is as input-kind}
use Rattle.run.proofs.Listing.{size-input}
use Rattle.alpha.specs.Kinds.{kind_meant}
use Rattle.run.proofs.inputs.input_size.Goals.{After-kind_of, Start}
use Rattle.run.proofs.inputs.input_size.Goals as goal

-- the variable
laid : (c : Start) → VariableLaid c.args.ground.now.sheet.now c.args.ground.now.table.now c.args.v
laid c = laid-variable _ _ c.requires.0.placed _ c.requires.1

-- whether it is an input, by its kind's number
input-is : (c : After-kind_of) →
    (laid : VariableLaid c.args.ground.now.sheet.now c.args.ground.now.table.now c.args.v) →
    is_input (variable (sheet_of c.args.ground.now.sheet.now) c.args.v)
    ≡ is_input_kind (kind_meant c.kind_of.result)
input-is c laid =
    ap (λ h. is_input_kind h.kind) laid.head_is ∙ ap is_input_kind c.kind_of.ensures

pub first_element-requires : goal.first_element-requires
first_element-requires c = omega (arith, (laid (goal.at.first_element-requires c).Start).low)

pub first_element-requires-then-eq : goal.first_element-requires-then-eq
first_element-requires-then-eq c =
    omega (arith, (laid (goal.at.first_element-requires-then-eq c).Start).low)

pub overflow_sub-result : goal.overflow_sub-result
overflow_sub-result c =
    let l = laid (goal.at.overflow_sub-result c).Start in
    omega (arith, l.first_is, l.last-is, c.first_element-then-eq.ensures, c.first_element.ensures)

pub returns-then-eq : goal.returns-then-eq
returns-then-eq c =
    let l = laid (goal.at.returns-then-eq c).Start in
    let input = input-is (goal.at.returns-then-eq c).After-kind_of (laid (goal.at.returns-then-eq c).Start) ∙ input-kind _ (search rules) in
    omega (
      arith,
      l.first_is,
      l.last-is,
      c.first_element-then-eq.ensures,
      c.first_element.ensures,
      size-input (sheet_of c.args.ground.now.sheet.now) c.args.v input,
    )
