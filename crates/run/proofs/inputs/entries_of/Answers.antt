-- `run::entries_of` meets its contract: only a boolean input's entries are looked at. Assumes nothing.
use mathlib.Core.Path.{◌≡◌, ap, ◌∙◌}
use Prim.Native.Nat.{suc, ◌+◌, ◌≤◌}
use native.Mathlib.Omega.{arith}
use borrow.Author.Rules.{rules}
use mathlib.Core.Bool.{true}
use lib.ListN.{length}
use Rattle.alpha.specs.Box.{size}
use Rattle.alpha.specs.Kinds.{kind_meant, sort_meant}
use Rattle.alpha.specs.declared.kind.Kind.TheVariants.{Input}
use Rattle.alpha.specs.Holds.{variable, is_input, is_input_kind}
use Rattle.laws.specs.Sheets.{sheet_of}
use Rattle.domain.proofs.Records.{VariableLaid, laid-variable, laid-total}
use Rattle.tree.proofs.Passing.{input-is as input-kind}
use Rattle.run.proofs.Listing.{size-input, before-step, before-count, count-total}
use Rattle.run.proofs.Listing.{bits-entries, part-few, boolean-sort}
use Rattle.run.proofs.inputs.entries_of.Goals.{After-inputs_before-to, After-kind_of, After-sort_of, Start}
use Rattle.run.proofs.inputs.entries_of.Goals as goal

-- the variable
laid : (c : Start) → VariableLaid c.args.ground.now.sheet.now c.args.ground.now.table.now c.args.v
laid c = laid-variable _ _ c.requires.0.placed _ c.requires.1.known

-- whether it is an input, by its kind's number
input-is : (c : After-kind_of) →
    (laid : VariableLaid c.args.ground.now.sheet.now c.args.ground.now.table.now c.args.v) →
    is_input (variable (sheet_of c.args.ground.now.sheet.now) c.args.v) ≡ is_input_kind (kind_meant c.kind_of.result)
input-is c laid =
    ap (λ h. is_input_kind h.kind) laid.head_is ∙ ap is_input_kind c.kind_of.ensures

input : (c : After-kind_of) →
    (laid : VariableLaid c.args.ground.now.sheet.now c.args.ground.now.table.now c.args.v) →
    c.kind_of.result ≡ Input → is_input (variable (sheet_of c.args.ground.now.sheet.now) c.args.v) ≡ true
input c laid e = input-is c laid ∙ input-kind _ e

-- its type, by its number
sort-is : (c : After-sort_of) →
    (laid : VariableLaid c.args.ground.now.sheet.now c.args.ground.now.table.now c.args.v) →
    (variable (sheet_of c.args.ground.now.sheet.now) c.args.v).head.sort ≡ sort_meant c.sort_of.result
sort-is c laid = ap (λ h. h.sort) laid.head_is ∙ c.sort_of.ensures

-- its entries end where the next variable's start
step : (c : After-inputs_before-to) →
    (laid : VariableLaid c.args.ground.now.sheet.now c.args.ground.now.table.now c.args.v) →
    (input : c.kind_of.result ≡ Input → is_input (variable (sheet_of c.args.ground.now.sheet.now) c.args.v) ≡ true) →
    c.inputs_before-to.result ≡ c.inputs_before-from.result + size (variable (sheet_of c.args.ground.now.sheet.now) c.args.v).head.box
step c laid input =
    let sheet = sheet_of c.args.ground.now.sheet.now in
    let one : c.args.v + 1 ≡ suc c.args.v = omega arith in
    let after = rw one at c.inputs_before-to.ensures in
    omega (
      arith,
      after,
      c.inputs_before-from.ensures,
      before-step sheet c.args.v laid.known,
      size-input sheet c.args.v (input (search rules)),
    )

-- and within the list, which is short
few : (c : After-inputs_before-to) → (c.inputs_before-to.result ≤ length c.args.ins.now) × (length c.args.ins.now ≤ 4096)
few c =
    let sheet = sheet_of c.args.ground.now.sheet.now in (
      omega (arith, c.inputs_before-to.ensures, before-count sheet (c.args.v + 1), c.requires.1.many),
      omega (arith, c.requires.1.many, count-total sheet, laid-total _ _ c.requires.0.placed),
    )

pub offset_bounds-ins-from : goal.offset_bounds-ins-from
offset_bounds-ins-from c =
    let way = goal.at.offset_bounds-ins-from c in
    let l = laid way.Start in
    let long = step way.After-inputs_before-to l (input way.After-kind_of l) in
    let small : c.inputs_before-from.result ≤ 4096 = omega (arith, (few way.After-inputs_before-to).0, (few way.After-inputs_before-to).1, long) in search rules

pub slice_bounds-bits-count : goal.slice_bounds-bits-count
slice_bounds-bits-count c =
    let way = goal.at.slice_bounds-bits-count c in
    let l = laid way.Start in
    let long = step way.After-inputs_before-to l (input way.After-kind_of l) in
    omega (arith, long, (few way.After-inputs_before-to).0)

pub slice_bounds-bits-start : goal.slice_bounds-bits-start
slice_bounds-bits-start c =
    let way = goal.at.slice_bounds-bits-start c in
    let l = laid way.Start in
    let long = step way.After-inputs_before-to l (input way.After-kind_of l) in
    omega (arith, long, (few way.After-inputs_before-to).0)

pub slice_bounds-bits-end : goal.slice_bounds-bits-end
slice_bounds-bits-end c =
    let way = goal.at.slice_bounds-bits-end c in
    let l = laid way.Start in
    let long = step way.After-inputs_before-to l (input way.After-kind_of l) in
    omega (arith, long, (few way.After-inputs_before-to).0)

pub bits-requires : goal.bits-requires
bits-requires c =
    let way = goal.at.bits-requires c in
    let l = laid way.Start in
    let long = step way.After-inputs_before-to l (input way.After-kind_of l) in
    part-few _ _ _ _ (omega (arith, long)) (few way.After-inputs_before-to).0 (few way.After-inputs_before-to).1

pub returns : goal.returns
returns c =
    let sheet = sheet_of c.args.ground.now.sheet.now in
    let way = goal.at.returns c in
    let l = laid way.Start in
    let boolean = sort-is way.After-sort_of l ∙ boolean-sort _ (search rules) in
    let long = step way.After-inputs_before-to l (input way.After-kind_of l) in
    bits-entries sheet c.args.v c.args.ins.now (input way.After-kind_of l (search rules)) boolean _ _ c.inputs_before-from.ensures long _ c.bits.ensures
