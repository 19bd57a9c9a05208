-- `node` meets its contract: the code, then its fields. Assumes nothing.
use native.Mathlib.Omega.{arith}
use mathlib.Core.Path.{sym, ◌∙◌}
use Rattle.sheet.proofs.Readers.{node-place, goes_on, stops, handed-on}
use Rattle.sheet.proofs.Places.{choice-came, counted}
use Rattle.sheet.proofs.node.node.Goals as goal

pub returns-in_err-p : goal.returns-in_err-p
returns-in_err-p c = handed-on _ _ c.from_residual.ensures.1 (stops _ c.in_err-p.ensures ∙ sym (node-place _ _ _))

pub count_at-requires : goal.count_at-requires
count_at-requires c = (choice-came _ _ 8 c.in_ok-p.ensures).there

pub node_fields-requires : goal.node_fields-requires
node_fields-requires c =
    let h = counted 0 8 (choice-came c.args.s.now c.args.at 8 c.in_ok-p.ensures) in
    let e = c.count_at.ensures in
    (omega arith, c.requires)

pub returns : goal.returns
returns c = rw c.count_at.ensures at c.node_fields.ensures ∙ goes_on _ c.in_ok-p.ensures ∙ sym (node-place _ _ _)
