-- `tree::operator_of` meets its contract: which operator, code by code. Assumes nothing.
use mathlib.Core.Path.{sym, ◌∙◌}
use native.Mathlib.Omega.{arith}
use Rattle.laws.specs.At.{node_read}
use Rattle.laws.specs.Sheets.{vars_of}
use Rattle.tree.proofs.Classes.{code_here, code-there}
use Rattle.tree.proofs.Noding.{operator-low, operator-high}
use Rattle.tree.proofs.node.operator_of.Goals as goal

pub natural-requires : goal.natural-requires
natural-requires c = code-there _ _ c.requires.noded

pub returns-in-3 : goal.returns-in-3
returns-in-3 c = sym (code_here _ _ c.requires.noded) ∙ sym c.natural.ensures ∙ c.in-3.is

pub returns-in-4 : goal.returns-in-4
returns-in-4 c = sym (code_here _ _ c.requires.noded) ∙ sym c.natural.ensures ∙ c.in-4.is

pub returns-in_default : goal.returns-in_default
returns-in_default c =
    let is = c.natural.ensures ∙ code_here _ _ c.requires.noded in
    let nd = node_read (vars_of c.args.s.now) c.args.s.now c.args.at in
    omega (arith, is, operator-low nd c.requires.class_is, operator-high nd c.requires.class_is)
