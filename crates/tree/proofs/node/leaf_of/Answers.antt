-- `tree::leaf_of` meets its contract: which leaf, code by code. Assumes nothing.
use mathlib.Core.Path.{sym, ◌∙◌}
use native.Mathlib.Omega.{arith}
use Rattle.laws.specs.At.{node_read}
use Rattle.laws.specs.Sheets.{vars_of}
use Rattle.tree.proofs.Classes.{code_here, code-there}
use Rattle.tree.proofs.Noding.{leaf-code}
use Rattle.tree.proofs.node.leaf_of.Goals as goal

pub natural-requires : goal.natural-requires
natural-requires c = code-there _ _ c.requires.noded

pub returns-in-0 : goal.returns-in-0
returns-in-0 c = sym (code_here _ _ c.requires.noded) ∙ sym c.natural.ensures ∙ c.in-0.is

pub returns-in-1 : goal.returns-in-1
returns-in-1 c = sym (code_here _ _ c.requires.noded) ∙ sym c.natural.ensures ∙ c.in-1.is

pub returns-in_default : goal.returns-in_default
returns-in_default c =
    let is = c.natural.ensures ∙ code_here _ _ c.requires.noded in
    let nd = node_read (vars_of c.args.s.now) c.args.s.now c.args.at in
    omega (arith, is, leaf-code nd c.requires.class_is)
