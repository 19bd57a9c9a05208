-- `tree::class_of` meets its contract, code by code. Assumes nothing.
use mathlib.Core.Path.{◌≡◌, sym, ◌∙◌}
use native.Mathlib.Omega.{arith}
use Rattle.laws.specs.At.{code_of, node_read}
use Rattle.laws.specs.Sheets.{vars_of}
use Rattle.tree.proofs.Classes.{code_here, code-there}
use Rattle.tree.proofs.Noding.{leaf-coded, operator-coded, case-coded, restriction-coded, dependence-coded, code-most}
use Rattle.tree.proofs.node.class_of.Goals.{After-natural}
use Rattle.tree.proofs.node.class_of.Goals as goal

-- the number that was read is the node's code
code : (c : After-natural) → c.natural.result ≡ code_of (node_read (vars_of c.args.s.now) c.args.s.now c.args.at)
code c = c.natural.ensures ∙ code_here _ _ c.requires

pub natural-requires : goal.natural-requires
natural-requires c = code-there _ _ c.requires

pub returns-in-6 : goal.returns-in-6
returns-in-6 c =
    case-coded (node_read (vars_of c.args.s.now) c.args.s.now c.args.at) (sym (code (goal.at.returns-in-6 c).After-natural) ∙ c.in-6.is)

pub returns-in-7 : goal.returns-in-7
returns-in-7 c =
    restriction-coded (node_read (vars_of c.args.s.now) c.args.s.now c.args.at) (sym (code (goal.at.returns-in-7 c).After-natural) ∙ c.in-7.is)

pub returns-in-0-to-2 : goal.returns-in-0-to-2
returns-in-0-to-2 c =
    leaf-coded (node_read (vars_of c.args.s.now) c.args.s.now c.args.at) (omega (arith, code (goal.at.returns-in-0-to-2 c).After-natural))

pub returns-in-3-to-5 : goal.returns-in-3-to-5
returns-in-3-to-5 c =
    let is = code (goal.at.returns-in-3-to-5 c).After-natural in
    operator-coded (node_read (vars_of c.args.s.now) c.args.s.now c.args.at) (omega (arith, is)) (omega (arith, is))

pub returns-in_default : goal.returns-in_default
returns-in_default c =
    let is = code (goal.at.returns-in_default c).After-natural in
    let nd = (node_read (vars_of c.args.s.now) c.args.s.now c.args.at) in
    dependence-coded nd (omega (arith, is, code-most nd))
