-- `normal::put_operator` meets its contract: two fields, or an if's code. Assumes nothing.
use mathlib.Core.Path.{◌≡◌, ap}
use mathlib.Core.Logic.{◌⊎◌, ⊎_elim}
use native.Mathlib.Omega.{arith}
use Rattle.laws.specs.At.{code_of, node_read}
use Rattle.laws.specs.Sheets.{vars_of}
use Rattle.tree.specs.declared.OperatorKind.TheVariants.{Unary, Binary}
use Rattle.tree.specs.Classes.{operator_code}
use Rattle.normal.proofs.Spots.{two-long-here, two-there, two-stores}
use Rattle.normal.proofs.node.put_operator.Goals.{After-operator_of}
use Rattle.normal.proofs.node.put_operator.Goals as goal

-- no if
other : (c : After-operator_of) → (c.operator_of.result ≡ Unary) ⊎ (c.operator_of.result ≡ Binary) →
    (code_of (node_read (vars_of c.args.s.now) c.args.s.now c.args.at)) ≡ 5 → ⊥
other c =
    ⊎_elim
    (λ told e. omega (arith, c.operator_of.ensures, ap operator_code told))
    (λ told e. omega (arith, c.operator_of.ensures, ap operator_code told))

pub put_two-requires : goal.put_two-requires
put_two-requires c =
    let two = other (goal.at.put_two-requires c).After-operator_of c.in-Unary.is in
    (two-there _ _ c.requires.0 two, omega (arith, c.requires.1, two-long-here _ _ c.requires.0 two))

pub returns-in-Unary : goal.returns-in-Unary
returns-in-Unary c =
    two-stores _ _ c.requires.0 (other (goal.at.returns-in-Unary c).After-operator_of c.in-Unary.is) c.args.to c.args.out.now c.put_two.ensures
