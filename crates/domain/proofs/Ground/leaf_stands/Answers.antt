-- `domain::Ground::leaf_stands` meets its contract: a variable stands as its element does, and a constant holds. Assumes nothing.
use mathlib.Core.Path.{◌≡◌, ap, ◌∙◌}
use native.Mathlib.Omega.{arith}
use mathlib.Core.Logic.{⊎_elim}
use Rattle.laws.specs.At.{code_of, node_read}
use Rattle.laws.specs.Sheets.{vars_of}
use Rattle.tree.specs.Classes.{leaf_code}
use Rattle.tree.proofs.Classes.{leaf-there}
use Rattle.tree.proofs.Fitting.{variable-known}
use Rattle.domain.proofs.Ways.{variable-way, integer-way, boolean-way}
use Rattle.domain.proofs.Ground.leaf_stands.Goals.{In-Variable}
use Rattle.domain.proofs.Ground.leaf_stands.Goals as goal

coded : (c : In-Variable) → code_of (node_read (vars_of c.args.self.now.sheet.now) c.args.self.now.sheet.now c.args.at) ≡ 0
coded c = c.leaf_of.ensures ∙ ap leaf_code c.in-Variable.is

pub overflow_add-at : goal.overflow_add-at
overflow_add-at c = omega (arith, leaf-there _ _ c.requires)

pub natural-requires : goal.natural-requires
natural-requires c = omega (arith, leaf-there _ _ c.requires)

pub variable_stands-requires : goal.variable_stands-requires
variable_stands-requires c =
    let known = variable-known _ _ c.requires.noded (coded (goal.at.variable_stands-requires c).In-Variable) c.args.self.now.grounds.some in
    rw c.natural.ensures known

pub returns-in-Variable : goal.returns-in-Variable
returns-in-Variable c =
    variable-way _ _ c.args.z _ _ (coded (goal.at.returns-in-Variable c).In-Variable) c.natural.ensures c.variable_stands.ensures

pub returns-in-Integer : goal.returns-in-Integer
returns-in-Integer c =
    ⊎_elim (λ e. integer-way _ _ c.args.z (c.leaf_of.ensures ∙ ap leaf_code e)) (λ e. boolean-way _ _ c.args.z (c.leaf_of.ensures ∙ ap leaf_code e))
    c.in-Integer.is
