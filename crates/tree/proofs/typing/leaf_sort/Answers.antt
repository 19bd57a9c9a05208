-- `tree::leaf_sort` meets its contract, leaf by leaf. Assumes nothing.
use mathlib.Core.Path.{sym, ap, ◌∙◌}
use native.Mathlib.Omega.{arith}
use lib.ListN.{get_or}
use mathlib.Core.Option.{some}
use Rattle.alpha.specs.Read.{no_head}
use Rattle.laws.specs.Sheets.{heads_of}
use Rattle.tree.specs.Classes.{leaf_code}
use Rattle.tree.proofs.Classes.{leaf-there}
use Rattle.tree.proofs.Heading.{prepared-sections}
use Rattle.tree.proofs.Fitting.{variable-known}
use Rattle.tree.proofs.Sorting.{type-variable, type-integer, type-boolean}
use Rattle.tree.proofs.typing.leaf_sort.Goals as goal

pub overflow_add-at : goal.overflow_add-at
overflow_add-at c = omega (arith, leaf-there _ _ c.requires.1)

pub natural-requires : goal.natural-requires
natural-requires c = omega (arith, leaf-there _ _ c.requires.1)

pub sort_of-requires : goal.sort_of-requires
sort_of-requires c =
    let code = c.leaf_of.ensures ∙ ap leaf_code c.in-Variable.is in
    let known = variable-known _ _ c.requires.1.noded code (prepared-sections _ _ c.requires.0).some in
    (c.requires.0, omega (arith, c.natural.ensures))

pub returns-in-Variable : goal.returns-in-Variable
returns-in-Variable c =
    let code = c.leaf_of.ensures ∙ ap leaf_code c.in-Variable.is in
    λ e q h. type-variable _ _ e _ h code
    ∙ ap (λ v. some (get_or (heads_of c.args.s.now) v no_head).sort) (sym c.natural.ensures)
    ∙ ap some c.sort_of.ensures

pub returns-in-Integer : goal.returns-in-Integer
returns-in-Integer c = λ e q h. type-integer _ _ e _ h (c.leaf_of.ensures ∙ ap leaf_code c.in-Integer.is)

pub returns-in-Boolean : goal.returns-in-Boolean
returns-in-Boolean c = λ e q h. type-boolean _ _ e _ h (c.leaf_of.ensures ∙ ap leaf_code c.in-Boolean.is)
