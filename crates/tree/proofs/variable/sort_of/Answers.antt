-- `tree::sort_of` meets its contract: the field says the type. Assumes nothing.
use mathlib.Core.Path.{sym, ap, ◌∙◌}
use Rattle.alpha.specs.Read.{sort_of}
use Rattle.tree.proofs.Heading.{prepared-record}
use Rattle.tree.proofs.variable.sort_of.Goals as goal

pub returns : goal.returns
returns c =
    let h = prepared-record _ _ c.requires.0 _ c.requires.1 in
    let is = c.record_field.ensures in
    h.sort-is ∙ ap sort_of (sym is) ∙ sym c.from.ensures
