-- `tree::types` meets its contract: the first variable that is refused decides. Assumes nothing.
use mathlib.Core.Path.{sym, ◌∙◌}
use Rattle.std.proofs.Common.{rules}
use Rattle.alpha.specs.Answer.{TYPE}
use Rattle.alpha.specs.Check.{typed}
use Rattle.laws.specs.Sheets.{heads_of, sheet_of}
use Rattle.tree.proofs.Passing.{first-decides}
use Rattle.tree.proofs.types.types.Goals as goal

pub returns : goal.returns
returns c =
    let bs = c.args.s.now in
    let h = c.requires in
    let many = c.variable_count.ensures ∙ h.prepared.table.variables ∙ sym h.many in
    first-decides _ _ c.each_below.ensures TYPE (typed (heads_of bs)) (sheet_of bs) many (λ v lt r p. search rules)
