-- `tree::reaches` meets its contract: the first variable that is refused decides. Assumes nothing.
use mathlib.Core.Path.{sym, ◌∙◌}
use Rattle.std.proofs.Common.{rules}
use Rattle.alpha.specs.Answer.{REACH}
use Rattle.alpha.specs.Check.{reached}
use Rattle.laws.specs.Sheets.{sheet_of}
use Rattle.tree.proofs.Passing.{first-decides}
use Rattle.tree.proofs.reaches.reaches.Goals as goal

pub returns : goal.returns
returns c =
    let h = c.requires in
    let many = c.variable_count.ensures ∙ h.prepared.table.variables ∙ sym h.many in
    first-decides _ _ c.each_below.ensures REACH reached (sheet_of c.args.s.now) many (λ v lt r p. search rules)
