-- `constraint` meets its contract: the relation, then the row. Assumes nothing.
use mathlib.Core.Path.{sym, ◌∙◌}
use Rattle.sheet.proofs.Readers.{constraint-place, goes_on, stops, handed-on}
use Rattle.sheet.proofs.constraint.constraint.Goals as goal

pub returns-in_err-p : goal.returns-in_err-p
returns-in_err-p c = handed-on _ _ c.from_residual.ensures.1 (stops _ c.in_err-p.ensures ∙ sym (constraint-place _ _ _))

pub returns : goal.returns
returns c = c.row.ensures ∙ goes_on _ c.in_ok-p.ensures ∙ sym (constraint-place _ _ _)
