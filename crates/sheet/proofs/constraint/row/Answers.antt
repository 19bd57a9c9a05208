-- `row` meets its contract: the coefficients, then the constant. Assumes nothing.
use borrow.Author.Rules.{rules}
use mathlib.Core.Path.{sym, ◌∙◌}
use Rattle.alpha.specs.Read.{free}
use Rattle.sheet.proofs.Readers.{row-place, goes_on, stops, handed-on}
use Rattle.sheet.proofs.Sequences.{repeated-place}
use Rattle.sheet.proofs.constraint.row.Goals as goal

pub returns-in_err-p : goal.returns-in_err-p
returns-in_err-p c =
    let r = repeated-place free c.args.s.now _ (λ p q h. search rules) _ _ _ c.in_err-p.ensures in
    handed-on _ _ c.from_residual.ensures.1 (stops _ r ∙ sym (row-place _ _ _))

pub returns : goal.returns
returns c =
    let r = repeated-place free c.args.s.now _ (λ p q h. search rules) _ _ _ c.in_ok-p.ensures in
    c.free_field.ensures ∙ goes_on _ r ∙ sym (row-place _ _ _)
