-- `restriction` meets its contract: its dimension, its number of constraints, the constraints. Assumes nothing.
use borrow.Author.Rules.{rules}
use mathlib.Core.Path.{sym, ◌∙◌}
use Rattle.alpha.specs.Read.{constraint}
use Rattle.sheet.proofs.Readers.{restriction-place, goes_on, stops, handed-on}
use Rattle.sheet.proofs.Places.{count-came}
use Rattle.sheet.proofs.Sequences.{counted-place}
use Rattle.sheet.proofs.node.restriction.Goals as goal

pub returns-in_err-p : goal.returns-in_err-p
returns-in_err-p c = handed-on _ _ c.from_residual.ensures.1 (stops _ c.in_err-p.ensures ∙ sym (restriction-place _ _))

pub count_at-dimension-requires : goal.count_at-dimension-requires
count_at-dimension-requires c = (count-came _ _ 0 4 c.in_ok-p.ensures).there

pub returns : goal.returns
returns c =
    let r = counted-place (constraint c.count_at-dimension.result) c.args.s.now _ (λ p q h. search rules) 64 _ _ c.counted.ensures in
    rw c.count_at-dimension.ensures at r ∙ goes_on _ c.in_ok-p.ensures ∙ sym (restriction-place _ _)
