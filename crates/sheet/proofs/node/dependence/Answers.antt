-- `dependence` meets its contract: its columns, its number of rows, the rows. Assumes nothing.
use borrow.Author.Rules.{rules}
use mathlib.Core.Path.{sym, ◌∙◌}
use Rattle.alpha.specs.Read.{row_of}
use Rattle.sheet.proofs.Readers.{dependence-place, goes_on, stops, handed-on}
use Rattle.sheet.proofs.Places.{count-came}
use Rattle.sheet.proofs.Sequences.{counted-place}
use Rattle.sheet.proofs.node.dependence.Goals as goal

pub returns-in_err-p : goal.returns-in_err-p
returns-in_err-p c = handed-on _ _ c.from_residual.ensures.1 (stops _ c.in_err-p.ensures ∙ sym (dependence-place _ _))

pub count_at-columns-requires : goal.count_at-columns-requires
count_at-columns-requires c = (count-came _ _ 0 4 c.in_ok-p.ensures).there

pub returns : goal.returns
returns c =
    let r = counted-place (row_of c.count_at-columns.result) c.args.s.now _ (λ p q h. search rules) 4 _ _ c.counted.ensures in
    rw c.count_at-columns.ensures at r ∙ goes_on _ c.in_ok-p.ensures ∙ sym (dependence-place _ _)
