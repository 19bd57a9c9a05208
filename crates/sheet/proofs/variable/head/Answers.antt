-- `head` meets its contract: name, kind, type, dimension, box. Assumes nothing.
use borrow.Author.Rules.{rules}
use mathlib.Core.Path.{sym, ◌∙◌}
use Rattle.alpha.specs.Read.{range}
use Rattle.sheet.proofs.Readers.{head-place, goes_on, stops, handed-on}
use Rattle.sheet.proofs.Places.{count-came}
use Rattle.sheet.proofs.Sequences.{repeated-place}
use Rattle.sheet.proofs.variable.head.Goals as goal

pub returns-in_err-kind : goal.returns-in_err-kind
returns-in_err-kind c =
    handed-on _ _ c.from_residual.ensures.1 (stops _ c.in_err-kind.ensures ∙ sym (head-place _ _ _))

pub returns-in_err-sort : goal.returns-in_err-sort
returns-in_err-sort c =
    let r = stops _ c.in_err-sort.ensures ∙ goes_on _ c.in_ok-kind.ensures in
    handed-on _ _ c.from_residual-in_err-sort.ensures.1 (r ∙ sym (head-place _ _ _))

pub returns-in_err-dimension : goal.returns-in_err-dimension
returns-in_err-dimension c =
    let r = stops _ c.in_err-dimension.ensures ∙ goes_on _ c.in_ok-sort.ensures ∙ goes_on _ c.in_ok-kind.ensures in
    handed-on _ _ c.from_residual-in_err-dimension.ensures.1 (r ∙ sym (head-place _ _ _))

pub returns-in_err-first : goal.returns-in_err-first
returns-in_err-first c =
    let r = stops _ c.in_err-first.ensures ∙ goes_on _ c.in_ok-dimension.ensures ∙ goes_on _ c.in_ok-sort.ensures ∙ goes_on _ c.in_ok-kind.ensures in
    handed-on _ _ c.from_residual-in_err-first.ensures.1 (r ∙ sym (head-place _ _ _))

pub count_at-requires : goal.count_at-requires
count_at-requires c = (count-came _ _ 0 4 c.in_ok-first.ensures).there

pub returns : goal.returns
returns c =
    let r = repeated-place range c.args.s.now _ (λ p q h. search rules) _ _ _ c.repeat.ensures in
    rw c.count_at.ensures at r
    ∙ goes_on _ c.in_ok-first.ensures ∙ goes_on _ c.in_ok-dimension.ensures ∙ goes_on _ c.in_ok-sort.ensures ∙ goes_on _ c.in_ok-kind.ensures
    ∙ sym (head-place _ _ _)
