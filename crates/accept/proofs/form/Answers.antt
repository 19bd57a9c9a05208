-- `accept::form` meets its contract, step by step. Assumes nothing.
use mathlib.Core.Path.{refl}
use Rattle.std.proofs.lemmas.Result.{err_from_is_err_and}
use Rattle.accept.proofs.Steps.{read-forms, rules-form, prepared-after}
use Rattle.accept.proofs.form.Goals as goal

pub returns-in_err-count : goal.returns-in_err-count
returns-in_err-count c =
    let p = err_from_is_err_and c.from_residual.result c.from_residual.ensures.1 in
    rw (p.1, p.2) (read-forms _ _ _ _ refl c.in_err-count.ensures.answer)

pub forms-requires : goal.forms-requires
forms-requires c = prepared-after _ _ _ _ refl c.in_ok-count.ensures

pub returns-in_err-forms : goal.returns-in_err-forms
returns-in_err-forms c =
    let p = err_from_is_err_and c.from_residual-in_err-forms.result c.from_residual-in_err-forms.ensures.1 in
    let prepared = prepared-after _ _ _ _ refl c.in_ok-count.ensures in
    rw (p.1, p.2) (rules-form _ _ _ _ _ prepared refl c.in_err-forms.ensures.answer)
