-- `evaluate::note` meets its contract: an outcome has its own code and value, and any other answer is unknown. Assumes nothing.
use mathlib.Core.Path.{sym, ap, ◌∙◌}
use Rattle.std.proofs.Common.{rules, w64}
use Rattle.std.proofs.lemmas.Int.{to_z-of_z}
use Rattle.evaluate.specs.Memo.{code_of, value_of}
use Rattle.evaluate.proofs.Entries.{entry-noted}
use Rattle.evaluate.proofs.memo.note.Goals as goal

pub returns-in-Ok : goal.returns-in-Ok
returns-in-Ok c =
    let is = c.in-Ok.is in
    entry-noted _ _ _ _ _ (c.packed.ensures.0 ∙ c.code.ensures ∙ sym (ap code_of is))
    (c.packed.ensures.1 ∙ to_z-of_z w64 c.value.result (search rules) ∙ c.value.ensures ∙ sym (ap value_of is))

pub returns-in-Err : goal.returns-in-Err
returns-in-Err c =
    let is = c.in-Err.is in
    entry-noted _ _ _ _ _ (c.packed-in-Err.ensures.0 ∙ sym (ap code_of is)) (c.packed-in-Err.ensures.1 ∙ sym (ap value_of is))
