-- `node_fields` meets its contract: one law for each code. Assumes nothing.
use mathlib.Core.Path.{sym, ◌∙◌}
use Rattle.sheet.proofs.Readers.{variable-fields, integer-fields, boolean-fields, unary-fields, binary-fields}
use Rattle.sheet.proofs.Readers.{if-fields, case-fields, restriction-fields, dependence-fields}
use Rattle.sheet.proofs.node.node_fields.Goals as goal

pub returns-in-0 : goal.returns-in-0
returns-in-0 c = c.choice_field.ensures ∙ sym (variable-fields _ _ _ _ c.in-0.is)

pub returns-in-1 : goal.returns-in-1
returns-in-1 c = c.constant.ensures ∙ sym (integer-fields _ _ _ _ c.in-1.is)

pub returns-in-2 : goal.returns-in-2
returns-in-2 c = c.choice_field-in-2.ensures ∙ sym (boolean-fields _ _ _ _ c.in-2.is)

pub returns-in-3 : goal.returns-in-3
returns-in-3 c = c.choice_field-in-3.ensures ∙ sym (unary-fields _ _ _ _ c.in-3.is)

pub returns-in-4 : goal.returns-in-4
returns-in-4 c = c.choice_field-in-4.ensures ∙ sym (binary-fields _ _ _ _ c.in-4.is)

pub returns-in-5 : goal.returns-in-5
returns-in-5 c = sym (if-fields _ _ _ _ c.in-5.is)

pub returns-in-6 : goal.returns-in-6
returns-in-6 c = c.count_field.ensures ∙ sym (case-fields _ _ _ _ c.in-6.is)

pub returns-in-7 : goal.returns-in-7
returns-in-7 c = c.restriction.ensures ∙ sym (restriction-fields _ _ _ _ c.in-7.is)

pub returns-in-8 : goal.returns-in-8
returns-in-8 c = c.dependence.ensures ∙ sym (dependence-fields _ _ _ _ c.in-8.is)
