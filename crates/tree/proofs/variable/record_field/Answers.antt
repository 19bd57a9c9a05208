-- `tree::record_field` meets its contract: the variable's record stands where the table says. Assumes nothing.
use native.Mathlib.Omega.{arith}
use Rattle.tree.proofs.Heading.{prepared-record, prepared-few}
use Rattle.tree.proofs.variable.record_field.Goals as goal

pub record_place-record-requires : goal.record_place-record-requires
record_place-record-requires c = prepared-few _ _ c.requires.0.prepared _ c.requires.0.known

pub overflow_add-record : goal.overflow_add-record
overflow_add-record c =
    omega (arith, (prepared-record _ _ c.requires.0.prepared _ c.requires.0.known).there, c.record_place-record.ensures)

pub natural-requires : goal.natural-requires
natural-requires c =
    omega (arith, (prepared-record _ _ c.requires.0.prepared _ c.requires.0.known).there, c.record_place-record.ensures)
