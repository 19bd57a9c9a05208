-- `domain::fill` meets its contract. The loop's invariant: the table is filled for the variables before v. Assumes nothing.
use Rattle.laws.specs.Sheets.{sheet_of}
use Rattle.domain.specs.Filling.{FilledBelow}
use Rattle.domain.proofs.inside.fill.Given as goal

abbrev pub invariant-loop-v : goal.invariant-loop-v
invariant-loop-v l = FilledBelow (sheet_of l.s) l.v l.inside
