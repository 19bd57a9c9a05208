-- `domain::fill_variable` meets its contract. The loop's invariant: the table is filled for the variables before v and for v's first i
-- elements. Assumes nothing.
use Rattle.laws.specs.Sheets.{sheet_of}
use Rattle.domain.proofs.Filled.{FilledTo}
use Rattle.domain.proofs.inside.fill_variable.Given as goal

abbrev pub invariant-loop-i : goal.invariant-loop-i
invariant-loop-i l = FilledTo (sheet_of l.s) l.v l.i l.inside
