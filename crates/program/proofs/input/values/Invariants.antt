-- `program::values` meets its contract: the first i entries are the first i values.
use Rattle.std.proofs.Common.{◌≡◌, ◌≤◌, take, length}
use Rattle.alpha.specs.Program.{values_at}
use Rattle.program.proofs.input.values.Given as goal

abbrev pub invariant-loop-i : goal.invariant-loop-i
invariant-loop-i l = (4097 ≤ length l.ins) × (take l.i l.ins ≡ values_at l.i l.rest 0)
