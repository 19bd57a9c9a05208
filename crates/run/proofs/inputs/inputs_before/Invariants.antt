-- `run::inputs_before` meets its contract. The loop's invariant: the sum so far is that of the variables before k.
-- Assumes nothing.
use mathlib.Core.Path.{◌≡◌}
use Prim.Native.Nat.{◌≤◌}
use Rattle.alpha.specs.Outcome.{inputs_before}
use Rattle.laws.specs.Sheets.{sheet_of}
use Rattle.run.proofs.inputs.inputs_before.Given as goal

abbrev pub invariant-loop-k : goal.invariant-loop-k
invariant-loop-k l = (l.n ≡ inputs_before (sheet_of l.ground.sheet.now) l.k) × (l.k ≤ l.v)
