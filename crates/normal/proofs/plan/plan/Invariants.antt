-- `normal::plan` meets its contract. The loop's invariant: the totals with the bodies from here on are those with all of them from the start.
-- Assumes nothing.
use Prim.Native.Nat.{◌≤◌}
use Rattle.std.specs.Prelude.{Result}
use Rattle.alpha.specs.declared.Refusal.{Refusal}
use Rattle.normal.specs.declared.Totals.{Totals}
use Rattle.normal.specs.Plan.{PlansFrom}
use Rattle.normal.proofs.plan.plan.Given as goal

abbrev pub invariant-loop-v : goal.invariant-loop-v
invariant-loop-v l =
    (l.totals.nodes ≤ 2048) × (l.totals.bytes ≤ 65536)
    × ((r : Result Totals Refusal) → PlansFrom l.s l.v l.totals.nodes l.totals.bytes r → PlansFrom l.s 0 l.initial.totals.nodes l.initial.totals.bytes r)
