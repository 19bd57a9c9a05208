-- `repeat` meets its contract. The invariant: what the steps that are left answer, all of them answer. Assumes nothing.
use Prim.Native.Nat.{◌-◌}
use Rattle.sheet.specs.Sequence.{Repeated}
use Rattle.sheet.proofs.sequence.repeat.Given as goal

abbrev pub invariant-loop : goal.invariant-loop
invariant-loop g l =
    (r : _) → Repeated (goal.F-post g l.item) (l.count - l.counter) l.p r → Repeated (goal.F-post g l.item) l.count l.at r
