-- `domain::all_declared_meet` meets its contract. The loop's invariant: those that are left stand there and decide. Assumes nothing.
use Prim.Native.Nat.{◌-◌}
use Rattle.domain.proofs.Filled.{MeetsLeft}
use Rattle.domain.proofs.inside.all_declared_meet.Given as goal

abbrev pub invariant-loop : goal.invariant-loop
invariant-loop l = MeetsLeft l.s l.v l.z (l.end - l.counter) l.p
