-- `tree::declared_within` meets its contract. The loop's invariant: those that are left stand there and decide. Assumes nothing.
use Prim.Native.Nat.{◌-◌}
use Rattle.tree.proofs.Declaring.{DeclaredLeft}
use Rattle.tree.proofs.reaches.declared_within.Given as goal

abbrev pub invariant-loop : goal.invariant-loop
invariant-loop l = DeclaredLeft l.s l.v (l.many - l.counter) l.p
