-- `normal::put_bodies` meets its contract. The loop's invariant: storing the bodies from here on is storing all of them from the start.
-- Assumes nothing.
use Prim.Native.Nat.{ℕ}
use mathlib.Core.List.{List}
use Rattle.normal.specs.Stored.{Room, Stored, bodies_from}
use Rattle.normal.proofs.write.put_bodies.Given as goal

abbrev pub invariant-loop-v : goal.invariant-loop-v
invariant-loop-v l =
    Room (bodies_from l.s l.v) l.next l.out
    × ((d : List ℕ) (r : ℕ) → Stored (bodies_from l.s l.v) l.next l.out d r → Stored (bodies_from l.s 0) l.to l.initial.out d r)
