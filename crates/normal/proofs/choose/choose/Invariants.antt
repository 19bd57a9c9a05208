-- `normal::choose` meets its contract: the branches of the first child come first, and the last child has those that are left. The loop's
-- invariant: what is chosen from the children from here on is what is chosen from all of them. Assumes nothing.
use Prim.Native.Nat.{◌+◌, ◌-◌}
use Rattle.normal.specs.declared.Chosen.{Chosen}
use Rattle.normal.specs.Counted.{ChildrenAt, Picks}
use Rattle.normal.proofs.choose.choose.Given as goal

abbrev pub invariant-loop-child : goal.invariant-loop-child
invariant-loop-child l =
    ChildrenAt l.s l.next l.left (l.many + 1 - l._child) l.rest.number l.rest.of
    × ((r : Chosen) → Picks l.s l.next (l.many + 1 - l._child) l.rest.number l.rest.of r → Picks l.s l.at l.many l.fn.choice.number l.fn.choice.of r)
