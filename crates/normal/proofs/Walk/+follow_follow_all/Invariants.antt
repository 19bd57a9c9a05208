-- `normal::follow` and `normal::follow_all` meet their contracts: a node by its class; operands one after another. Assumes nothing.
use Prim.Native.Nat.{ℕ, ◌+◌, ◌-◌, ◌*◌}
use mathlib.Core.Path.{◌≡◌}
use mathlib.Core.List.{List}
use lib.ListN.{length}
use Rattle.normal.specs.declared.Pen.{Pen}
use Rattle.normal.specs.Followed.{room_of, RouteAll, FollowsAll}
use Rattle.normal.proofs.Walk.+follow_follow_all.Given as goal

abbrev pub decreases-follow : goal.decreases-follow
decreases-follow l = 70 * l.left

abbrev pub decreases-follow_all : goal.decreases-follow_all
decreases-follow_all l = 70 * l.left + (l.many + 1)

-- the operands from here on go on where those before them ended, and what they come to is what all of them do
abbrev pub invariant-follow_all-loop-operand : goal.invariant-follow_all-loop-operand
invariant-follow_all-loop-operand l =
    let s = l.self.sheet.now in
    let left = l.many + 1 - l._operand in
    RouteAll s l.next l.left left l.m l.rest.number l.rest.of l.self.half l.level l.sofar (room_of l.self.mode l.out)
    × ((d : List ℕ) (z : Pen) → FollowsAll s l.next left l.m l.rest.number l.rest.of l.self.half l.level l.self.mode l.sofar l.out d z →
    FollowsAll s l.at l.many l.m l.fn.choice.number l.fn.choice.of l.self.half l.level l.self.mode l.initial.sofar l.initial.out d z)
    × (length l.out ≡ length l.initial.out)
