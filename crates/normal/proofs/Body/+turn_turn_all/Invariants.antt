-- `normal::turn` and `normal::turn_all` meet their contracts: a case has its children's branches, and any other tree its own. Assumes nothing.
use Prim.Native.Nat.{ℕ, ◌+◌, ◌*◌, ◌-◌}
use mathlib.Core.List.{List}
use Rattle.normal.specs.declared.Taken.{Taken}
use Rattle.normal.specs.Followed.{room_of}
use Rattle.normal.specs.Body.{BodiesAt, BodiesFit, PutsAll}
use Rattle.normal.proofs.Body.+turn_turn_all.Given as goal

abbrev pub decreases-turn : goal.decreases-turn
decreases-turn l = 2 * l.left

abbrev pub decreases-turn_all : goal.decreases-turn_all
decreases-turn_all l = 2 * l.left + 1

-- adding the trees from here on is adding all of them from the start
abbrev pub invariant-turn_all-loop-child : goal.invariant-turn_all-loop-child
invariant-turn_all-loop-child l =
    let s = l.self.sheet.now in
    let n = l.self.dimension in
    let mode = l.self.mode in
    let more = l.many + 1 - l._child in
    BodiesAt s l.next l.left n more l.rest × BodiesFit s l.next n more l.rest l.sum (room_of mode l.out)
    × ((d : List ℕ) (r : Taken) → PutsAll s l.next n more l.rest mode l.sum l.out d r →
    PutsAll s l.at n l.many l.of mode l.initial.sum l.initial.out d r)
