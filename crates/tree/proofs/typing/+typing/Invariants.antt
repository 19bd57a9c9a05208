-- TYPE of a tree, from its children up. Assumes nothing.
use Prim.Native.Nat.{◌+◌, ◌-◌, ◌*◌}
use Rattle.tree.proofs.Sorting.{TypesLeft}
use Rattle.tree.proofs.typing.+typing.Given as goal

abbrev pub decreases-operator_type : goal.decreases-operator_type
decreases-operator_type l = 4 * l.left

abbrev pub decreases-type_all : goal.decreases-type_all
decreases-type_all l = 4 * l.left + 2

abbrev pub decreases-type_if : goal.decreases-type_if
decreases-type_if l = 4 * l.left + 3

abbrev pub decreases-type_of : goal.decreases-type_of
decreases-type_of l = 4 * l.left + 1

-- what the trees have that follow those of the type `sort` is what all of them have
abbrev pub invariant-type_all-loop : goal.invariant-type_all-loop
invariant-type_all-loop l = TypesLeft l.s l.left l.at l.count (record { sort = l.sort; next = l.next }) (l.count - l.counter)
