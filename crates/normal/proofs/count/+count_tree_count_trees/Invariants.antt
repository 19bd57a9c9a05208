-- `normal::count_tree` and `normal::count_trees` meet their contracts, class by class: a leaf has one branch, an operator its operands'
-- combinations, a case its children's branches, any other node its child's; and a tree ends where its children end. Assumes nothing.
use Prim.Native.Nat.{ℕ, ◌+◌, ◌*◌, ◌-◌, ◌≤◌}
use Rattle.laws.specs.Sheets.{vars_of}
use Rattle.tree.specs.Standing.{StandingAll}
use Rattle.tree.specs.Ends.{AllEnd}
use Rattle.normal.specs.Counted.{CountsAll}
use Rattle.normal.proofs.count.+count_tree_count_trees.Given as goal

abbrev pub decreases-count_tree : goal.decreases-count_tree
decreases-count_tree l = 2 * l.left

abbrev pub decreases-count_trees : goal.decreases-count_trees
decreases-count_trees l = 2 * l.left + 1

-- what the trees from here on come to is what all of them do, and they end where all of them end
abbrev pub invariant-count_trees-loop-tree : goal.invariant-count_trees-loop-tree
invariant-count_trees-loop-tree l =
    StandingAll (vars_of l.s) l.s l.next l.left (l.many - l._tree) × (l.sum ≤ 65)
    × ((r : ℕ) → CountsAll l.s l.next (l.many - l._tree) l.group l.sum r → CountsAll l.s l.at l.many l.group l.sofar r)
    × ((r : ℕ) → AllEnd (vars_of l.s) l.s l.next (l.many - l._tree) r → AllEnd (vars_of l.s) l.s l.at l.many r)
