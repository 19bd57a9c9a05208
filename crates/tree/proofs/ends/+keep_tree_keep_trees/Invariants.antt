-- `tree::keep_tree` and `tree::keep_trees` meet their contracts: a tree ends where its children end. Assumes nothing.
use Prim.Native.Nat.{ℕ, ◌+◌, ◌-◌, ◌*◌}
use Rattle.laws.specs.Sheets.{vars_of}
use Rattle.tree.specs.Standing.{StandingAll}
use Rattle.tree.specs.Ends.{AllEnd, EndsKept}
use Rattle.tree.proofs.ends.+keep_tree_keep_trees.Given as goal

abbrev pub decreases-keep_tree : goal.decreases-keep_tree
decreases-keep_tree l = 2 * l.left

abbrev pub decreases-keep_trees : goal.decreases-keep_trees
decreases-keep_trees l = 2 * l.left + 1

abbrev pub invariant-keep_trees-loop : goal.invariant-keep_trees-loop
invariant-keep_trees-loop l = record {
  stand : StandingAll (vars_of l.s) l.s l.next l.left (l.many - l.counter);
  end : (r : ℕ) → AllEnd (vars_of l.s) l.s l.next (l.many - l.counter) r → AllEnd (vars_of l.s) l.s l.at l.many r;
  kept : EndsKept l.s l.ends;
}
