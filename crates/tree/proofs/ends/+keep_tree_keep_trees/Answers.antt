-- `tree::keep_tree` and `tree::keep_trees` meet their contracts: a tree ends where its children end, and its entry says so once theirs do.
-- Assumes nothing.
use Prim.Native.Nat.{◌+◌, ◌-◌, ◌≤◌}
use mathlib.Core.Path.{◌≡◌}
use native.Mathlib.Omega.{arith}
use Rattle.tree.proofs.Standings.{standing-noded, standing-some, standing-children, first-standing, rest-standing}
use Rattle.tree.proofs.Standings.{node-ends, none-ends, more-ends}
use Rattle.tree.proofs.ends.+keep_tree_keep_trees.Goals as goal

pub keep_tree-node_end-next-requires : goal.keep_tree-node_end-next-requires
keep_tree-node_end-next-requires t c = standing-noded _ _ _ _ c.requires.0

pub keep_tree-overflow_sub-left : goal.keep_tree-overflow_sub-left
keep_tree-overflow_sub-left t c = omega (arith, standing-some _ _ _ _ c.requires.0)

pub keep_tree-children-requires : goal.keep_tree-children-requires
keep_tree-children-requires t c = standing-noded _ _ _ _ c.requires.0

pub keep_tree-keep_trees-end-requires : goal.keep_tree-keep_trees-end-requires
keep_tree-keep_trees-end-requires t c =
    let h = c.requires.0 in
    let some = standing-some _ _ _ _ h in
    let is = c.decreases in
    let below = standing-children _ _ _ _ h _ _ c.node_end-next.ensures c.children.ensures in
    (omega arith, (below, c.requires.1))

pub keep_tree-keep-requires : goal.keep_tree-keep-requires
keep_tree-keep-requires t c =
    let next = c.node_end-next.ensures in
    (node-ends _ _ _ _ _ _ next c.children.ensures c.keep_trees-end.ensures.0, c.keep_trees-end.ensures.1)

pub keep_tree-returns : goal.keep_tree-returns
keep_tree-returns t c =
    let next = c.node_end-next.ensures in
    (node-ends _ _ _ _ _ _ next c.children.ensures c.keep_trees-end.ensures.0, c.keep.ensures)

pub keep_trees-keep_tree-next-requires : goal.keep_trees-keep_tree-next-requires
keep_trees-keep_tree-next-requires t c =
    let is = c.decreases in
    let loop = c.loop.invariant in
    (omega arith, (first-standing _ _ _ _ _ (omega arith) loop.stand, loop.kept))

pub keep_trees-loop-preserved : goal.keep_trees-loop-preserved
keep_trees-loop-preserved t c =
    let loop = c.loop.invariant in
    let some : 1 ≤ c.args.many - c.loop.counter = omega arith in
    let less : c.args.many - (c.loop.counter + 1) ≡ c.args.many - c.loop.counter - 1 = omega arith in
    let one = c.keep_tree-next.ensures in
    record {
      stand = rw less (rest-standing _ _ _ _ _ some loop.stand _ one.0);
      end = λ r h. loop.end r (more-ends _ _ _ _ _ _ some one.0 (rw less at h));
      kept = one.1;
    }

pub keep_trees-returns : goal.keep_trees-returns
keep_trees-returns t c =
    let loop = c.loop.invariant in
    (loop.end _ (none-ends _ _ _ _ (omega arith)), loop.kept)
