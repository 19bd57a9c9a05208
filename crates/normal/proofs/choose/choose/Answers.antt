-- `normal::choose` meets its contract: the branches of the first child come first, and the last child has those that are left. The loop's
-- invariant: what is chosen from the children from here on is what is chosen from all of them. Assumes nothing.
use Prim.Native.Nat.{◌+◌, ◌-◌, ◌<◌}
use mathlib.Core.Path.{◌≡◌}
use native.Mathlib.Omega.{arith}
use Rattle.tree.proofs.Standings.{first-standing}
use Rattle.normal.proofs.Counting.{children-some, children-standing, last-way, first_way, children-rest, later-way}
use Rattle.normal.proofs.choose.choose.Goals as goal

pub loop-child-init : goal.loop-child-init
loop-child-init c = let all : c.args.many + 1 - 1 ≡ c.args.many = omega arith in rw all (c.requires, λ r h. h)

pub count_tree-first-requires : goal.count_tree-first-requires
count_tree-first-requires c =
    let h = c.loop-child.invariant.0 in
    first-standing _ _ _ _ _ (children-some _ _ _ _ _ _ h) (children-standing _ _ _ _ _ _ h)

pub returns-then-rest-first : goal.returns-then-rest-first
returns-then-rest-first c =
    let inv = c.loop-child.invariant in
    inv.1 _ (first_way _ _ _ _ _ _ inv.0 _ c.count_tree-first.ensures.0 c.if-rest-first.true)

pub loop-child-preserved : goal.loop-child-preserved
loop-child-preserved c =
    let inv = c.loop-child.invariant in
    let found = c.count_tree-first.ensures in
    let past = c.if-rest-first.false in
    let next : c.args.many + 1 - (c.loop-child._child + 1) ≡ c.args.many + 1 - c.loop-child._child - 1 = omega arith in rw next (
      children-rest _ _ _ _ _ _ inv.0 _ found.0 past _ found.1,
      λ r h. inv.1 r (later-way _ _ _ _ _ _ inv.0 _ found.0 past _ r found.1 h),
    )

pub returns : goal.returns
returns c =
    let inv = c.loop-child.invariant in
    let few : c.args.many + 1 - c.loop-child._child < 2 = omega (arith, c.loop-child-test.false) in
    inv.1 _ (last-way _ _ _ _ _ _ inv.0 few)

pub overflow_sub-rest-in-loop-child : goal.overflow_sub-rest-in-loop-child
overflow_sub-rest-in-loop-child c = omega (arith, c.loop-child.invariant.0.some, c.if-rest-first.false)
