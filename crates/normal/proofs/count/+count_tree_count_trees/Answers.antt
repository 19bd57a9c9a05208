-- `normal::count_tree` and `normal::count_trees` meet their contracts, class by class: a leaf has one branch, an operator its operands'
-- combinations, a case its children's branches, any other node its child's; and a tree ends where its children end. Assumes nothing.
use Prim.Native.Nat.{ℕ, ◌+◌, ◌-◌, ◌≤◌, ◌<◌}
use mathlib.Core.Path.{◌≡◌, sym, ◌∙◌}
use mathlib.Core.Logic.{⊎_elim}
use native.Mathlib.Omega.{arith}
use Rattle.tree.specs.declared.Class.{Class}
use Rattle.tree.specs.Standing.{NodedAs}
use Rattle.tree.proofs.Classes.{restriction-arity, dependence-arity}
use Rattle.tree.proofs.Standings.{standing-noded, standing-some, standing-children, first-standing, rest-standing, node-ends, none-ends, more-ends}
use Rattle.normal.proofs.Counting.{leaf-way, leaf-ends, operator-way, case-way, restriction-below, dependence-below, below-standing, below-way, below-ends}
use Rattle.normal.proofs.Counting.{none-way, more-way}
use Rattle.normal.proofs.count.+count_tree_count_trees.Goals.{count_tree-After-node_end-next, count_tree-Start}
use Rattle.normal.proofs.count.+count_tree_count_trees.Goals as goal

-- the class that is told in an arm is the node's
class : (t : ℕ) (c : count_tree-After-node_end-next t) {k : Class} →
    c.class_of-class.result ≡ k → NodedAs c.args.s.now c.args.at k
class t c told =
    record {
      noded = standing-noded _ _ _ _ c.requires;
      class_is = sym c.class_of-class.ensures ∙ told;
    }

-- there is a node left
some : (t : ℕ) (c : count_tree-Start t) → 1 ≤ c.args.left
some t c = standing-some _ _ _ _ c.requires

pub count_tree-class_of-class-requires : goal.count_tree-class_of-class-requires
count_tree-class_of-class-requires t c = standing-noded _ _ _ _ c.requires

pub count_tree-node_end-next-requires : goal.count_tree-node_end-next-requires
count_tree-node_end-next-requires t c = standing-noded _ _ _ _ c.requires

pub count_tree-overflow_sub-left : goal.count_tree-overflow_sub-left
count_tree-overflow_sub-left t c = omega (arith, some t (goal.at.count_tree-overflow_sub-left t c).Start)

pub count_tree-children-requires : goal.count_tree-children-requires
count_tree-children-requires t c = standing-noded _ _ _ _ c.requires

pub count_tree-count_trees-requires : goal.count_tree-count_trees-requires
count_tree-count_trees-requires t c =
    let left = some t (goal.at.count_tree-count_trees-requires t c).Start in
    let is = c.decreases in
    (omega arith, (standing-children _ _ _ _ c.requires _ _ c.node_end-next.ensures c.children.ensures, omega arith))

pub count_tree-overflow_sub-left-in-Case : goal.count_tree-overflow_sub-left-in-Case
count_tree-overflow_sub-left-in-Case t c = omega (arith, some t (goal.at.count_tree-overflow_sub-left-in-Case t c).Start)

pub count_tree-children-requires-in-Case : goal.count_tree-children-requires-in-Case
count_tree-children-requires-in-Case t c = standing-noded _ _ _ _ c.requires

pub count_tree-count_trees-requires-in-Case : goal.count_tree-count_trees-requires-in-Case
count_tree-count_trees-requires-in-Case t c =
    let left = some t (goal.at.count_tree-count_trees-requires-in-Case t c).Start in
    let is = c.decreases in
    (omega arith, (standing-children _ _ _ _ c.requires _ _ c.node_end-next.ensures c.children-in-Case.ensures, omega arith))

pub count_tree-overflow_sub-left-in-Restriction : goal.count_tree-overflow_sub-left-in-Restriction
count_tree-overflow_sub-left-in-Restriction t c =
    omega (arith, some t (goal.at.count_tree-overflow_sub-left-in-Restriction t c).Start)

pub count_tree-count_tree-requires : goal.count_tree-count_tree-requires
count_tree-count_tree-requires t c =
    let left = some t (goal.at.count_tree-count_tree-requires t c).Start in
    let is = c.decreases in
    let here = (goal.at.count_tree-count_tree-requires t c).After-node_end-next in
    let arity =
    ⊎_elim (λ told. restriction-arity _ _ (class t here told)) (λ told. dependence-arity _ _ (class t here told)) c.in-Restriction.is in
    (omega arith, below-standing _ _ _ c.node_end-next.ensures _ c.requires arity)

pub count_tree-returns-in-Leaf : goal.count_tree-returns-in-Leaf
count_tree-returns-in-Leaf t c =
    let a-leaf = (class t (goal.at.count_tree-returns-in-Leaf t c).After-node_end-next c.in-Leaf.is).class_is in
    (leaf-way _ _ a-leaf, leaf-ends _ _ _ c.node_end-next.ensures a-leaf)

pub count_tree-returns-in-Operator : goal.count_tree-returns-in-Operator
count_tree-returns-in-Operator t c =
    let here = (goal.at.count_tree-returns-in-Operator t c).After-node_end-next in
    let counted = c.count_trees.ensures in (
      operator-way _ _ _ c.node_end-next.ensures _ _ c.children.ensures (class t here c.in-Operator.is).class_is counted.0,
      node-ends _ _ _ _ _ _ c.node_end-next.ensures c.children.ensures counted.1,
    )

pub count_tree-returns-in-Case : goal.count_tree-returns-in-Case
count_tree-returns-in-Case t c =
    let here = (goal.at.count_tree-returns-in-Case t c).After-node_end-next in
    let counted = c.count_trees-in-Case.ensures in (
      case-way _ _ _ c.node_end-next.ensures _ _ c.children-in-Case.ensures (class t here c.in-Case.is).class_is counted.0,
      node-ends _ _ _ _ _ _ c.node_end-next.ensures c.children-in-Case.ensures counted.1,
    )

pub count_tree-returns-in-Restriction : goal.count_tree-returns-in-Restriction
count_tree-returns-in-Restriction t c =
    let next = c.node_end-next.ensures in
    let here = (goal.at.count_tree-returns-in-Restriction t c).After-node_end-next in
    let below =
    ⊎_elim (λ told. restriction-below _ _ _ next (class t here told).class_is) (λ told. dependence-below _ _ _ next (class t here told).class_is)
    c.in-Restriction.is in
    let counted = c.count_tree.ensures in
    (below-way _ _ _ next below _ counted.0, below-ends _ _ _ next below _ counted.1)

pub count_trees-loop-tree-init : goal.count_trees-loop-tree-init
count_trees-loop-tree-init t c =
    let all : c.args.many - 0 ≡ c.args.many = omega arith in rw all (c.requires.0, c.requires.1, λ r h. h, λ r h. h)

pub count_trees-count_tree-one-requires : goal.count_trees-count_tree-one-requires
count_trees-count_tree-one-requires t c =
    let is = c.decreases in
    let some : 1 ≤ c.args.many - c.loop-tree._tree = omega (arith, c.loop-tree-test.true) in
    (omega arith, first-standing _ _ _ _ _ some c.loop-tree.invariant.0)

pub count_trees-loop-tree-preserved : goal.count_trees-loop-tree-preserved
count_trees-loop-tree-preserved t c =
    let loop = c.loop-tree in
    let left = c.args.many - loop._tree in
    let some : 1 ≤ c.args.many - loop._tree = omega (arith, c.loop-tree-test.true) in
    let next : c.args.many - (loop._tree + 1) ≡ c.args.many - loop._tree - 1 = omega arith in
    let one = c.count_tree-one.ensures in
    let sum = c.joined-sum.ensures in rw next (
      rest-standing _ _ _ _ _ some loop.invariant.0 _ one.1,
      omega (arith, sum),
      (λ r h. loop.invariant.2 r (more-way _ _ _ c.args.group loop.sum _ _ _ _ some one.0 one.1 sum h)),
      (λ r h. loop.invariant.3 r (more-ends _ _ _ _ _ _ some one.1 h)),
    )

pub count_trees-returns : goal.count_trees-returns
count_trees-returns t c =
    let loop = c.loop-tree in
    let none : c.args.many - loop._tree < 1 = omega (arith, c.loop-tree-test.false) in (
      loop.invariant.2 _ (none-way _ _ _ c.args.group loop.sum none loop.invariant.1),
      loop.invariant.3 _ (none-ends _ _ _ _ none),
    )
