-- `domain::Ground::stand` and `stand_all` meet their contracts: a tree stands as its node says of its children. Assumes nothing.
use Prim.Native.Nat.{◌+◌, ◌-◌, ◌≤◌}
use mathlib.Core.Path.{◌≡◌, sym, ◌∙◌}
use native.Mathlib.Omega.{arith}
use Rattle.tree.proofs.Classes.{code-there}
use Rattle.domain.proofs.Walks.{walk-standing, walk-noded, walk-some, walk-children, map-stands, image-fits, walk-image, walk_first, walk-rest}
use Rattle.domain.proofs.Restrictions.{restriction-testable, restriction-walk}
use Rattle.domain.proofs.Ways.{operands-way, branches-way, restriction-way, restriction-off-way, image-way}
use Rattle.domain.proofs.Ways.{sofar-none, sofar-more, sofar-all}
use Rattle.domain.proofs.Ground.+stand_stand_all.Goals as goal

-- ---- a tree: its node

pub stand-node_end-next-requires : goal.stand-node_end-next-requires
stand-node_end-next-requires t c = walk-noded _ _ _ _ c.requires

pub stand-overflow_sub-below : goal.stand-overflow_sub-below
stand-overflow_sub-below t c = walk-some _ _ _ _ c.requires

pub stand-class_of-requires : goal.stand-class_of-requires
stand-class_of-requires t c = walk-noded _ _ _ _ c.requires

-- ---- a leaf

pub stand-leaf_stands-requires : goal.stand-leaf_stands-requires
stand-leaf_stands-requires t c =
    record { noded = walk-noded _ _ _ _ c.requires; class_is = sym c.class_of.ensures ∙ c.in-Leaf.is }

pub stand-returns-in-Leaf : goal.stand-returns-in-Leaf
stand-returns-in-Leaf t c = rw c.node_end-next.ensures c.leaf_stands.ensures

-- ---- operands and branches

pub stand-children-requires : goal.stand-children-requires
stand-children-requires t c = walk-noded _ _ _ _ c.requires

pub stand-stand_all-requires : goal.stand-stand_all-requires
stand-stand_all-requires t c =
    let some = walk-some _ _ _ _ c.requires in
    let is = c.decreases in
    let operator = sym c.class_of.ensures ∙ c.in-Operator.is in
    (omega arith, walk-children _ _ _ _ c.requires _ _ c.node_end-next.ensures c.children.ensures (rw operator tt))

pub stand-returns-in-Operator : goal.stand-returns-in-Operator
stand-returns-in-Operator t c =
    let operator = sym c.class_of.ensures ∙ c.in-Operator.is in
    operands-way _ _ _ c.args.z c.node_end-next.ensures _ c.children.ensures operator _ c.stand_all.ensures

pub stand-children-requires-in-Case : goal.stand-children-requires-in-Case
stand-children-requires-in-Case t c = walk-noded _ _ _ _ c.requires

pub stand-stand_all-requires-in-Case : goal.stand-stand_all-requires-in-Case
stand-stand_all-requires-in-Case t c =
    let some = walk-some _ _ _ _ c.requires in
    let is = c.decreases in
    let case = sym c.class_of.ensures ∙ c.in-Case.is in
    (omega arith, walk-children _ _ _ _ c.requires _ _ c.node_end-next.ensures c.children-in-Case.ensures (rw case tt))

pub stand-returns-in-Case : goal.stand-returns-in-Case
stand-returns-in-Case t c =
    let case = sym c.class_of.ensures ∙ c.in-Case.is in
    branches-way _ _ _ c.args.z c.node_end-next.ensures _ c.children-in-Case.ensures case _ c.stand_all-in-Case.ensures

-- ---- a restriction

pub stand-restriction_meets-requires : goal.stand-restriction_meets-requires
stand-restriction_meets-requires t c =
    restriction-testable _ _ _ _ c.requires (sym c.class_of.ensures ∙ c.in-Restriction.is)

pub stand-stand-requires : goal.stand-stand-requires
stand-stand-requires t c =
    let some = walk-some _ _ _ _ c.requires in
    let is = c.decreases in
    (omega arith, restriction-walk _ _ _ _ c.requires (sym c.class_of.ensures ∙ c.in-Restriction.is) _ c.node_end-next.ensures)

pub stand-returns-in-Restriction : goal.stand-returns-in-Restriction
stand-returns-in-Restriction t c =
    restriction-way _ _ _ c.args.z c.node_end-next.ensures (sym c.class_of.ensures ∙ c.in-Restriction.is) _
    c.restriction_meets.ensures _ c.if-restriction_meets.true c.stand.ensures

pub stand-skip-requires : goal.stand-skip-requires
stand-skip-requires t c =
    walk-standing _ _ _ _ (restriction-walk _ _ _ _ c.requires (sym c.class_of.ensures ∙ c.in-Restriction-2.is) _ c.node_end-next.ensures)

pub stand-returns-in-Restriction-2 : goal.stand-returns-in-Restriction-2
stand-returns-in-Restriction-2 t c =
    restriction-off-way _ _ _ c.args.z c.node_end-next.ensures (sym c.class_of.ensures ∙ c.in-Restriction-2.is) _
    c.restriction_meets.ensures _ c.if-restriction_meets.false c.skip.ensures

-- ---- a dependence

pub stand-overflow_add-at : goal.stand-overflow_add-at
stand-overflow_add-at t c = omega (arith, code-there _ _ (walk-noded _ _ _ _ c.requires))

pub stand-image_at-requires : goal.stand-image_at-requires
stand-image_at-requires t c =
    let is = sym c.class_of.ensures ∙ c.in-Dependence.is in (map-stands _ _ _ _ c.requires is, image-fits _ _ _ _ c.requires is)

pub stand-stand-requires-in-Dependence : goal.stand-stand-requires-in-Dependence
stand-stand-requires-in-Dependence t c =
    let some = walk-some _ _ _ _ c.requires in
    let is = c.decreases in
    let y = c.image_at.ensures in
    let dependence = sym c.class_of.ensures ∙ c.in-Dependence.is in
    (omega arith, walk-image _ _ _ _ c.requires dependence _ y.read _ c.node_end-next.ensures _ y.is y.rest)

pub stand-returns-in-Dependence : goal.stand-returns-in-Dependence
stand-returns-in-Dependence t c =
    let y = c.image_at in
    image-way _ _ _ c.args.z c.node_end-next.ensures _ y.result _ (sym c.class_of.ensures ∙ c.in-Dependence.is)
    y.ensures.read y.ensures.is c.stand-in-Dependence.ensures

-- ---- several trees

pub stand_all-loop-init : goal.stand_all-loop-init
stand_all-loop-init t c =
    let all : c.args.count - 0 ≡ c.args.count = omega arith in
    rw all (record { left = c.requires; before = rw c.alone-how.ensures (sofar-none _ c.args.z c.args.together c.args.at c.args.count) })

pub stand_all-stand-one-requires : goal.stand_all-stand-one-requires
stand_all-stand-one-requires t c =
    let is = c.decreases in
    (omega arith, walk_first _ _ _ _ _ (omega (arith, c.loop-test.true)) c.loop.invariant.left)

pub stand_all-loop-preserved : goal.stand_all-loop-preserved
stand_all-loop-preserved t c =
    let loop = c.loop in
    let more : 1 ≤ c.args.count - loop.counter = omega (arith, c.loop-test.true) in
    let fewer : c.args.count - (loop.counter + 1) ≡ c.args.count - loop.counter - 1 = omega arith in
    let one = c.stand-one in
    rw fewer (record {
      left = walk-rest _ _ _ _ _ more loop.invariant.left _ (λ e q n h f. (one.ensures e q n h f).0);
      before = rw c.joined-how.ensures
          (sofar-more _ c.args.z c.args.together c.args.at c.args.count loop.how _ _ loop.invariant.before more one.result one.ensures);
    })

pub stand_all-returns : goal.stand_all-returns
stand_all-returns t c =
    let loop = c.loop in
    sofar-all _ c.args.z c.args.together c.args.at c.args.count loop.how _ _ loop.invariant.before (omega (arith, c.loop-test.false))
