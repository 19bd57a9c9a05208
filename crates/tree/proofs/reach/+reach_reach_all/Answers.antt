-- `tree::reach` and `tree::reach_all` meet their contracts: a tree by its node and then by its children. Assumes nothing.
use Prim.Native.Nat.{◌+◌, ◌-◌, ◌≤◌}
use mathlib.Core.Path.{◌≡◌}
use native.Mathlib.Omega.{arith}
use Rattle.tree.proofs.Standings.{standing-noded, standing-some, standing-children, first-standing, rest-standing}
use Rattle.tree.proofs.Reaching.{reach-some, reach-past, reach-goes, trees-none-bounded, first_ends, trees-beyond, trees-bounded}
use Rattle.tree.proofs.reach.+reach_reach_all.Goals as goal

pub reach-reach_below-requires : goal.reach-reach_below-requires
reach-reach_below-requires t c = (standing-noded _ _ _ _ c.requires.0, c.requires.1)

pub reach-returns-in_err-below : goal.reach-returns-in_err-below
reach-returns-in_err-below t c =
    let h = c.from_residual.ensures in
    rw h (reach-past _ _ _ _ c.reach_below.ensures c.in_err-below.was)

pub reach-node_end-requires : goal.reach-node_end-requires
reach-node_end-requires t c = standing-noded _ _ _ _ c.requires.0

pub reach-overflow_sub-left : goal.reach-overflow_sub-left
reach-overflow_sub-left t c = omega (arith, standing-some _ _ _ _ c.requires.0)

pub reach-children-requires : goal.reach-children-requires
reach-children-requires t c = standing-noded _ _ _ _ c.requires.0

pub reach-reach_all-requires : goal.reach-reach_all-requires
reach-reach_all-requires t c =
    let is = c.decreases in
    let h = c.requires in
    let least = standing-some _ _ _ _ h.0 in
    let next = c.node_end.ensures in
    let many = c.children.ensures in
    let says = c.reach_below.ensures in
    let below = reach-some _ _ _ _ says h.1 (standing-noded _ _ _ _ h.0) _ c.in_ok-below.was in
    (omega arith, (standing-children _ _ _ _ h.0 _ _ next many, omega (arith, h.1, below)))

pub reach-returns : goal.reach-returns
reach-returns t c =
    let says = c.reach_below.ensures in
    let next = c.node_end.ensures in
    reach-goes _ _ _ _ says _ c.in_ok-below.was _ _ next c.children.ensures _ c.reach_all.ensures

pub reach_all-reach-requires : goal.reach_all-reach-requires
reach_all-reach-requires t c =
    let is = c.decreases in
    (omega arith, (first-standing _ _ _ _ _ (omega arith) c.loop.invariant.stand, c.requires.1))

pub reach_all-returns-in_err-next : goal.reach_all-returns-in_err-next
reach_all-returns-in_err-next t c =
    let h = c.from_residual.ensures in
    rw h (c.loop.invariant.decide _ (trees-beyond _ _ _ _ (omega arith) _ c.reach.ensures c.in_err-next.was))

pub reach_all-loop-preserved : goal.reach_all-loop-preserved
reach_all-loop-preserved t c =
    let loop = c.loop.invariant in
    let some : 1 ≤ c.args.count - c.loop.counter = omega arith in
    let first = c.reach.ensures in
    let next = c.in_ok-next.was in
    let less : c.args.count - (c.loop.counter + 1) + 1 ≡ c.args.count - c.loop.counter = omega arith in
    let rest : c.args.count - (c.loop.counter + 1) ≡ c.args.count - c.loop.counter - 1 = omega arith in
    record {
      stand = rw rest (rest-standing _ _ _ _ _ some loop.stand _ (first_ends _ _ _ _ some _ first _ next));
      decide = λ r h. loop.decide r (trees-bounded _ _ _ _ some _ first _ next _ less r h);
    }

pub reach_all-returns : goal.reach_all-returns
reach_all-returns t c = c.loop.invariant.decide _ (trees-none-bounded _ _ _ _ (omega arith))
