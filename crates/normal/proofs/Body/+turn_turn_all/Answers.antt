-- `normal::turn` and `normal::turn_all` meet their contracts: a case has its children's branches, and any other tree its own. Assumes nothing.
use Prim.Native.Nat.{◌+◌, ◌-◌, ◌<◌}
use mathlib.Core.Path.{◌≡◌, sym, ◌∙◌}
use native.Mathlib.Omega.{arith}
use Rattle.tree.proofs.Standings.{standing-noded, standing-some, first-standing}
use Rattle.normal.proofs.Bodies.{tree-standing}
use Rattle.normal.proofs.Turns.{case-bodies, case-fits, case-puts, trees-standing, counted-exact, first-low, first_body, first-fits, rest-bodies, rest-fit}
use Rattle.normal.proofs.Turns.{more-puts, last-body, last-fits, last-puts}
use Rattle.normal.proofs.Body.+turn_turn_all.Goals as goal

pub turn-class_of-class-requires : goal.turn-class_of-class-requires
turn-class_of-class-requires t c = standing-noded _ _ _ _ (tree-standing _ _ _ _ _ c.requires.0)

pub turn-node_end-next-requires : goal.turn-node_end-next-requires
turn-node_end-next-requires t c = standing-noded _ _ _ _ (tree-standing _ _ _ _ _ c.requires.0)

pub turn-children-many-requires : goal.turn-children-many-requires
turn-children-many-requires t c = standing-noded _ _ _ _ (tree-standing _ _ _ _ _ c.requires.0)

pub turn-overflow_sub-left : goal.turn-overflow_sub-left
turn-overflow_sub-left t c = omega (arith, standing-some _ _ _ _ (tree-standing _ _ _ _ _ c.requires.0))

pub turn-turn_all-requires : goal.turn-turn_all-requires
turn-turn_all-requires t c =
    let some = standing-some _ _ _ _ (tree-standing _ _ _ _ _ c.requires.0) in
    let next = c.node_end-next.ensures in
    let many = c.children-many.ensures in
    let is = c.decreases in
    let a_case = sym c.class_of-class.ensures ∙ c.in-Case.is in (
      omega arith,
      (
        case-bodies _ _ _ _ _ _ a_case next many _ c.requires.0,
        case-fits _ _ _ _ _ _ a_case next many _ c.requires.0 _ _ c.requires.1,
      ),
    )

pub turn-returns-in-Case : goal.turn-returns-in-Case
turn-returns-in-Case t c =
    let a_case = sym c.class_of-class.ensures ∙ c.in-Case.is in
    case-puts _ _ _ _ _ _ a_case c.node_end-next.ensures c.children-many.ensures c.args.self.now.mode c.args.sofar _ _ _ c.turn_all.ensures

pub turn_all-loop-child-init : goal.turn_all-loop-child-init
turn_all-loop-child-init t c =
    let all : c.args.many + 1 - 1 ≡ c.args.many = omega arith in rw all (c.requires.0, c.requires.1, λ d r h. h)

pub turn_all-count_tree-one-requires : goal.turn_all-count_tree-one-requires
turn_all-count_tree-one-requires t c =
    let h = c.loop-child.invariant.0 in
    first-standing _ _ _ _ _ h.some (trees-standing _ _ _ _ _ _ h)

pub turn_all-turn-sum-requires : goal.turn_all-turn-sum-requires
turn_all-turn-sum-requires t c =
    let loop = c.loop-child in
    let inv = loop.invariant in
    let found = c.count_tree-one.ensures in
    let exact = counted-exact _ _ _ _ _ _ inv.0 _ found.0 in
    let is = c.decreases in (
      omega arith,
      (
        first_body _ _ _ _ _ _ inv.0 _ _ exact found.1,
        first-fits _ _ _ _ _ _ inv.0 _ _ exact found.1 loop.sum _ inv.1,
      ),
    )

pub turn_all-overflow_sub-rest : goal.turn_all-overflow_sub-rest
turn_all-overflow_sub-rest t c =
    let inv = c.loop-child.invariant in
    let found = c.count_tree-one.ensures in
    omega (arith, first-low _ _ _ _ _ _ inv.0 _ _ (counted-exact _ _ _ _ _ _ inv.0 _ found.0) found.1)

pub turn_all-loop-child-preserved : goal.turn_all-loop-child-preserved
turn_all-loop-child-preserved t c =
    let loop = c.loop-child in
    let inv = loop.invariant in
    let mode = c.args.self.now.mode in
    let others : 1 < c.args.many + 1 - loop._child = omega (arith, c.loop-child-test.true) in
    let next : c.args.many + 1 - (loop._child + 1) ≡ c.args.many + 1 - loop._child - 1 = omega arith in
    let found = c.count_tree-one.ensures in
    let exact = counted-exact _ _ _ _ _ _ inv.0 _ found.0 in
    let put = c.turn-sum.ensures in rw next (
      rest-bodies _ _ _ _ _ _ inv.0 _ _ exact found.1 others,
      rest-fit _ _ _ _ _ _ inv.0 _ _ exact found.1 mode loop.sum _ loop.out _ put inv.1,
      λ d r h. inv.2 d r (more-puts _ _ _ _ _ _ inv.0 _ _ exact found.1 mode loop.sum _ loop.out _ put d r h),
    )

pub turn_all-turn-requires : goal.turn_all-turn-requires
turn_all-turn-requires t c =
    let loop = c.loop-child in
    let inv = loop.invariant in
    let few : c.args.many + 1 - loop._child < 2 = omega (arith, c.loop-child-test.false) in
    let is = c.decreases in
    (omega arith, (last-body _ _ _ _ _ _ inv.0 few, last-fits _ _ _ _ _ _ inv.0 few loop.sum _ inv.1))

pub turn_all-returns : goal.turn_all-returns
turn_all-returns t c =
    let loop = c.loop-child in
    let few : c.args.many + 1 - loop._child < 2 = omega (arith, c.loop-child-test.false) in
    loop.invariant.2 _ _ (last-puts _ _ _ _ _ _ loop.invariant.0 few c.args.self.now.mode loop.sum _ loop.out _ c.turn.ensures)
