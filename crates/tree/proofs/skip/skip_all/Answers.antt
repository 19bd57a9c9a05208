-- `tree::skip_all` meets its contract: the trees that are left from here on end where all of them end. Assumes nothing.
use mathlib.Core.Path.{refl}
use native.Mathlib.Omega.{arith}
use Rattle.laws.specs.Sheets.{vars_of}
use Rattle.tree.specs.Standing.{Standing}
use Rattle.tree.proofs.Standings.{standing-noded, standing-there, standing-long, children-few, first-standing, trees-few, none_left}
use Rattle.tree.proofs.Standings.{past-standing, past-ends}
use Rattle.tree.proofs.skip.skip_all.Goals.{In-loop-need}
use Rattle.tree.proofs.skip.skip_all.Goals as goal

-- the first of the trees that are left
first : (c : In-loop-need) → Standing (vars_of c.args.s.now) c.args.s.now c.loop-need.p
    c.args.left
first c = first-standing _ _ _ _ _ c.loop-need-test.true c.loop-need.invariant.0

pub children-requires : goal.children-requires
children-requires c = standing-noded _ _ _ _ (first (goal.at.children-requires c).In-loop-need)

pub overflow_add-need : goal.overflow_add-need
overflow_add-need c =
    let few = trees-few _ _ _ _ _ c.loop-need-test.true c.loop-need.invariant.0 in
    let most = children-few _ _ _ _ (first (goal.at.overflow_add-need c).In-loop-need) _ _ refl c.children.ensures in
    omega (arith, c.requires.most)

pub node_end-p-requires : goal.node_end-p-requires
node_end-p-requires c = standing-noded _ _ _ _ (first (goal.at.node_end-p-requires c).In-loop-need)

pub loop-need-smaller : goal.loop-need-smaller
loop-need-smaller c =
    let tree = first (goal.at.loop-need-smaller c).In-loop-need in
    omega (arith, standing-there _ _ _ _ tree, standing-long _ _ _ _ tree, c.node_end-p.ensures)

pub loop-need-preserved : goal.loop-need-preserved
loop-need-preserved c =
    let loop = c.loop-need in
    let some = c.loop-need-test.true in
    let next = c.node_end-p.ensures in
    let many = c.children.ensures in
    (past-standing _ _ _ _ _ _ some next many _ loop.invariant.0, λ r h. loop.invariant.1 r (past-ends _ _ _ _ _ _ some next many r h))

pub returns : goal.returns
returns c =
    c.loop-need.invariant.1 _ (λ es q h m. none_left _ _ es _ q _ (omega (arith, c.loop-need-test.false)) h m)
