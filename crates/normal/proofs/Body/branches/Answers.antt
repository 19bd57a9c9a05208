-- `normal::branches` meets its contract: a branch, and then those after it. Assumes nothing.
use Rattle.normal.proofs.Bodies.{none-puts, first-fits, rest-fits, more-puts}
use Rattle.normal.proofs.Body.branches.Goals as goal

pub loop-number-init : goal.loop-number-init
loop-number-init c = (c.requires.1, λ d r h. h)

pub branch-sum-requires : goal.branch-sum-requires
branch-sum-requires c =
    let l = c.loop-number in
    let more = c.loop-number-test.true in
    (record { body = c.requires.0; some = more }, first-fits _ _ _ _ _ more l.sum _ l.invariant.0)

pub loop-number-preserved : goal.loop-number-preserved
loop-number-preserved c =
    let l = c.loop-number in
    let more = c.loop-number-test.true in
    let mode = c.args.self.now.mode in
    let put = c.branch-sum.ensures in (
      rest-fits _ _ _ _ _ more mode l.sum _ l.out _ put l.invariant.0,
      λ d r h. l.invariant.1 d r (more-puts _ _ _ _ _ more mode l.sum _ l.out _ put d r h),
    )

pub returns : goal.returns
returns c =
    let l = c.loop-number in
    l.invariant.1 _ _ (none-puts _ _ _ _ _ c.args.self.now.mode l.sum l.out c.loop-number-test.false)
