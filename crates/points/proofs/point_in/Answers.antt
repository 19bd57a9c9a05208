-- `points::point_in` meets its contract: from the last coordinate to the first, those made so far are the point of a number in the box of
-- their ranges. Assumes nothing.
use Rattle.std.proofs.Common.{◌≡◌, ◌+◌, ◌-◌, ◌∙◌, arith, rules, w64}
use Rattle.std.proofs.lemmas.Int.{to_z-of_z}
use native.Mathlib.Nat.{mod-le}
use Rattle.points.proofs.Coordinates.{Making, making-none, making-more, making-end}
use Rattle.points.proofs.Ranges.{ranges-at}
use Rattle.points.proofs.point_in.Goals as goal

pub loop-k-init : goal.loop-k-init
loop-k-init c = making-none _ _ _ _

pub side-w-requires : goal.side-w-requires
side-w-requires c = ranges-at _ c.args.at _ (c.loop-k.k - 1) (grind arith) c.requires.0.ranges

pub nth-requires : goal.nth-requires
nth-requires c =
    let loop = c.loop-k in (
      ranges-at _ c.args.at _ (loop.k - 1) (grind arith) c.requires.0.ranges,
      omega (arith, mod-le loop.j c.side-w.result, loop.invariant.small, c.requires.0.small, c.requires.1),
    )

pub loop-k-preserved : goal.loop-k-preserved
loop-k-preserved c =
    let loop = c.loop-k in
    let width = c.side-w.ensures.is in
    let back : loop.k - 1 + 1 ≡ loop.k = grind arith in
    let before : Making c.args.s.now c.args.at c.args.i c.args.n (loop.k - 1 + 1) loop.j loop.z = rw back loop.invariant in
    let is = to_z-of_z w64 c.nth.result (search rules) ∙ rw width at c.nth.ensures in
    rw width (making-more (loop.k - 1) c.requires.0.few before _ is)

pub returns : goal.returns
returns c = making-end c.loop-k.k (grind arith) c.requires.1 c.loop-k.invariant
