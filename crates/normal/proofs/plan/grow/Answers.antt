-- `normal::grow` meets its contract: WIDE where the body breaks a limit, and else the totals with it. Assumes nothing.
use mathlib.Core.Path.{refl}
use Prim.Native.Nat.{◌≤◌}
use native.Mathlib.Omega.{arith}
use Rattle.tree.proofs.Passing.{few}
use Rattle.normal.proofs.Bodies.{measure-fits}
use Rattle.normal.proofs.Plans.{body-at, many-way, wide-way, fits-way}
use Rattle.normal.proofs.plan.grow.Goals as goal

pub body_place-at-requires : goal.body_place-at-requires
body_place-at-requires c = few _ _ c.requires.formed.placed _ c.requires.known

pub returns-then-many-gt64 : goal.returns-then-many-gt64
returns-then-many-gt64 c =
    many-way _ _ c.requires.formed _ c.requires.known c.requires.body _ _ c.body_place-at.ensures refl _ c.count_tree-many.ensures.0 _ _
    c.if-many-gt64.true

pub turn-all-requires : goal.turn-all-requires
turn-all-requires c =
    let dim = c.dimension_of.ensures in
    let low : c.count_tree-many.result.many ≤ 64 = omega (arith, c.if-many-gt64.false) in
    let there = body-at _ _ c.requires.formed _ c.requires.known c.requires.body _ _ c.body_place-at.ensures dim.0 _ c.count_tree-many.ensures.0 low dim.1 in
    (there, measure-fits _ _ _ _ _ there _ (omega (arith, c.requires.nodes_low)) (omega (arith, c.requires.size_low)))

pub returns-then-all-gt64 : goal.returns-then-all-gt64
returns-then-all-gt64 c =
    let dim = c.dimension_of.ensures in
    wide-way _ _ c.requires.formed _ c.requires.known c.requires.body _ _ c.body_place-at.ensures dim.0 _ c.count_tree-many.ensures.0
    c.args.sofar.nodes c.args.sofar.bytes
    c.if-many-gt64.false dim.1 _ _ _ c.turn-all.ensures (λ k l d b. omega (arith, c.then-all-gt64.either))

pub returns : goal.returns
returns c =
    let dim = c.dimension_of.ensures in
    fits-way _ _ c.requires.formed _ c.requires.known c.requires.body _ _ c.body_place-at.ensures dim.0 _ c.count_tree-many.ensures.0
    c.args.sofar.nodes c.args.sofar.bytes
    c.if-many-gt64.false dim.1 _ _ _ c.turn-all.ensures c.if-all-gt2048.false c.if-all-gt64.false c.if-all-gt30.false
    c.if-all-gt65536.false
