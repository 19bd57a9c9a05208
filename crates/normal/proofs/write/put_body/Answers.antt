-- `normal::put_body` meets its contract: the case's two numbers, then its branches. Assumes nothing.
use mathlib.Core.Path.{refl, ap, ◌∙◌}
use native.Mathlib.Omega.{arith}
use mathlib.Core.List.{◌++◌}
use lib.ListN.{length}
use lib.Seq.{length-sets}
use Rattle.alpha.specs.Field.{nat}
use Rattle.tree.proofs.Passing.{few}
use Rattle.normal.proofs.Laying.{sets-after, length-nat}
use Rattle.normal.proofs.Plans.{body-at}
use Rattle.normal.proofs.Storing.{few-branches, body-stored, head-room, branch-rooms}
use Rattle.normal.proofs.write.put_body.Goals as goal

pub body_place-at-requires : goal.body_place-at-requires
body_place-at-requires c = few _ _ c.requires.0.formed.placed _ c.requires.0.known

pub put_nat-requires : goal.put_nat-requires
put_nat-requires c =
    omega (
      arith,
      head-room _ _ _ c.requires.0 _ _ c.body_place-at.ensures refl _ c.count_tree-many.ensures.0
          c.args.out.now c.args.to c.requires.1,
    )

pub put_nat-requires-2 : goal.put_nat-requires-2
put_nat-requires-2 c =
    omega (
      arith,
      head-room _ _ _ c.requires.0 _ _ c.body_place-at.ensures refl _ c.count_tree-many.ensures.0 c.args.out.now
          c.args.to c.requires.1,
    )

pub turn-requires : goal.turn-requires
turn-requires c =
    let w = c.requires.0 in
    let place = c.body_place-at.ensures in
    let dim = c.dimension_of.ensures in
    let counted = c.count_tree-many.ensures.0 in
    let many = c.count_tree-many.result.many in
    let two =
    sets-after c.args.out.now c.args.to 8 (nat 6) (nat many) (length-nat 6) c.put_nat.ensures
    c.put_nat-2.ensures in
    let same = ap length two ∙ length-sets c.args.out.now c.args.to (nat 6 ++ nat many) in (
      body-at _ _ w.formed _ w.known w.body _ _ place dim.0 _ counted (few-branches _ _ _ w _ _ place dim.0 _ counted) dim.1,
      branch-rooms _ _ _ w _ _ place dim.0 _ counted c.args.out.now c.put_nat-2.new.b c.args.to same c.requires.1,
    )

pub returns : goal.returns
returns c =
    let dim = c.dimension_of.ensures in
    body-stored _ _ _ c.requires.0 _ _ c.body_place-at.ensures dim.0 _ c.count_tree-many.ensures.0 c.args.out.now
    c.args.to
    c.put_nat.ensures c.put_nat-2.ensures c.turn.ensures
