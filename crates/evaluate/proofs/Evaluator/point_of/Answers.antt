-- `evaluate::Evaluator::point_of` meets its contract: the element's place among its variable's is the number of its point. Assumes nothing.
use Prim.Native.Nat.{◌<◌}
use native.Mathlib.Omega.{arith}
use Rattle.domain.proofs.Records.{laid-variable}
use Rattle.evaluate.proofs.Owning.{owned-low, place-low, owned-element}
use Rattle.evaluate.proofs.Evaluator.point_of.Goals.{Start}
use Rattle.evaluate.proofs.Evaluator.point_of.Goals as goal

low : (c : Start) → c.args.v < 32
low c = owned-low _ _ c.requires.0 _ _ c.requires.1

pub first_element-first-requires : goal.first_element-first-requires
first_element-first-requires c = omega (arith, low (goal.at.first_element-first-requires c).Start)

pub record_place-requires : goal.record_place-requires
record_place-requires c = low (goal.at.record_place-requires c).Start

pub point-requires : goal.point-requires
point-requires c =
    let owns = c.requires.1 in
    let f = c.requires.0 in
    let l = laid-variable _ _ f.placed _ owns.known in
    let low = place-low _ _ f _ _ owns in
    rw (c.record_place.ensures, c.first_element-first.ensures) (l.recorded, rw l.box-is (omega (arith, l.few)), rw l.box-is low)

pub returns : goal.returns
returns c =
    let place = rw (c.record_place.ensures, c.first_element-first.ensures) at c.point.ensures in
    owned-element _ _ c.requires.0 _ _ c.requires.1 _ place
