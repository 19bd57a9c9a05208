-- The name where the record stands, and the point of the box. Assumes nothing.
use mathlib.Core.Path.{◌≡◌, ap}
use native.Mathlib.Omega.{arith}
use lib.ListN.{length, take}
use Rattle.alpha.specs.Box.{point_at}
use Rattle.alpha.specs.Holds.{variable}
use Rattle.alpha.specs.Program.{spaced}
use Rattle.laws.specs.Sheets.{sheet_of}
use Rattle.text.proofs.Writing.{wrote-more, wrote-is}
use Rattle.text.proofs.Elements.{name-length}
use Rattle.text.proofs.Variables.{laid, laid-name, laid-part, laid-length}
use Rattle.text.proofs.report.Report.element.Goals.{After-dimension_of-n}
use Rattle.text.proofs.report.Report.element.Goals as goal

-- the coordinates are those of that point
point-is : (c : After-dimension_of-n) → spaced (take c.dimension_of-n.result c.point-z.result)
    ≡ spaced (point_at (variable (sheet_of c.args.self.now.sheet.now) c.args.v).head.box c.args.i)
point-is c =
    let at = rw c.record_place-place.ensures at c.point-z.ensures in
    let point = c.requires.point in
    let n = c.dimension_of-n.ensures in
    laid-part _ _ c.requires.formed _ point.known c.args.i point.low _ _ n.0 at (omega (arith, n.1))

pub record_place-place-requires : goal.record_place-place-requires
record_place-place-requires c = (laid _ _ c.requires.formed _ c.requires.point.known).low

pub point-z-requires : goal.point-z-requires
point-z-requires c =
    let l = laid _ _ c.requires.formed _ c.requires.point.known in
    rw c.record_place-place.ensures (l.recorded, rw l.box-is (omega (arith, l.few)), rw l.box-is c.requires.point.low)

pub name-requires : goal.name-requires
name-requires c =
    let l = laid _ _ c.requires.formed _ c.requires.point.known in (
      rw c.record_place-place.ensures (omega (arith, l.recorded.fields)),
      omega (arith, name-length c.args.self.now.sheet.now c.record_place-place.result, c.requires.room),
    )

pub coordinates-requires : goal.coordinates-requires
coordinates-requires c =
    let is = ap length (point-is (goal.at.coordinates-requires c).After-dimension_of-n) in
    let few = laid-length _ _ c.requires.formed _ c.requires.point.known c.args.i c.requires.point.low in
    let name = name-length c.args.self.now.sheet.now c.record_place-place.result in
    omega (arith, is, few, name, c.name.ensures.ends, c.requires.room)

pub returns : goal.returns
returns c =
    let is = point-is (goal.at.returns c).After-dimension_of-n in
    let r = c.args.self.now in
    let few = laid-length _ _ c.requires.formed _ c.requires.point.known c.args.i c.requires.point.low in
    let name = name-length r.sheet.now c.record_place-place.result in
    let named = rw c.record_place-place.ensures at c.name.ensures in
    let first = wrote-is named (laid-name _ _ c.requires.formed _ c.requires.point.known) in
    let rest = c.coordinates.ensures in
    record {
      wrote = wrote-more first (wrote-is rest is);
      few = omega (arith, ap length is, few, name, c.name.ensures.ends, rest.ends);
    }
