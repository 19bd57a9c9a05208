-- `domain::element_inside` meets its contract: the point is one of the box. Assumes nothing.
use mathlib.Core.Path.{ap, ◌∙◌}
use native.Mathlib.Omega.{arith}
use Rattle.alpha.specs.Affine.{meets_all}
use Rattle.alpha.specs.Holds.{variable}
use Rattle.laws.specs.Sheets.{sheet_of}
use Rattle.domain.proofs.Records.{VariableLaid, laid-variable}
use Rattle.domain.proofs.Bodying.{point_at_lem, point-inside}
use Rattle.domain.proofs.inside.element_inside.Goals.{Start}
use Rattle.domain.proofs.inside.element_inside.Goals as goal

-- the variable
laid : (c : Start) → VariableLaid c.args.s.now c.args.tab.now c.args.v
laid c = laid-variable _ _ c.requires.0.placed _ c.requires.1.known

pub record_place-requires : goal.record_place-requires
record_place-requires c = (laid (goal.at.record_place-requires c).Start).low

pub point-z-requires : goal.point-z-requires
point-z-requires c =
    let l = laid (goal.at.point-z-requires c).Start in
    rw c.record_place.ensures (l.recorded, rw l.box-is (omega (arith, l.few)), rw l.box-is c.requires.1.low)

pub all_declared_meet-requires : goal.all_declared_meet-requires
all_declared_meet-requires c =
    let at = rw c.record_place.ensures at c.point-z.ensures in
    let l = laid (goal.at.all_declared_meet-requires c).Start in
    (c.requires.0, record { known = c.requires.1.known; in-box = point-inside _ _ _ _ l c.requires.1.low _ at })

pub returns : goal.returns
returns c =
    let at = rw c.record_place.ensures at c.point-z.ensures in
    let is = point_at_lem _ _ _ _ (laid (goal.at.returns c).Start) c.requires.1.low _ at in
    c.all_declared_meet.ensures ∙ ap (meets_all (variable (sheet_of c.args.s.now) c.args.v).declared) is
