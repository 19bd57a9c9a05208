-- `domain::Ground::body_stands` meets its contract: where the table says that the element is inside, the body is walked at the point.
-- Assumes nothing.
use mathlib.Core.Path.{◌∙◌}
use Rattle.domain.proofs.Records.{VariableLaid, laid-variable}
use Rattle.domain.proofs.Bodying.{within-asks, without-skips, body-walk, body-way}
use Rattle.domain.proofs.Ground.body_stands.Goals.{Start}
use Rattle.domain.proofs.Ground.body_stands.Goals as goal

-- the variable
laid : (c : Start) → VariableLaid c.args.self.now.sheet.now c.args.self.now.table.now c.args.v
laid c = laid-variable _ _ c.requires.0.placed _ c.requires.1.has_body.known

pub returns-then-not-self-first_element : goal.returns-then-not-self-first_element
returns-then-not-self-first_element c =
    without-skips _ _ _ _ (laid (goal.at.returns-then-not-self-first_element c).Start) c.requires.1.low _ c.args.self.now.grounds.inside_is
    (rw c.first_element.ensures at c.if-not-self-first_element.true)

pub stand-requires : goal.stand-requires
stand-requires c =
    let at = rw c.record_place.ensures at c.point-z.ensures in
    body-walk _ _ _ _ (laid (goal.at.stand-requires c).Start) c.requires.1.low c.requires.0 c.requires.1.has_body _ at _ c.body_place.ensures

pub returns : goal.returns
returns c =
    let at = rw c.record_place.ensures at c.point-z.ensures in
    let within = rw c.first_element.ensures at c.if-not-self-first_element.false in
    let v = laid (goal.at.returns c).Start in
    let low = c.requires.1.low in
    body-way _ _ _ _ v low c.requires.0 c.requires.1.has_body _ at _ c.body_place.ensures _ c.stand.ensures
    ∙ within-asks _ _ _ _ v low _ c.args.self.now.grounds.inside_is within
