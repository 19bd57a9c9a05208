-- `evaluate::Evaluator::body` meets its contract: the element's variable and its point are found, and the body is worked out there. Assumes nothing.
use native.Mathlib.Omega.{arith}
use Rattle.laws.specs.Sheets.{sheet_of}
use Rattle.evaluate.specs.Working.{element_at, Bodied}
use Rattle.evaluate.proofs.Owning.{owned-low}
use Rattle.evaluate.proofs.Elements.{element-held, body-evaluated, body-by-number}
use Rattle.evaluate.proofs.Evaluator.body.Goals.{After-body_place-at}
use Rattle.evaluate.proofs.Evaluator.body.Goals as goal

-- it is in progress, and so it has a body
bodied : (c : After-body_place-at) → Bodied (sheet_of c.args.self.now.ground.sheet.now) (element_at (sheet_of c.args.self.now.ground.sheet.now) c.args.e)
bodied c = let p = c.requires in c.args.self.now.ready.opens _ p.1.element (omega (arith, p.1.marked))

pub body_place-at-requires : goal.body_place-at-requires
body_place-at-requires c = omega (arith, owned-low _ _ c.requires.0 _ _ c.owner-v.ensures)

pub expression-requires : goal.expression-requires
expression-requires c =
    let setting = c.requires.0 in
    (setting, element-held _ _ setting _ _ _ c.point_of-z.ensures (bodied (goal.at.expression-requires c).After-body_place-at) _ c.body_place-at.ensures)

pub returns-clause-done : goal.returns-clause-done
returns-clause-done c =
    let formed = c.requires.0 in
    let here = c.point_of-z.ensures in
    let has = bodied (goal.at.returns-clause-done c).After-body_place-at in
    let done = body-evaluated _ _ formed _ _ _ here has _ c.body_place-at.ensures _ _ _ c.expression.ensures.done in
    rw c.answer_of.ensures (body-by-number _ _ formed _ _ _ here has _ _ _ done)
