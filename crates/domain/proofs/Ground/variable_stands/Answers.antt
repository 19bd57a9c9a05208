-- `domain::Ground::variable_stands` meets its contract: off the box it does not hold, and in the box the table tells. Assumes nothing.
use mathlib.Core.Path.{◌≡◌, sym, ◌∙◌}
use native.Mathlib.Omega.{arith}
use lib.ListN.{get_or}
use Rattle.std.specs.Prelude.{Some}
use Rattle.affine.specs.Value.{point_of}
use Rattle.sheet.specs.Record.{dimension_at}
use Rattle.points.specs.Number.{box_of, number_in}
use Rattle.domain.specs.Ground.{Laid}
use Rattle.domain.proofs.Leaves.{off-stands, element-low, within-stands, without-stands}
use Rattle.domain.proofs.Ground.variable_stands.Goals.{In-Some, Start}
use Rattle.domain.proofs.Ground.variable_stands.Goals as goal

-- the variable
laid : (c : Start) → Laid c.args.self.now.sheet.now c.args.self.now.table.now c.args.v
laid c = c.args.self.now.grounds.laid c.args.v c.requires

-- its number in the box
numbered : (c : In-Some) → Some c.in-Some.i
    ≡ number_in (box_of c.args.self.now.sheet.now (get_or c.args.self.now.table.now.records c.args.v 0))
    (point_of (dimension_at c.args.self.now.sheet.now (get_or c.args.self.now.table.now.records c.args.v 0)) c.args.z)
numbered c = rw c.record_place.ensures at (sym c.in-Some.is ∙ c.index-found.ensures)

pub returns-in_default : goal.returns-in_default
returns-in_default c =
    off-stands _ _ _ c.args.z (laid (goal.at.returns-in_default c).Start)
    (rw c.record_place.ensures at (sym c.in_default.is ∙ c.index-found.ensures))

pub overflow_add-first_element : goal.overflow_add-first_element
overflow_add-first_element c =
    let way = goal.at.overflow_add-first_element c in
    omega (arith, element-low _ _ _ c.args.z (laid way.Start) _ (numbered way.In-Some), c.first_element.ensures)

pub bounds-self-first_element : goal.bounds-self-first_element
bounds-self-first_element c =
    let way = goal.at.bounds-self-first_element c in
    omega (arith, element-low _ _ _ c.args.z (laid way.Start) _ (numbered way.In-Some), c.first_element.ensures)

pub returns-then-self-first_element : goal.returns-then-self-first_element
returns-then-self-first_element c =
    let way = goal.at.returns-then-self-first_element c in
    within-stands _ _ _ c.args.z (laid way.Start) _ (numbered way.In-Some) _ c.args.self.now.grounds.inside_is
    (rw c.first_element.ensures at c.if-self-first_element.true)

pub returns-else-self-first_element : goal.returns-else-self-first_element
returns-else-self-first_element c =
    let way = goal.at.returns-else-self-first_element c in
    without-stands _ _ _ c.args.z (laid way.Start) _ (numbered way.In-Some) _ c.args.self.now.grounds.inside_is
    (rw c.first_element.ensures at c.if-self-first_element.false)
