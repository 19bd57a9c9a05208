-- A point's line is the first of those that are left. Assumes nothing.
use mathlib.Core.Path.{◌≡◌}
use Prim.Native.Nat.{◌-◌}
use native.Mathlib.Omega.{arith}
use Rattle.alpha.specs.Box as Box
use Rattle.alpha.specs.Holds.{variable}
use Rattle.laws.specs.Sheets.{sheet_of}
use Rattle.text.proofs.Writing.{going_start, going-wrote, going_end}
use Rattle.text.proofs.Lines.{points-start, points-end, points-more}
use Rattle.text.proofs.Variables.{laid}
use Rattle.text.proofs.report.Report.variable_lines.Goals.{After-first_element-next}
use Rattle.text.proofs.report.Report.variable_lines.Goals as goal

-- how many points there are
size_is : (c : After-first_element-next) → c.first_element-next.result - c.first_element-first.result
    ≡ Box.size (variable (sheet_of c.args.self.now.sheet.now) c.args.v).head.box
size_is c =
    let l = laid _ _ c.requires.formed _ c.requires.known in
    omega (arith, l.first_is, l.last-is, c.first_element-first.ensures, c.first_element-next.ensures)

pub first_element-first-requires : goal.first_element-first-requires
first_element-first-requires c = omega (arith, (laid _ _ c.requires.formed _ c.requires.known).low)

pub overflow_add-v : goal.overflow_add-v
overflow_add-v c = omega (arith, (laid _ _ c.requires.formed _ c.requires.known).low)

pub first_element-next-requires : goal.first_element-next-requires
first_element-next-requires c = omega (arith, (laid _ _ c.requires.formed _ c.requires.known).low)

pub overflow_sub-i-end : goal.overflow_sub-i-end
overflow_sub-i-end c =
    let l = laid _ _ c.requires.formed _ c.requires.known in
    omega (arith, l.first_is, l.last-is, c.first_element-first.ensures, c.first_element-next.ensures)

pub loop-i-init : goal.loop-i-init
loop-i-init c = record { going = rw points-start (going_start _ _); few = omega arith }

pub line-requires : goal.line-requires
line-requires c =
    let l = c.loop-i in
    let many = size_is (goal.at.line-requires c).After-first_element-next in
    record {
      formed = c.requires.formed;
      point = record { known = c.requires.known; low = omega (arith, many) };
      room = omega (arith, l.invariant.going.sized, l.invariant.few, many, c.loop-i-test.true, c.requires.room);
    }

pub loop-i-preserved : goal.loop-i-preserved
loop-i-preserved c =
    let r = c.args.self.now in
    let l = c.loop-i in
    let many = size_is (goal.at.loop-i-preserved c).After-first_element-next in
    let more = points-more (sheet_of r.sheet.now) r.codes.now r.values.now c.args.v l.i (omega (arith, many, c.loop-i-test.true)) in
    record { going = going-wrote l.invariant.going _ more c.line.ensures.wrote; few = omega (arith, c.line.ensures.few, l.invariant.few) }

pub returns : goal.returns
returns c =
    let r = c.args.self.now in
    let l = c.loop-i in
    let many = size_is (goal.at.returns c).After-first_element-next in
    let none = points-end (sheet_of r.sheet.now) r.codes.now r.values.now c.args.v l.i (omega (arith, many, c.loop-i-test.false)) in
    record { wrote = going_end l.invariant.going none; few = omega (arith, l.invariant.few, l.auto.i-end, many) }
