-- A variable's lines are the first of those that are left. Assumes nothing.
use mathlib.Core.Path.{◌≡◌, sym, ap, ◌∙◌}
use Prim.Native.Nat.{suc, ◌+◌, ◌<◌}
use native.Mathlib.Omega.{arith}
use lib.ListN.{length}
use Rattle.alpha.specs.Ask.{before}
use Rattle.laws.specs.Sheets.{sheet_of}
use Rattle.laws.proofs.Elements.{before-suc, before-all, before-fits}
use Rattle.text.proofs.Writing.{going_start, going-wrote, going_end}
use Rattle.text.proofs.Lines.{variables-end, variables-more}
use Rattle.text.proofs.report.Report.lines.Goals.{After-variable_count-v-end}
use Rattle.text.proofs.report.Report.lines.Goals as goal

-- the table says how many variables the sheet has
count-is : (c : After-variable_count-v-end) → c.variable_count-v-end.result ≡ length (sheet_of c.args.self.now.sheet.now)
count-is c =
    let placed = c.requires.formed.placed in
    c.variable_count-v-end.ensures ∙ placed.prepared.table.variables ∙ sym placed.many

pub variable_lines-requires : goal.variable_lines-requires
variable_lines-requires c =
    let s = sheet_of c.args.self.now.sheet.now in
    let l = c.loop-v in
    let many = count-is (goal.at.variable_lines-requires c).After-variable_count-v-end in
    let fits = before-fits s l.v (omega (arith, many, c.loop-v-test.true)) in
    record {
      formed = c.requires.formed;
      known = omega (arith, many, c.requires.formed.placed.many, c.loop-v-test.true);
      room = omega (arith, l.invariant.going.sized, l.invariant.few, fits, c.requires.room);
    }

pub loop-v-init : goal.loop-v-init
loop-v-init c = record { going = going_start _ _; few = omega arith }

pub loop-v-preserved : goal.loop-v-preserved
loop-v-preserved c =
    let r = c.args.self.now in
    let l = c.loop-v in
    let low : l.v < length (sheet_of r.sheet.now) =
    omega (arith, count-is (goal.at.loop-v-preserved c).After-variable_count-v-end, c.loop-v-test.true) in
    let more = variables-more (sheet_of r.sheet.now) r.codes.now r.values.now l.v low in
    let wrote = c.variable_lines.ensures in
    let on : l.v + 1 ≡ suc l.v = omega arith in
    record {
      going = going-wrote l.invariant.going _ more wrote.wrote;
      few = rw on (omega (arith, before-suc (sheet_of r.sheet.now) l.v low, wrote.few, l.invariant.few));
    }

pub returns : goal.returns
returns c =
    let r = c.args.self.now in
    let l = c.loop-v in
    let all : length (sheet_of r.sheet.now) ≡ l.v =
    omega (arith, count-is (goal.at.returns c).After-variable_count-v-end, c.loop-v-test.false, l.auto.v-end) in
    let none = variables-end (sheet_of r.sheet.now) r.codes.now r.values.now l.v (omega (arith, all)) in
    let total = ap (before (sheet_of r.sheet.now)) (sym all) ∙ before-all (sheet_of r.sheet.now) in
    record { wrote = going_end l.invariant.going none; few = omega (arith, l.invariant.few, total) }
