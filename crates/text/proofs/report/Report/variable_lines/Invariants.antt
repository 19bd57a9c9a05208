-- Before point i the lines from the i-th point on are left, and each line before has at most 51 bytes. Assumes nothing.
use Prim.Native.Nat.{◌+◌, ◌*◌, ◌≤◌}
use Rattle.laws.specs.Sheets.{sheet_of}
use Rattle.text.specs.Reports.{text_of_variable}
use Rattle.text.proofs.Writing.{Going}
use Rattle.text.proofs.Lines.{point_lines}
use Rattle.text.proofs.report.Report.variable_lines.Given as goal

abbrev pub invariant-loop-i : goal.invariant-loop-i
invariant-loop-i l = record {
  going : Going l.initial.w l.w (text_of_variable l.self l.v) (point_lines (sheet_of l.self.sheet.now) l.self.codes.now l.self.values.now l.v l.i);
  few : l.w.at ≤ l.initial.w.at + 51 * l.i;
}
