-- Before variable v the lines from that variable on are left. Assumes nothing.
use Prim.Native.Nat.{◌+◌, ◌*◌, ◌≤◌}
use Rattle.alpha.specs.Ask.{before}
use Rattle.laws.specs.Sheets.{sheet_of}
use Rattle.text.specs.Reports.{text_of_lines}
use Rattle.text.proofs.Writing.{Going}
use Rattle.text.proofs.Lines.{variable_lines}
use Rattle.text.proofs.report.Report.lines.Given as goal

abbrev pub invariant-loop-v : goal.invariant-loop-v
invariant-loop-v l = record {
  going : Going l.initial.w l.w (text_of_lines l.self) (variable_lines (sheet_of l.self.sheet.now) l.self.codes.now l.self.values.now l.v);
  few : l.w.at ≤ l.initial.w.at + 51 * before (sheet_of l.self.sheet.now) l.v;
}
