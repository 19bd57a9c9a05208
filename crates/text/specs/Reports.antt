-- What a report tells of, and the texts of its parts. Assumes nothing.
use Rattle.std.specs.Prelude.{◌≡◌, ℕ, List}
use Rattle.alpha.specs.Check.{elements, total}
use Rattle.alpha.specs.Ask.{before}
use Rattle.laws.specs.Sheets.{sheet_of}
use Rattle.tree.specs.Formed.{Formed}
use Rattle.domain.specs.Element.{elements_of}
use Rattle.text.specs.declared.report.Report.{Report}
use Rattle.text.specs.Lines.{element_of, element_text, line_in, lines_from, report_in}

-- the sheet is formed, with that table of places, and has so many elements
pub record Accepted (r : Report) : Type 0 where
  pub formed : Formed r.sheet.now r.tab.now
  pub counted : r.total ≡ total (sheet_of r.sheet.now)

-- the name and the coordinates of the element of variable v at the i-th point of its box, and its line
abbrev pub text_of_element : Report → ℕ → ℕ → List ℕ
text_of_element r v i = element_text (sheet_of r.sheet.now) (element_of (sheet_of r.sheet.now) v i)

abbrev pub text_of_line : Report → ℕ → ℕ → List ℕ
text_of_line r v i = line_in (sheet_of r.sheet.now) r.codes.now r.values.now v i

-- the lines of the elements of variable v, and of all
abbrev pub text_of_variable : Report → ℕ → List ℕ
text_of_variable r v = lines_from (sheet_of r.sheet.now) r.codes.now r.values.now (before (sheet_of r.sheet.now) v) (elements_of (sheet_of r.sheet.now) v)

abbrev pub text_of_lines : Report → List ℕ
text_of_lines r = lines_from (sheet_of r.sheet.now) r.codes.now r.values.now 0 (elements (sheet_of r.sheet.now))

-- the whole
abbrev pub text_of_report : Report → List ℕ
text_of_report r = report_in (sheet_of r.sheet.now) r.codes.now r.values.now
