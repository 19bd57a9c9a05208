-- `well_formed` meets its contract: a letter first, then the rest. Assumes nothing.
use mathlib.Core.Path.{sym, ◌∙◌}
use Rattle.sheet.proofs.Names.{name-letter}
use Rattle.sheet.proofs.name.well_formed.Goals as goal

pub returns-then-is_letter : goal.returns-then-is_letter
returns-then-is_letter c = c.name_tail.ensures ∙ sym (name-letter _ _ c.requires c.if-is_letter.ensures)
