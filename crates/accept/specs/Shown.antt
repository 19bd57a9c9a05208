-- What the code's answers to a question about an accepted sheet stand for. Assumes nothing.
use Rattle.std.specs.Prelude.{◌≡◌, ℕ, ◌+◌, ◌≤◌, ◌<◌, List, length, Option, Some, None}
use Rattle.sheet.specs.declared.table.Table.{Table}
use Rattle.alpha.specs.Answer.{Answer, accepted, refused, ASK}
use Rattle.alpha.specs.Ask as Ask
use Rattle.alpha.specs.Ask.{no_part}
use Rattle.accept.specs.declared.Part.{Part}

-- r is that variable, where the table has so many
abbrev pub IsKnown : Table → ℕ → Option ℕ → Type 0
IsKnown tab v (Some r) = (r ≡ v) × (v < tab.variables)
IsKnown tab v None = tab.variables ≤ v

-- the part of the sheet that an answer tells of
abbrev pub shown : Option Part → Ask.Part
shown (Some p) = record { start = p.start; len = p.len }
shown None = no_part

-- a part that is told of is not empty, and lies within the sheet; so an answer is the only one that tells of its part (`part-one`)
abbrev pub Within : List ℕ → Option Part → Type 0
Within bs (Some p) = (0 < p.len) × (p.start + p.len ≤ length bs)
Within bs None = Unit {0}

-- p is that part of the sheet, and within it
pub record IsPart (bs : List ℕ) (part : Ask.Part) (p : Option Part) : Type 0 where
  pub is : part ≡ shown p
  pub there : Within bs p

-- a number of an element, or ASK
abbrev pub asked : Option ℕ → Answer ℕ
asked (Some n) = accepted n
asked None = refused ASK 0
