-- What is known of the tables of a sheet whose trees are walked: each variable's record stands where the table says, its elements have the
-- numbers that the table says, and the table of the elements says which are inside. Assumes nothing.
use Rattle.std.specs.Prelude.{◌≡◌, ℕ, ◌+◌, ◌≤◌, ◌<◌, Bool, List, length, get_or}
use Rattle.alpha.specs.Box.{size}
use Rattle.alpha.specs.Read.{dimension}
use Rattle.alpha.specs.Holds.{variable}
use Rattle.alpha.specs.Ask.{before}
use Rattle.laws.specs.Sheets.{heads_of, vars_of, sheet_of}
use Rattle.sheet.specs.declared.table.Table.{Table}
use Rattle.sheet.specs.Record.{dimension_at, Recorded}
use Rattle.points.specs.Number.{box_of}
use Rattle.domain.specs.Inside.{Inside}

-- the record of variable v stands at its place in the table, and its elements are numbered from its entry there, below 4,096
pub record Laid (bs : List ℕ) (tab : Table) (v : ℕ) : Type 0 where
  pub low : v < 32
  pub known : v < length (sheet_of bs)
  pub recorded : Recorded bs (get_or tab.records v 0)
  pub box-is : box_of bs (get_or tab.records v 0) ≡ (variable (sheet_of bs) v).head.box
  pub dims-are : dimension_at bs (get_or tab.records v 0) ≡ dimension (heads_of bs) v
  pub first_is : get_or tab.firsts v 0 ≡ before (sheet_of bs) v
  pub few : before (sheet_of bs) v + size (variable (sheet_of bs) v).head.box ≤ 4096

-- there is a variable, each is laid, and the table of the elements says which are inside
pub record Grounds (bs : List ℕ) (tab : Table) (inside : List Bool) : Type 0 where
  pub some : 1 ≤ vars_of bs
  pub laid : (v : ℕ) → v < vars_of bs → Laid bs tab v
  pub inside_is : Inside (sheet_of bs) inside
