-- What the walkers require of the sheet as a whole: it was read to its end, and the table has its places; and of a variable, that there is
-- one of that number. Assumes nothing.
use Rattle.std.specs.Prelude.{◌≡◌, ℕ, ◌<◌, List, length}
use Rattle.alpha.specs.Read.{got, read}
use Rattle.laws.specs.Sheets.{raw_of, vars_of}
use Rattle.sheet.specs.declared.table.Table.{Table}
use Rattle.sheet.specs.Table.{TableOf}

pub record Prepared (bs : List ℕ) (tab : Table) : Type 0 where
  pub accepted : read bs ≡ got (raw_of bs) (length bs)
  pub table : TableOf tab (raw_of bs)

-- there is a variable v
pub record HasVariable (bs : List ℕ) (tab : Table) (v : ℕ) : Type 0 where
  pub prepared : Prepared bs tab
  pub known : v < vars_of bs
