-- What checking a sheet answers, and what it leaves for the calls above: the table of places, and whether each element is inside.
-- Assumes nothing.
use Rattle.std.specs.Prelude.{◌≡◌, ℕ, Bool, List, Result, Ok, Err}
use Rattle.alpha.specs.Answer.{accepted, refused}
use Rattle.alpha.specs.Check.{check}
use Rattle.alpha.specs.Verdict.{number_of, place_of, told}
use Rattle.alpha.specs.Promise.{total_of}
use Rattle.alpha.specs.declared.Refusal.{Refusal}
use Rattle.laws.specs.Sheets.{sheet_of}
use Rattle.sheet.specs.declared.table.Table.{Table}
use Rattle.sheet.specs.Table.{read_answer}
use Rattle.tree.specs.Formed.{Formed}
use Rattle.domain.specs.Inside.{Inside}

-- a sheet that is accepted, with its tables
pub record Admitted (bs : List ℕ) (tab : Table) (inside : List Bool) : Type 0 where
  pub sheet_is : check bs ≡ accepted (sheet_of bs)
  pub formed : Formed bs tab
  pub filled : Inside (sheet_of bs) inside

-- what the check tells before it looks at the elements: reading, SHAPE, TYPE and REACH
pub record Begins (bs : List ℕ) (tab : Table) (r : Result ℕ Refusal) : Type 0 where
  pub refuses : (k : Refusal) → r ≡ Err k → refused (number_of k) (place_of k) ≡ total_of (check bs)
  pub formed : (n : ℕ) → r ≡ Ok n → Formed bs tab
  pub read : (n : ℕ) → r ≡ Ok n → accepted n ≡ read_answer bs

-- what the whole check answers
pub record Admits (bs : List ℕ) (tab : Table) (inside : List Bool) (r : Result ℕ Refusal) : Type 0 where
  pub answer : told r ≡ total_of (check bs)
  pub admitted : (n : ℕ) → r ≡ Ok n → Admitted bs tab inside

-- the same, whatever the table of the elements was
pub record Accepts (bs : List ℕ) (tab : Table) (r : Result ℕ Refusal) : Type 0 where
  pub inside : List Bool
  pub admits : Admits bs tab inside r
