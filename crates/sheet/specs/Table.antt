-- The table of places that reading leaves for the layers above, and the promise of reading. Assumes nothing.
use Rattle.std.specs.Prelude.{ℕ, ◌+◌, ◌≤◌, ◌<◌, ◌≡◌, List, length, get_or, set, replicate, Result}
use Rattle.alpha.specs.Answer.{Answer, accepted, refused}
use Rattle.alpha.specs.Sheet.{Raw}
use Rattle.alpha.specs.Read.{Got, got, bad, read, no_head}
use Rattle.alpha.specs.declared.Refusal.{Refusal}
use Rattle.alpha.specs.Verdict.{told}
use Rattle.sheet.specs.declared.table.Table.{Table}
use Rattle.sheet.specs.Record.{points, before}

-- each place and number that the table holds, by what was read
pub record TableOf (tab : Table) (r : Raw) : Type 0 where
  pub sized : length tab.bodies ≡ 33
  pub few : length r.heads ≤ 32
  -- variable v's record
  pub record_at : (v : ℕ) → v < length r.heads → get_or tab.records v 0 ≡ (get_or r.heads v no_head).place
  -- variable v's first element, and the element total at v = the number of variables
  pub first-element : (v : ℕ) → v ≤ length r.heads → get_or tab.firsts v 0 ≡ before r.heads v
  pub variables : tab.variables ≡ length r.heads
  -- the counts of the second and third section
  pub second : tab.second ≡ r.second
  pub third : tab.third ≡ r.third
  pub nodes : tab.nodes ≡ r.nodes
  -- the first node stands after the third section's count
  pub first_node : r.first ≡ r.third + 8

-- a table that says nothing yet
abbrev pub blank : Table
blank = record {
  records = replicate 32 0;
  firsts = replicate 33 0;
  variables = 0;
  second = 0;
  third = 0;
  nodes = 0;
  bodies = replicate 33 0;
}

-- a table with the numbers of the sections: the variables, the places of the second and third, the nodes
abbrev pub noted : Table → ℕ → ℕ → ℕ → ℕ → Table
noted tab n second third nodes = record tab { variables = n; second = second; third = third; nodes = nodes }

-- a table with the place of variable v's body
abbrev pub with_body : Table → ℕ → ℕ → Table
with_body tab v place = record tab { bodies = set tab.bodies v place }

-- a table that says of the sheet what another says: only the places of the bodies may differ
pub record SameSheet (tab tab' : Table) : Type 0 where
  pub records : tab'.records ≡ tab.records
  pub firsts : tab'.firsts ≡ tab.firsts
  pub variables : tab'.variables ≡ tab.variables
  pub second : tab'.second ≡ tab.second
  pub third : tab'.third ≡ tab.third
  pub nodes : tab'.nodes ≡ tab.nodes
  pub sized : length tab'.bodies ≡ length tab.bodies

-- what reading answers: the element total, or refusal 1 to 6
abbrev pub answer_of : Got Raw → Answer ℕ
answer_of (got r p) = accepted (points r.heads)
answer_of (bad n p) = refused n p

abbrev pub read_answer : List ℕ → Answer ℕ
read_answer bs = answer_of (read bs)

-- reading: the answer, and the table where there is one
pub record Reads (bs : List ℕ) (tab' : Table) (r : Result ℕ Refusal) : Type 0 where
  pub answer : told r ≡ read_answer bs
  pub table : (raw : Raw) (p : ℕ) → read bs ≡ got raw p → TableOf tab' raw
