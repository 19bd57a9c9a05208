-- A sheet that is accepted, whose normal form keeps the limits and has so many nodes and bytes. Assumes nothing.
use Rattle.std.specs.Prelude.{◌≡◌, ℕ, ◌+◌, ◌≤◌, List, [], length}
use Rattle.alpha.specs.Answer.{accepted}
use Rattle.alpha.specs.Check.{check}
use Rattle.alpha.specs.Normalise.{Body, write_bodies}
use Rattle.laws.specs.Sheets.{sheet_of}
use Rattle.tree.specs.Formed.{Formed}
use Rattle.normal.specs.Plan.{front_of}
use Rattle.sheet.specs.declared.table.Table.{Table}

pub record Planned (bs : List ℕ) (tab : Table) (nodes size : ℕ) : Type 0 where
  pub formed : Formed bs tab
  pub sheet_is : check bs ≡ accepted (sheet_of bs)
  pub whole : Body
  pub wrote : write_bodies (sheet_of bs) (front_of bs) 0 (sheet_of bs) (record { nodes = 0; out = [] }) ≡ accepted whole
  pub nodes_are : whole.nodes ≡ nodes
  pub size_is : front_of bs + length whole.out ≡ size
  pub small : size ≤ 65536
