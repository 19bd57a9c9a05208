-- One node where it stands, as a branch is followed through it: what is required, and what is answered of it. Assumes nothing.
use Rattle.std.specs.Prelude.{◌≡◌, ℕ, ◌+◌, ◌≤◌, List, ◌++◌, length, nat_abs}
use Rattle.std.proofs.lemmas.List.Edits.{sets}
use Rattle.alpha.specs.Field.{field, num, nat}
use Rattle.laws.specs.At.{node_read, node_size}
use Rattle.laws.specs.Sheets.{vars_of}
use Rattle.affine.specs.declared.Map.{Map}
use Rattle.affine.specs.Value.{map_of, Neat}
use Rattle.tree.specs.declared.Class.TheVariants.{Operator, Restriction}
use Rattle.tree.specs.Classes.{class_at}
use Rattle.tree.specs.Standing.{Noded, NodedAs}
use Rattle.normal.specs.declared.Half.{Half}
use Rattle.normal.specs.declared.Pen.{Pen}
use Rattle.normal.specs.Part.{own}
use Rattle.normal.specs.Rows.{AllComposable}

-- the code at p and the field after it, as they are written again
abbrev pub two_fields : List ℕ → ℕ → List ℕ
two_fields bs p = nat (nat_abs (field bs p)) ++ num (field bs (p + 8))

-- the constraints of a restriction at p have as many coefficients as m has rows, and can be composed with it
abbrev pub Limits : List ℕ → ℕ → Map → Type 0
Limits bs p m = (nat_abs (field bs (p + 8)) ≡ m.height) × AllComposable (nat_abs (field bs (p + 16))) bs (p + 24) (nat_abs (field bs (p + 8))) m

-- a node was read at p, and its own bytes keep within the room
pub record Spot (bs : List ℕ) (p : ℕ) (m : Map) (t : Half) (to room : ℕ) : Type 0 where
  pub noded : Noded (vars_of bs) bs p
  pub neat : Neat m
  pub limits : class_at bs p ≡ Restriction → Limits bs p m
  pub fits_room : to + length (own t (node_read (vars_of bs) bs p) (map_of m) 0).out ≤ room

-- it is visited with the pen, below so many nodes of the tree
pub record Stop (bs : List ℕ) (p : ℕ) (m : Map) (t : Half) (level : ℕ) (pen : Pen) (room : ℕ) : Type 0 where
  pub spot : Spot bs p m t pen.to room
  pub level_low : level ≤ 4096
  pub things_low : pen.things ≤ pen.to

-- an operator, whatever the map
pub record OperatorFits (bs : List ℕ) (p : ℕ) (pen : Pen) (room : ℕ) : Type 0 where
  pub operator : NodedAs bs p Operator
  pub fits_room : pen.to + node_size (node_read (vars_of bs) bs p) ≤ room
  pub things_low : pen.things ≤ pen.to

-- its own bytes are stored
abbrev pub Stores : List ℕ → ℕ → Map → Half → ℕ → List ℕ → List ℕ → Type 0
Stores bs p m t to out out' = out' ≡ sets out to (own t (node_read (vars_of bs) bs p) (map_of m) 0).out
