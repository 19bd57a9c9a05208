-- The bodies of the normal form as they are stored, and the whole of it. Assumes nothing.
use Rattle.std.specs.Prelude.{◌≡◌, ℕ, ◌+◌, ◌^◌, ◌≤◌, ◌<◌, min, false, List, length, drop}
use Rattle.std.proofs.lemmas.List.Edits.{sets}
use Rattle.alpha.specs.Holds.{variable, is_input}
use Rattle.alpha.specs.Written.{bytes}
use Rattle.alpha.specs.Normalise.{branches_of, normal_body}
use Rattle.laws.specs.Sheets.{vars_of, sheet_of}
use Rattle.laws.specs.Normal.{body_bytes}
use Rattle.tree.specs.Formed.{Formed}
use Rattle.sheet.specs.declared.table.Table.{Table}

-- the bytes l can be stored at `to`
abbrev pub Room : List ℕ → ℕ → List ℕ → Type 0
Room l to out = to + length l ≤ min (2 ^ 40) (length out)

-- and are, up to r
abbrev pub Stored : List ℕ → ℕ → List ℕ → List ℕ → ℕ → Type 0
Stored l to out out' r = (out' ≡ sets out to l) × (r ≡ to + length l)

-- the body of variable v, in normal form
abbrev pub body_of : List ℕ → ℕ → List ℕ
body_of bs v = bytes (normal_body (sheet_of bs) (variable (sheet_of bs) v))

-- the bodies of the variables from number v on
abbrev pub bodies_from : List ℕ → ℕ → List ℕ
bodies_from bs v = body_bytes (sheet_of bs) (drop v (sheet_of bs))

-- variable v has a body with at most 64 branches
pub record Writes (bs : List ℕ) (tab : Table) (v : ℕ) : Type 0 where
  pub formed : Formed bs tab
  pub known : v < vars_of bs
  pub body : is_input (variable (sheet_of bs) v) ≡ false
  pub few : length (branches_of (sheet_of bs) (variable (sheet_of bs) v)) ≤ 64

-- so has each from number v on
pub record WritesFrom (bs : List ℕ) (tab : Table) (v : ℕ) : Type 0 where
  pub formed : Formed bs tab
  pub known : v ≤ vars_of bs
  pub few : (u : ℕ) → u < vars_of bs → is_input (variable (sheet_of bs) u) ≡ false → length (branches_of (sheet_of bs) (variable (sheet_of bs) u)) ≤ 64
