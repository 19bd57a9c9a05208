-- The declared constraints of a variable as they stand in the second section, tested at a point; and the table of the elements that are
-- inside while it is filled. Assumes nothing.
use Rattle.std.specs.Prelude.{◌≡◌, ℕ, ◌+◌, ◌<◌, Bool, true, false, List, length, get_or, nat_abs, eqb, ℤ}
use Rattle.alpha.specs.Pick.{ifb}
use Rattle.alpha.specs.Field.{field}
use Rattle.alpha.specs.Sheet.{Declared, Sheet, Point}
use Rattle.alpha.specs.Affine.{meets, meets_all}
use Rattle.alpha.specs.Box.{in_box}
use Rattle.alpha.specs.Read.{got, dimension, declared}
use Rattle.alpha.specs.Holds.{variable}
use Rattle.alpha.specs.Ask.{number_of}
use Rattle.laws.specs.Sheets.{heads_of, vars_of, sheet_of}
use Rattle.affine.specs.Value.{point_of}
use Rattle.tree.specs.Formed.{DeclaredRead}
use Rattle.domain.specs.Constraints.{Testable}

-- the declared constraint d does not concern variable v, or it holds at z
abbrev pub declared_meets : ℕ → Declared → Point → Bool
declared_meets v d z = ifb (eqb d.who v) (λ _. meets d.what z) (λ _. true)

-- r says that of the declared constraint at p
abbrev pub DeclaredMet : List ℕ → ℕ → ℕ → List ℤ → Bool → Type 0
DeclaredMet bs p v z r =
    (d : Declared) (q : ℕ) → declared (heads_of bs) bs p ≡ got d q → r ≡ declared_meets v d (point_of (dimension (heads_of bs) v) z)

-- a declared constraint was read at p, and if it concerns variable v it can be tested at z
pub record DeclaredTestable (bs : List ℕ) (p v : ℕ) (z : List ℤ) : Type 0 where
  pub read : DeclaredRead bs p
  pub test : nat_abs (field bs p) ≡ v → Testable bs (p + 8) (dimension (heads_of bs) v) (point_of (dimension (heads_of bs) v) z)

-- z is a point in the box of variable v
pub record InBoxOf (bs : List ℕ) (v : ℕ) (z : List ℤ) : Type 0 where
  pub known : v < vars_of bs
  pub in-box : in_box (variable (sheet_of bs) v).head.box (point_of (dimension (heads_of bs) v) z) ≡ true

-- of the elements of the variables below v the table says whether they are inside
pub record FilledBelow (s : Sheet) (v : ℕ) (inside : List Bool) : Type 0 where
  pub sized : length inside ≡ 4096
  pub says : (w : ℕ) (z : Point) → w < v → w < length s → in_box (variable s w).head.box z ≡ true →
      get_or inside (number_of s w z) false ≡ meets_all (variable s w).declared z

-- and v is a variable
pub record FillsNext (bs : List ℕ) (v : ℕ) (inside : List Bool) : Type 0 where
  pub known : v < vars_of bs
  pub filled : FilledBelow (sheet_of bs) v inside
