-- Where trees end, kept by place in a table. Assumes nothing.
use Rattle.std.specs.Prelude.{◌≡◌, ℕ, ◌*◌, ◌/◌, ◌≤◌, ◌<◌, List, length, get_or}
use Rattle.alpha.specs.Sheet.{Expr, Exprs}
use Rattle.alpha.specs.Written.{branch_count}
use Rattle.laws.specs.At.{At, AllAt}
use Rattle.laws.specs.Sheets.{vars_of}

-- r is where every tree at p ends
abbrev pub EndsAt : ℕ → List ℕ → ℕ → ℕ → Type 0
EndsAt vars bs p r = (e : Expr) (q : ℕ) → At e vars bs p q → r ≡ q

-- the same of every n trees
abbrev pub AllEnd : ℕ → List ℕ → ℕ → ℕ → ℕ → Type 0
AllEnd vars bs p n r = (es : Exprs) (q : ℕ) → AllAt es vars bs p q → branch_count es ≡ n → r ≡ q

-- a table of 8,192 entries of 16 bits: entry i is an eighth of where the tree at 8 * i ends, or 0 where that is not kept
pub record EndsKept (bs ends : List ℕ) : Type 0 where
  pub sized : length ends ≡ 8192
  pub low : (i : ℕ) → get_or ends i 0 < 65536
  pub right : (i : ℕ) → 1 ≤ get_or ends i 0 → EndsAt (vars_of bs) bs (8 * i) (8 * get_or ends i 0)

-- the table keeps for p that the tree there ends at q
pub record EndKeptAt (ends : List ℕ) (p q : ℕ) : Type 0 where
  pub whole : p ≡ 8 * (p / 8)
  pub kept : 1 ≤ get_or ends (p / 8) 0
  pub is : q ≡ 8 * get_or ends (p / 8) 0
