-- Bytes that stand at a place of others. Assumes nothing.
use Rattle.std.specs.Prelude.{◌≡◌, ℕ, ◌+◌, ◌≤◌, ◌<◌, List, length, get_or}

-- the bytes l stand in bs from p on
pub record Stands (l bs : List ℕ) (p : ℕ) : Type 0 where
  pub there : p + length l ≤ length bs
  pub byte_is : (i : ℕ) → i < length l → get_or bs (p + i) 0 ≡ get_or l i 0
