-- The three sections as readers of their own, and how many variables the third is read for. Assumes nothing.
use Rattle.std.specs.Prelude.{ℕ, ◌≤◌, List}
use Rattle.alpha.specs.Sheet.{Head, Declared, Node}
use Rattle.alpha.specs.Read.{Reader, ◌>>=◌, count, repeat, declared, node}

-- the count of declared constraints, and these
unfoldable pub second_section : List Head → Reader (List Declared)
second_section hs = count 0 256 >>= λ n. repeat n (declared hs)

-- as many variables as a sheet may have
pub record VariableCount (n : ℕ) : Type 0 where
  pub some : 1 ≤ n
  pub few : n ≤ 32

-- the count of nodes, and these, where there are so many variables
unfoldable pub third_section : ℕ → Reader (List Node)
third_section vars = count 0 2048 >>= λ n. repeat n (node vars)
