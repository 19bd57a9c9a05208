-- The totals of the normal form over the variables, as the code keeps them: nodes and bytes so far, or WIDE at a variable. Assumes nothing.
use Rattle.std.specs.Prelude.{◌≡◌, ℕ, ◌+◌, ◌≤◌, ◌<◌, false, List, length, drop, Result, Ok, Err}
use Rattle.alpha.specs.Pick.{ifb}
use Rattle.alpha.specs.Answer.{Answer, accepted, refused, WIDE}
use Rattle.alpha.specs.Sheet.{Variable, Sheet}
use Rattle.alpha.specs.Holds.{variable, is_input}
use Rattle.alpha.specs.Written.{bytes, node_count}
use Rattle.alpha.specs.Verdict.{told}
use Rattle.alpha.specs.declared.Refusal.{Refusal}
use Rattle.alpha.specs.Normalise.{branches_of, normal_body, keeps_limits, Body, write_bodies}
use Rattle.laws.specs.Sheets.{raw_of, vars_of, sheet_of}
use Rattle.tree.specs.Formed.{Formed}
use Rattle.normal.specs.declared.Totals.{Totals}
use Rattle.sheet.specs.declared.table.Table.{Table}

-- the bytes of the first two sections and the node count
abbrev pub front_of : List ℕ → ℕ
front_of bs = (raw_of bs).third + 8

abbrev pub sized : ℕ → Answer Body → Answer Totals
sized front (accepted w) = accepted (record { nodes = w.nodes; bytes = front + length w.out })
sized front (refused n p) = refused n p

-- the totals with the body of x, or WIDE at variable v
abbrev pub grown : Sheet → Variable → ℕ → ℕ → ℕ → Answer Totals
grown s x v nodes size =
    let n = nodes + node_count (normal_body s x) in
    let b = size + length (bytes (normal_body s x)) in
    ifb (keeps_limits (branches_of s x) (normal_body s x) n b) (λ _. accepted (record { nodes = n; bytes = b })) (λ _. refused WIDE v)

-- variable v has a body, and the totals so far keep their limits
pub record GrowsBy (bs : List ℕ) (tab : Table) (v nodes size : ℕ) : Type 0 where
  pub formed : Formed bs tab
  pub known : v < vars_of bs
  pub body : is_input (variable (sheet_of bs) v) ≡ false
  pub nodes_low : nodes ≤ 2048
  pub size_low : size ≤ 65536

-- v is a variable, or how many there are
pub record GrowsFrom (bs : List ℕ) (tab : Table) (v nodes size : ℕ) : Type 0 where
  pub formed : Formed bs tab
  pub known : v ≤ vars_of bs
  pub nodes_low : nodes ≤ 2048
  pub size_low : size ≤ 65536

-- small enough to go on with
abbrev pub Small : Result Totals Refusal → Type 0
Small (Ok t) = (t.nodes ≤ 2048) × (t.bytes ≤ 65536)
Small (Err r) = Unit {0}

pub record Grows (bs : List ℕ) (v nodes size : ℕ) (r : Result Totals Refusal) : Type 0 where
  pub is : told r ≡ grown (sheet_of bs) (variable (sheet_of bs) v) v nodes size
  pub small : Small r

-- the totals with the bodies of the variables from number v on
pub record PlansFrom (bs : List ℕ) (v nodes size : ℕ) (r : Result Totals Refusal) : Type 0 where
  pub is : (w : Body) → w.nodes ≡ nodes → front_of bs + length w.out ≡ size →
      told r ≡ sized (front_of bs) (write_bodies (sheet_of bs) (front_of bs) v (drop v (sheet_of bs)) w)
  pub small : Small r
