-- What the walk that judges SHAPE answers: where the tree ends and how many nodes are left, or that there is no tree there that fits.
-- Assumes nothing.
use Rattle.std.specs.Prelude.{◌≡◌, ℕ, ◌≤◌, Bool, List, length, Option, Some, None}
use Rattle.alpha.specs.Pick.{ifb}
use Rattle.alpha.specs.Sheet.{Node}
use Rattle.alpha.specs.Read.{node}
use Rattle.alpha.specs.Shape.{Parsed, tree, ill, branches, expr_at, fits, all_fit}
use Rattle.laws.specs.Heads.{InRow}
use Rattle.laws.specs.Sheets.{heads_of, vars_of}
use Rattle.tree.specs.Prepared.{Prepared}
use Rattle.tree.specs.declared.Rest.{Rest}
use Rattle.sheet.specs.declared.table.Table.{Table}

-- `left` nodes stand one after another from p to the end
pub record Flat (bs : List ℕ) (p left : ℕ) : Type 0 where
  pub nodes : List Node
  pub many : length nodes ≡ left
  pub stand : InRow nodes (node (vars_of bs)) bs p (length bs)

-- what a walk that judges SHAPE requires: the nodes that are left stand, and depth and dimension are within their limits
pub record Judgeable (bs : List ℕ) (tab : Table) (from : Rest) (deep want : ℕ) : Type 0 where
  pub prepared : Prepared bs tab
  pub flat : Flat bs from.next from.left
  pub shallow : deep ≤ 32
  pub narrow : want ≤ 4

-- what was parsed, judged by a test
abbrev pub judged : {A : Type 0} → (A → Bool) → Parsed A → Option Rest
judged test (tree a q n) = ifb (test a) (λ _. Some (record { next = q; left = n })) (λ _. None)
judged test ill = None

-- the tree that stands next, of at most the nodes left and the depth `deep`, where `want` dimensions are wanted
abbrev pub tree_judged : List ℕ → Rest → ℕ → ℕ → Option Rest
tree_judged bs from deep want = judged (λ e. fits e (heads_of bs) want) (expr_at deep (vars_of bs) bs from.next from.left)

-- `count` trees one after another
abbrev pub trees_judged : List ℕ → Rest → ℕ → ℕ → ℕ → Option Rest
trees_judged bs from deep want count =
    judged (λ es. all_fit es (heads_of bs) want) (branches (λ o n. expr_at deep (vars_of bs) bs o n) count from.next from.left)

-- r is the judgement x, and after what fits the nodes that are left stand
pub record Judges (bs : List ℕ) (x r : Option Rest) : Type 0 where
  pub is : r ≡ x
  pub flat : (rest : Rest) → r ≡ Some rest → Flat bs rest.next rest.left
