-- What counting and choosing answer of the tree that stands at a place. Assumes nothing.
use Rattle.std.specs.Prelude.{◌≡◌, ℕ, ◌*◌, ◌/◌, ◌%◌, ◌≤◌, ◌<◌, List}
use Rattle.alpha.specs.Sheet.{Expr, Exprs}
use Rattle.alpha.specs.Written.{branch_count, node_count, node_counts}
use Rattle.laws.specs.At.{At, AllAt}
use Rattle.laws.specs.Sheets.{vars_of}
use Rattle.normal.specs.declared.Chosen.{Chosen}
use Rattle.normal.specs.declared.Group.{Group}
use Rattle.normal.specs.declared.Split.{Split}
use Rattle.normal.specs.Count.{count_of, sum_of, product_of, counts_of, joined, capped, pick}

-- r is the number of branches of the tree at p, or 65 where there are more
abbrev pub Counts : List ℕ → ℕ → ℕ → Type 0
Counts bs p r = (r ≤ 65) × ((e : Expr) (q : ℕ) → At e (vars_of bs) bs p q → r ≡ capped (count_of e))

-- r is that of so many trees from p on, after others of which there are `sofar`
abbrev pub CountsAll : List ℕ → ℕ → ℕ → Group → ℕ → ℕ → Type 0
CountsAll bs p many group sofar r =
    (r ≤ 65) × ((es : Exprs) (q : ℕ) → AllAt es (vars_of bs) bs p q → branch_count es ≡ many →
    r ≡ capped (joined group sofar (counts_of group es)))

-- ---- a branch of a case

-- so many children of a case, of at most `left` nodes in all, stand from p on; they have `of` branches, at most 64, and b is one of them
pub record ChildrenAt (bs : List ℕ) (p left many b of : ℕ) : Type 0 where
  pub trees : Exprs
  pub end : ℕ
  pub at : AllAt trees (vars_of bs) bs p end
  pub few : node_counts trees ≤ left
  pub left_low : left ≤ 2048
  pub count : branch_count trees ≡ many
  pub sum : sum_of trees ≡ of
  pub low : of ≤ 64
  pub some : b < of

-- r is where the child stands that branch b of the case comes from, which of its branches it is, and how many it has
pub record PicksOf (bs : List ℕ) (es : Exprs) (b : ℕ) (r : Chosen) : Type 0 where
  pub end : ℕ
  pub at : At (pick es b).child (vars_of bs) bs r.at end
  pub branch : r.choice.number ≡ (pick es b).branch
  pub count : count_of (pick es b).child ≡ r.choice.of

abbrev pub Picks : List ℕ → ℕ → ℕ → ℕ → ℕ → Chosen → Type 0
Picks bs p many b of r = (es : Exprs) (q : ℕ) → AllAt es (vars_of bs) bs p q → branch_count es ≡ many → sum_of es ≡ of → PicksOf bs es b r

-- ---- a combination of operands

-- an operand of at most `left` nodes stands at p; with the others it has `of` combinations, at most 64, and b is one of them
pub record OperandAt (bs : List ℕ) (p left b of : ℕ) : Type 0 where
  pub tree : Expr
  pub others : Exprs
  pub end : ℕ
  pub at : At tree (vars_of bs) bs p end
  pub few : node_count tree ≤ left
  pub left_low : left ≤ 2048
  pub product : count_of tree * product_of others ≡ of
  pub low : of ≤ 64
  pub some : b < of

-- r is what combination b takes of the operand e, which ends at q, and of the others: which branch or combination, and among how many
pub record SplitsOf (e : Expr) (others : Exprs) (q b : ℕ) (r : Split) : Type 0 where
  pub ends : r.next ≡ q
  pub first_count : count_of e ≡ r.first.of
  pub rest_count : product_of others ≡ r.rest.of
  pub first_branch : r.first.number ≡ b / product_of others
  pub rest_branch : r.rest.number ≡ b % product_of others

abbrev pub Splits : List ℕ → ℕ → ℕ → ℕ → Split → Type 0
Splits bs p b of r =
    (e : Expr) (others : Exprs) (q : ℕ) → At e (vars_of bs) bs p q → count_of e * product_of others ≡ of → SplitsOf e others q b r
