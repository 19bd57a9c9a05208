-- The branch that a case takes at a point where it holds without a clash: the first that holds there, which is the only one.
-- Assumes nothing.
use Rattle.std.specs.Prelude.{◌≡◌, ℕ, Bool, true, false, List, ℤ}
use Rattle.std.proofs.Math.Option.{Option, some}
use Rattle.alpha.specs.Pick.{ifb}
use Rattle.alpha.specs.Sheet.{Expr, Expr.kase, Exprs, Exprs.none, Exprs.more, Sheet, Point}
use Rattle.alpha.specs.Shape.{fits, all_fit}
use Rattle.alpha.specs.Holds.{holds}
use Rattle.alpha.specs.Written.{branch_count}
use Rattle.laws.specs.At.{At, AllAt}
use Rattle.laws.specs.Sheets.{heads_of, vars_of, sheet_of}
use Rattle.affine.specs.Value.{point_of}
use Rattle.tree.specs.declared.Class.TheVariants.{Case}
use Rattle.tree.specs.Classes.{class_at}
use Rattle.tree.specs.Ends.{EndsKept}
use Rattle.domain.specs.declared.Standing.{Standing}
use Rattle.domain.specs.declared.Standing.TheVariants.{Not, Holds, Clash}
use Rattle.domain.specs.declared.Together.TheVariants.{Branches}
use Rattle.domain.specs.Walk.{Walk}
use Rattle.domain.specs.Standing.{standing, together}
use Rattle.domain.specs.Held.{Held}

abbrev pub is_held : Standing → Bool
is_held Not = false
is_held Holds = true
is_held Clash = true

unfoldable pub first_holding : Exprs → Sheet → Point → Option Expr
first_holding none s z = Option.none
first_holding (more e es) s z = ifb (holds e s z) (λ _. some e) (λ _. first_holding es s z)

-- r says whether the tree at p holds at z
abbrev pub HoldsAt : List ℕ → ℕ → List ℤ → Bool → Type 0
HoldsAt bs p z r = (e : Expr) (q n : ℕ) → At e (vars_of bs) bs p q → fits e (heads_of bs) n ≡ true → r ≡ holds e (sheet_of bs) (point_of n z)

-- a tree at p stands so at z
pub record StandsSo (bs : List ℕ) (p : ℕ) (z : List ℤ) (how : Standing) : Type 0 where
  pub tree : Expr
  pub end : ℕ
  pub dims : ℕ
  pub at : At tree (vars_of bs) bs p end
  pub fitting : fits tree (heads_of bs) dims ≡ true
  pub so : standing tree (sheet_of bs) (point_of dims z) ≡ how

-- ---- what is chosen

-- the case at p, of at most `left` nodes, holds at z without a clash, and the ends that are kept are right
pub record Choosing (bs ends : List ℕ) (p left : ℕ) (z : List ℤ) : Type 0 where
  pub kept : EndsKept bs ends
  pub held : Held bs p left z
  pub is_case : class_at bs p ≡ Case

-- r is the place of the tree that is taken at z of the trees es, of dimension n: the first that holds
pub record Taken (bs : List ℕ) (es : Exprs) (n : ℕ) (z : List ℤ) (r : ℕ) : Type 0 where
  pub tree : Expr
  pub end : ℕ
  pub at : At tree (vars_of bs) bs r end
  pub fitting : fits tree (heads_of bs) n ≡ true
  pub clear : standing tree (sheet_of bs) (point_of n z) ≡ Holds
  pub first : first_holding es (sheet_of bs) (point_of n z) ≡ some tree

-- r is the place of what is taken of a branch that is spared, and of the `count` branches from p on, where one of all these holds and
-- does so without a clash: the spared one where it holds, and else one of the others
pub record Sought (bs : List ℕ) (p left count : ℕ) (z : List ℤ) (spared r : ℕ) : Type 0 where
  pub walk : Walk bs r left z
  pub itself : StandsSo bs spared z Holds → (es : Exprs) (q n : ℕ) → AllAt es (vars_of bs) bs p q → branch_count es ≡ count →
      all_fit es (heads_of bs) n ≡ true → together Branches es (sheet_of bs) (point_of n z) ≡ Not → r ≡ spared
  pub another : StandsSo bs spared z Not → (es : Exprs) (q n : ℕ) → AllAt es (vars_of bs) bs p q → branch_count es ≡ count →
      all_fit es (heads_of bs) n ≡ true → together Branches es (sheet_of bs) (point_of n z) ≡ Holds → Taken bs es n z r

-- r is the place of the branch that the case at p takes at z, which holds there without a clash
pub record Chooses (bs : List ℕ) (p left : ℕ) (z : List ℤ) (r : ℕ) : Type 0 where
  pub says : (es : Exprs) (q n : ℕ) → At (kase es) (vars_of bs) bs p q → fits (kase es) (heads_of bs) n ≡ true → Taken bs es n z r
  pub held : Held bs r left z
