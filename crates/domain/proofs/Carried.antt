-- That a tree holds at a point without a clash is carried to its children: to operands, and below a restriction, at the same point; below
-- a dependence at the image. And it is one thing whichever tree at the place it is said of, since there is one, of one dimension.
-- Assumes nothing.
use mathlib.Core.Path.{◌≡◌, refl, sym, ap, ◌∙◌}
use Prim.Native.Nat.{ℕ, ◌+◌, ◌-◌, ◌≤◌}
use native.Mathlib.Omega.{arith}
use mathlib.Core.Bool.{Bool, true, false, ◌&&◌}
use mathlib.Core.List.{List}
use lib.ListN.{length}
use lib.Dec.{eqb}
use borrow.Author.Tests.{eqb-true}
use lib.IntN.{ℤ}
use Rattle.alpha.specs.Sheet.{Head, Expr, Exprs, Constraint, Sheet, Point}
use Rattle.alpha.specs.Sheet.{Expr.var, Expr.int, Expr.boo, Expr.un, Expr.bin, Expr.ite, Expr.kase, Expr.restr, Expr.dep, Exprs.none, Exprs.more}
use Rattle.alpha.specs.Affine.{meets_all, image}
use Rattle.alpha.specs.Read.{dimension}
use Rattle.alpha.specs.Shape.{fits, all_fit}
use Rattle.alpha.specs.Written.{branch_count}
use Rattle.laws.specs.At.{node_read, node_end, At, AllAt}
use Rattle.laws.specs.Children.{arity}
use Rattle.laws.specs.Sheets.{heads_of, vars_of, sheet_of}
use Rattle.laws.proofs.Tests.{&&-left, true-not-false}
use Rattle.laws.proofs.Trees.{at-unique}
use Rattle.laws.proofs.Shapes.{at-node}
use Rattle.affine.specs.declared.Map.{Map}
use Rattle.affine.specs.Value.{point_of, map_of, Padded}
use Rattle.affine.specs.Reading.{MapRead}
use Rattle.tree.specs.declared.Class.TheVariants.{Operator, Restriction, Dependence}
use Rattle.tree.specs.Classes.{class_at}
use Rattle.tree.proofs.Classes.{operator-at, restriction-at, dependence-at}
use Rattle.domain.specs.declared.Standing.{Standing}
use Rattle.domain.specs.declared.Standing.TheVariants.{Not, Holds, Clash}
use Rattle.domain.specs.declared.Together.TheVariants.{Operands}
use Rattle.domain.specs.Walk.{Ends, Walk, WalkAll}
use Rattle.domain.specs.Standing.{standing, both, together}
use Rattle.domain.specs.Held.{Held, HeldAll}
use Rattle.domain.specs.Holding.{is_held}
use Rattle.domain.proofs.Walks.{restricted-fits, mapped-fits, image-is, walk-children, walk-image, walks-split, walk_first, walk-rest}
use Rattle.domain.proofs.Restrictions.{restriction-walk}
use Rattle.domain.proofs.Standings.{operands-stand, restriction-stands, restriction-not, dependence-stands}

-- ---- one dimension

module _ (vars : ℕ) (bs : List ℕ) (hs : List Head) (n m : ℕ) where
  mutual
    unfolding At fits

    -- a tree that stands in the bytes fits one dimension at most: a case has a branch
    fits-once : (e : Expr) (p q : ℕ) → At e vars bs p q → fits e hs n ≡ true → fits e hs m ≡ true → n ≡ m
    fits-once (var v) p q h f g = sym (eqb-true (dimension hs v) n f) ∙ eqb-true (dimension hs v) m g
    fits-once (int c) p q h f g = sym (eqb-true 0 n f) ∙ eqb-true 0 m g
    fits-once (boo b) p q h f g = sym (eqb-true 0 n f) ∙ eqb-true 0 m g
    fits-once (un o a) p q h f g = fits-once a h.next q h.below f g
    fits-once (bin o a b) p q h f g =
        let x = h.below in
        fits-once a h.next x.middle x.before (&&-left (fits a hs n) (fits b hs n) f) (&&-left (fits a hs m) (fits b hs m) g)
    fits-once (ite a b c) p q h f g =
        let x = h.below in
        let i = &&-left (fits a hs n && fits b hs n) (fits c hs n) f in
        let j = &&-left (fits a hs m && fits b hs m) (fits c hs m) g in
        fits-once a h.next x.middle x.before (&&-left (fits a hs n) (fits b hs n) i) (&&-left (fits a hs m) (fits b hs m) j)
    fits-once (kase es) p q h f g = fit-once es h.next q (at-node vars bs (kase es) p q h).fields.low h.below f g
    fits-once (restr d cs a) p q h f g =
        sym (eqb-true d n (&&-left (eqb d n) (fits a hs n) f)) ∙ eqb-true d m (&&-left (eqb d m) (fits a hs m) g)
    fits-once (dep w a) p q h f g =
        let i = &&-left (eqb w.cols n) (fits a hs (length w.rows)) f in
        let j = &&-left (eqb w.cols m) (fits a hs (length w.rows)) g in
        sym (eqb-true w.cols n i) ∙ eqb-true w.cols m j

    -- and so do several, by the first
    fit-once : (es : Exprs) (p q : ℕ) → 1 ≤ branch_count es → AllAt es vars bs p q → all_fit es hs n ≡ true → all_fit es hs m ≡ true → n ≡ m
    fit-once none p q some h f g = absurd (omega arith)
    fit-once (more e es) p q some h f g =
        fits-once e p h.middle h.before (&&-left (fits e hs n) (all_fit es hs n) f) (&&-left (fits e hs m) (all_fit es hs m) g)

-- ---- where both of two hold without a clash, each does

pub not-held : {X : Type 0} → Not ≡ Holds → X
not-held e = true-not-false {b = true} refl (sym (ap is_held e))

both_first : (a b : Standing) → both a b ≡ Holds → a ≡ Holds
both_first Not b e = e
both_first Holds b e = refl
both_first Clash Not e = not-held e
both_first Clash Holds e = e
both_first Clash Clash e = e

both-second : (a b : Standing) → both a b ≡ Holds → b ≡ Holds
both-second Not b e = not-held e
both-second Holds b e = e
both-second Clash Not e = e
both-second Clash Holds e = refl
both-second Clash Clash e = e

-- and so does a restriction's child
restricted-holds : (d : ℕ) (cs : List Constraint) (a : Expr) (s : Sheet) (z : Point) → standing (Expr.restr d cs a) s z ≡ Holds → standing a s z ≡ Holds
restricted-holds d cs a s z h = go (meets_all cs z) refl
  where
    go : (b : Bool) → meets_all cs z ≡ b → standing a s z ≡ Holds
    go true m = sym (restriction-stands s z d cs a m) ∙ h
    go false m = not-held (sym (restriction-not s z d cs a m) ∙ h)

module _ (bs : List ℕ) where
  -- a tree that may be walked, by any tree there
  module _ (p left : ℕ) (z : List ℤ) (e : Expr) (q n : ℕ) (a : At e (vars_of bs) bs p q) (f : fits e (heads_of bs) n ≡ true) where
    pub held_by : Walk bs p left z → standing e (sheet_of bs) (point_of n z) ≡ Holds → Held bs p left z
    held_by w g =
        let same = (at-unique (vars_of bs) bs p e w.tree q w.end a w.at).tree_is in
        let wide = fits-once (vars_of bs) bs (heads_of bs) n w.dims w.tree p w.end w.at (rw same at f) w.fitting in
        record { walk = w; clear = rw (same, wide) at g }

    -- and any tree there, by it
    pub held-tree : Held bs p left z → standing e (sheet_of bs) (point_of n z) ≡ Holds
    held-tree h =
        let w = h.walk in
        let same = (at-unique (vars_of bs) bs p w.tree e w.end q w.at a).tree_is in
        let wide = fits-once (vars_of bs) bs (heads_of bs) w.dims n e p q a (rw same at w.fitting) f in
        rw (same, wide) at h.clear

  module _ (p left : ℕ) (z : List ℤ) (h : Held bs p left z) where
    abbrev w : Walk bs p left z
    w = h.walk

    abbrev here : Expr → Standing
    here e = standing e (sheet_of bs) (point_of w.dims z)

    -- ---- its children, where the next place is k

    module _ (k : ℕ) (next : k ≡ node_end (vars_of bs) bs p) where
      -- an operator's operands, where the code has n of them
      pub held-operands : class_at bs p ≡ Operator → (n : ℕ) → n ≡ arity (node_read (vars_of bs) bs p) → HeldAll bs k (left - 1) n z
      unfolding walk-children
      held-operands class_is n many =
          let operator = (operator-at bs w.tree p w.end w.at class_is).class_is in
          record {
            walk = walk-children bs p left z w k n next many (rw class_is tt);
            clear = sym (operands-stand (sheet_of bs) (point_of w.dims z) w.tree operator) ∙ h.clear;
          }

      -- a restriction's child
      pub held-restricted : class_at bs p ≡ Restriction → Held bs k (left - 1) z
      held-restricted class_is =
          let x = restriction-at bs w.tree p w.end w.at class_is in
          let fit = restricted-fits bs w.tree p w.end w.dims w.fitting x in
          held_by k (left - 1) z x.child w.end w.dims (rw next x.below) fit (restriction-walk bs p left z w class_is k next)
          (restricted-holds x.dim x.given x.child (sheet_of bs) (point_of w.dims z) (sym (ap here x.is) ∙ h.clear))

      -- a dependence's child at the image, where its map is m
      pub held-image : class_at bs p ≡ Dependence → (m : Map) → MapRead bs (p + 8) m → (y : List ℤ) →
          point_of m.height y ≡ image (map_of m).rows (point_of m.width z) → Padded m.height y → Held bs k (left - 1) y
      held-image class_is m r y is rest =
          let x = dependence-at bs w.tree p w.end w.at class_is in
          let fit = mapped-fits bs w.tree p w.end w.dims w.fitting x in
          let point = image-is bs w.tree p w.end w.dims w.fitting x m r z y is in
          held_by k (left - 1) y x.child w.end (length x.by.rows) (rw next x.below) fit
          (walk-image bs p left z w class_is m r k next y is rest)
          (rw point (sym (dependence-stands (sheet_of bs) (point_of w.dims z) x.by x.child) ∙ sym (ap here x.is) ∙ h.clear))

  -- ---- so many operands

  module _ (p left n : ℕ) (z : List ℤ) (some : 1 ≤ n) (h : HeldAll bs p left n z) where
    abbrev all : WalkAll bs p left n z
    all = h.walk

    abbrev stands : Exprs → Standing
    stands es = together Operands es (sheet_of bs) (point_of all.dims z)

    abbrev first : Standing
    first = standing (walks-split bs p left n z some all).first (sheet_of bs) (point_of all.dims z)

    abbrev rest : Standing
    rest = stands (walks-split bs p left n z some all).rest

    first_rest : both first rest ≡ Holds
    unfolding together
    first_rest = sym (ap stands (walks-split bs p left n z some all).is) ∙ h.clear

    pub held_first : Held bs p left z
    unfolding walk_first
    held_first = record { walk = walk_first bs p left n z some all; clear = both_first first rest first_rest }

    -- the others, from where the first ends
    pub held-rest : (r : ℕ) → Ends bs p r → HeldAll bs r left (n - 1) z
    unfolding walk-rest
    held-rest r ends = record { walk = walk-rest bs p left n z some all r ends; clear = both-second first rest first_rest }
