-- How the standing of a tree follows from its children's: by its node where there are none, together where it is an operator or a case,
-- as the child where a restriction's constraints hold, and as the child at the image for a dependence. Assumes nothing.
use mathlib.Core.Path.{◌≡◌, refl, sym, ap, ◌∙◌}
use Prim.Native.Nat.{ℕ}
use mathlib.Core.Bool.{Bool, true, false, ◌&&◌, ◌||◌}
use mathlib.Core.List.{List}
use Rattle.alpha.specs.Sheet.{Constraint, Map, Expr, Exprs, Sheet, Point}
use Rattle.alpha.specs.Sheet.{Expr.kase, Expr.restr, Expr.dep, Exprs.none, Exprs.more}
use Rattle.alpha.specs.Affine.{meets_all, image}
use Rattle.alpha.specs.Holds.{holds, some_holds, two_hold, clashes, in_branches}
use Rattle.laws.specs.At.{node_of}
use Rattle.laws.specs.Children.{children_of}
use Rattle.laws.proofs.Tests.{true-not-false}
use Rattle.tree.specs.declared.Class.TheVariants.{Operator}
use Rattle.tree.specs.Classes.{class_of}
use Rattle.tree.proofs.Classes.{operator-tree}
use Rattle.domain.specs.declared.Standing.{Standing}
use Rattle.domain.specs.declared.Together.{Together}
use Rattle.domain.specs.declared.Together.TheVariants.{Branches, Operands}
use Rattle.domain.specs.declared.Standing.TheVariants.{Not, Holds, Clash}
use Rattle.domain.specs.Standing.{rated, standing, both, either, joined, alone, together}

-- ---- joining

both-alone : (a : Standing) → both a Holds ≡ a
both-alone Not = refl
both-alone Holds = refl
both-alone Clash = refl

both-assoc : (a b c : Standing) → both (both a b) c ≡ both a (both b c)
both-assoc Not b c = refl
both-assoc Holds b c = refl
both-assoc Clash Not c = refl
both-assoc Clash Holds c = refl
both-assoc Clash Clash Not = refl
both-assoc Clash Clash Holds = refl
both-assoc Clash Clash Clash = refl

either-alone : (a : Standing) → either a Not ≡ a
either-alone Not = refl
either-alone Holds = refl
either-alone Clash = refl

either-assoc : (a b c : Standing) → either (either a b) c ≡ either a (either b c)
either-assoc Not b c = refl
either-assoc Holds Not c = refl
either-assoc Holds Holds Not = refl
either-assoc Holds Holds Holds = refl
either-assoc Holds Holds Clash = refl
either-assoc Holds Clash c = refl
either-assoc Clash b c = refl

pub joined-alone : (which : Together) (a : Standing) → joined which a (alone which) ≡ a
joined-alone Branches a = either-alone a
joined-alone Operands a = both-alone a

pub joined-assoc : (which : Together) (a b c : Standing) → joined which (joined which a b) c ≡ joined which a (joined which b c)
joined-assoc Branches a b c = either-assoc a b c
joined-assoc Operands a b c = both-assoc a b c

pub alone-joined : (which : Together) (a : Standing) → joined which (alone which) a ≡ a
alone-joined Branches a = refl
alone-joined Operands a = refl

-- ---- operands

rated-both : (h c k d : Bool) → rated (h && k) (c || d) ≡ both (rated h c) (rated k d)
rated-both false c k d = refl
rated-both true false k d = refl
rated-both true true false d = refl
rated-both true true true false = refl
rated-both true true true true = refl

module _ (s : Sheet) (z : Point) where
  -- an operator stands as its operands together
  pub operands-stand : (e : Expr) → class_of (node_of e) ≡ Operator → standing e s z ≡ together Operands (children_of e) s z
  unfolding holds clashes together
  operands-stand = operator-tree (λ e. standing e s z ≡ together Operands (children_of e) s z) (λ o a. sym (both-alone (standing a s z))) (λ o a b.
      rated-both (holds a s z) (clashes a s z) (holds b s z) (clashes b s z) ∙ ap (both (standing a s z)) (sym (both-alone (standing b s z)))) (λ a b c.
      rated-both (holds a s z && holds b s z) (clashes a s z || clashes b s z) (holds c s z) (clashes c s z)
      ∙ ap (λ x. both x (standing c s z)) (rated-both (holds a s z) (clashes a s z) (holds b s z) (clashes b s z))
      ∙ both-assoc (standing a s z) (standing b s z) (standing c s z)
      ∙ ap (λ x. both (standing a s z) (both (standing b s z) x)) (sym (both-alone (standing c s z))))

  -- ---- branches

  -- where no branch holds, no two do, and none is reached
  none-two : (es : Exprs) → some_holds es s z ≡ false → two_hold es s z || in_branches es s z ≡ false
  unfolding holds two_hold clashes
  none-two none n = refl
  none-two (more e es) n = go (holds e s z) refl (none-two es)
    where
      go : (b : Bool) → holds e s z ≡ b → (some_holds es s z ≡ false → two_hold es s z || in_branches es s z ≡ false) →
          ((b && some_holds es s z) || two_hold es s z) || ((b && clashes e s z) || in_branches es s z) ≡ false
      go true h rest = true-not-false {b = true} refl (rw h at n)
      go false h rest = rest (rw h at n)

  rated-either : (h c k two deep : Bool) → (k ≡ false → two || deep ≡ false) →
      rated (h || k) (((h && k) || two) || ((h && c) || deep)) ≡ either (rated h c) (rated k (two || deep))
  rated-either false c k two deep n = refl
  rated-either true false true two deep n = each two deep
    where
      each : (two deep : Bool) → Clash ≡ either Holds (rated true (two || deep))
      each true deep = refl
      each false true = refl
      each false false = refl
  rated-either true true true two deep n = each two deep
    where
      each : (two deep : Bool) → Clash ≡ either Clash (rated true (two || deep))
      each true deep = refl
      each false true = refl
      each false false = refl
  rated-either true false false true deep n = true-not-false {b = true} refl (n refl)
  rated-either true false false false true n = true-not-false {b = true} refl (n refl)
  rated-either true false false false false n = refl
  rated-either true true false two deep n = true-clash two deep n
    where
      true-clash : (two deep : Bool) → (false ≡ false → two || deep ≡ false) → rated true (two || (true || deep)) ≡ either Clash Not
      true-clash true deep n = refl
      true-clash false deep n = refl

  -- a case stands as its branches together
  pub branches-stand : (es : Exprs) → standing (kase es) s z ≡ together Branches es s z
  unfolding holds two_hold clashes together
  branches-stand none = refl
  branches-stand (more e es) =
      rated-either (holds e s z) (clashes e s z) (some_holds es s z) (two_hold es s z) (in_branches es s z) (none-two es)
      ∙ ap (either (standing e s z)) (branches-stand es)

  -- ---- one child

  pub restriction-stands : (d : ℕ) (cs : List Constraint) (a : Expr) → meets_all cs z ≡ true → standing (restr d cs a) s z ≡ standing a s z
  unfolding holds clashes
  restriction-stands d cs a m = rw m refl

  pub restriction-not : (d : ℕ) (cs : List Constraint) (a : Expr) → meets_all cs z ≡ false → standing (restr d cs a) s z ≡ Not
  unfolding holds clashes
  restriction-not d cs a m = rw m refl

  pub dependence-stands : (f : Map) (a : Expr) → standing (dep f a) s z ≡ standing a s (image f.rows z)
  unfolding holds clashes
  dependence-stands f a = refl
