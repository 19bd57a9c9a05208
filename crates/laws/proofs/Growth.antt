-- Outcomes grow with the depth: at a greater depth an element has the same outcome, or had LOOP before. And the outcome of an element by
-- what its variable is: outside, an entry, a body's. Assumes nothing.
use mathlib.Core.Path.{◌≡◌, refl, sym, subst}
use Prim.Native.Nat.{ℕ, zero, suc, ◌+◌, ◌-◌, ◌≤◌}
use native.Mathlib.Nat.{add-zero, add-suc}
use native.Mathlib.Omega.{arith}
use mathlib.Core.Bool.{Bool, true, false}
use mathlib.Core.List.{List}
use lib.IntN.{ℤ}
use Rattle.alpha.specs.Pick.{ifb}
use Rattle.alpha.specs.Sheet.{Expr, Exprs, Sheet, Point}
use Rattle.alpha.specs.Sheet.{Expr.var, Expr.int, Expr.boo, Expr.un, Expr.bin, Expr.ite, Expr.kase, Expr.restr, Expr.dep, Exprs.none, Exprs.more}
use Rattle.alpha.specs.Affine.{image}
use Rattle.alpha.specs.Holds.{variable, is_input, in_domain, holds}
use Rattle.alpha.specs.Outcome.{Outcome, outside, value, divzero, overflow, loop, and_then, unary, binary, choose, is_true, eval, eval_first, entry, at_point, outcome}
use Rattle.laws.specs.Under.{Under}

-- ---- the order

pub under-refl : (o : Outcome) → Under o o
under-refl outside = refl
under-refl (value x) = refl
under-refl divzero = refl
under-refl overflow = refl
under-refl loop = tt

pub under-trans : (o p q : Outcome) → Under o p → Under p q → Under o q
under-trans outside p q h k = rw h at k
under-trans (value x) p q h k = rw h at k
under-trans divzero p q h k = rw h at k
under-trans overflow p q h k = rw h at k
under-trans loop p q h k = tt

-- what LOOP is above is LOOP
pub under-loop : (o : Outcome) → Under o loop → o ≡ loop
under-loop outside h = sym h
under-loop (value x) h = sym h
under-loop divzero h = sym h
under-loop overflow h = sym h
under-loop loop h = refl

-- ---- what keeps it

pub under-then : (o p : Outcome) (f g : ℤ → Outcome) → Under o p → ((x : ℤ) → Under (f x) (g x)) → Under (and_then o f) (and_then p g)
under-then outside p f g h k = rw h refl
under-then (value x) p f g h k = rw h (k x)
under-then divzero p f g h k = rw h refl
under-then overflow p f g h k = rw h refl
under-then loop p f g h k = tt

under-if : (b : Bool) (x x' y y' : Unit {0} → Outcome) → Under (x tt) (x' tt) → Under (y tt) (y' tt) → Under (ifb b x y) (ifb b x' y')
under-if true x x' y y' p q = p
under-if false x x' y y' p q = q

module _ (s : Sheet) (f g : ℕ → Point → Outcome) (h : (v : ℕ) (z : Point) → Under (f v z) (g v z)) where
  mutual
    unfolding eval

    pub eval-under : (e : Expr) (z : Point) → Under (eval e s f z) (eval e s g z)
    eval-under (var v) z = h v z
    eval-under (int c) z = refl
    eval-under (boo b) z = refl
    eval-under (un o a) z = under-then (eval a s f z) (eval a s g z) _ _ (eval-under a z) (λ x. under-refl (unary o x))
    eval-under (bin o a b) z =
        under-then (eval a s f z) (eval a s g z) _ _ (eval-under a z) (λ x.
        under-then (eval b s f z) (eval b s g z) _ _ (eval-under b z) (λ y. under-refl (binary o x y)))
    eval-under (ite a b c) z =
        under-then (eval a s f z) (eval a s g z) _ _ (eval-under a z) (λ t.
        under-then (eval b s f z) (eval b s g z) _ _ (eval-under b z) (λ x.
        under-then (eval c s f z) (eval c s g z) _ _ (eval-under c z) (λ y. under-refl (choose (is_true t) x y))))
    eval-under (kase es) z = eval_first-under es z
    eval-under (restr d cs a) z = eval-under a z
    eval-under (dep m a) z = eval-under a (image m.rows z)

    pub eval_first-under : (es : Exprs) (z : Point) → Under (eval_first es s f z) (eval_first es s g z)
    eval_first-under none z = refl
    eval_first-under (more e es) z = under-if (holds e s z) _ _ _ _ (eval-under e z) (eval_first-under es z)

-- ---- outcomes by depth

module _ (s : Sheet) (ins : List ℤ) where
  at_point-under : (v : ℕ) (z : Point) (x y : Unit {0} → Outcome) → Under (x tt) (y tt) → Under (at_point s ins v z x) (at_point s ins v z y)
  at_point-under v z x y h =
      under-if (in_domain (variable s v) z) _ _ _ _ (under-if (is_input (variable s v)) _ _ x y (under-refl (entry s ins v z)) h) refl

  pub outcome-suc : (k v : ℕ) (z : Point) → Under (outcome k s ins v z) (outcome (suc k) s ins v z)
  unfolding outcome
  outcome-suc zero v z = at_point-under v z (λ _. loop) _ tt
  outcome-suc (suc k) v z = at_point-under v z _ _ (eval-under s _ _ (λ w y. outcome-suc k w y) (variable s v).body z)

  outcome-add : (d k v : ℕ) (z : Point) → Under (outcome k s ins v z) (outcome (k + d) s ins v z)
  outcome-add zero k v z = rw add-zero (under-refl (outcome k s ins v z))
  outcome-add (suc d) k v z =
      rw add-suc (under-trans (outcome k s ins v z) (outcome (k + d) s ins v z) (outcome (suc (k + d)) s ins v z) (outcome-add d k v z) (outcome-suc (k + d) v z))

  -- an element, at a depth and at a greater one
  pub outcome-under : (j k v : ℕ) (z : Point) → j ≤ k → Under (outcome j s ins v z) (outcome k s ins v z)
  outcome-under j k v z h =
      let e : j + (k - j) ≡ k = omega arith in
      subst (λ (n : ℕ). Under (outcome j s ins v z) (outcome n s ins v z)) e (outcome-add (k - j) j v z)

  -- an expression over the outcomes at a depth
  pub eval-grows : (j k : ℕ) (e : Expr) (z : Point) → j ≤ k → Under (eval e s (outcome j s ins) z) (eval e s (outcome k s ins) z)
  eval-grows j k e z h = eval-under s (outcome j s ins) (outcome k s ins) (λ v y. outcome-under j k v y h) e z

  -- ---- an element by its body

  pub outcome-outside : (k v : ℕ) (z : Point) → in_domain (variable s v) z ≡ false → outcome k s ins v z ≡ outside
  unfolding outcome
  outcome-outside zero v z d = rw d
  outcome-outside (suc k) v z d = rw d

  pub outcome-input : (k v : ℕ) (z : Point) → in_domain (variable s v) z ≡ true → is_input (variable s v) ≡ true → outcome k s ins v z ≡ entry s ins v z
  unfolding outcome
  outcome-input zero v z d i = rw (d, i)
  outcome-input (suc k) v z d i = rw (d, i)

  module _ (v : ℕ) (z : Point) (d : in_domain (variable s v) z ≡ true) (i : is_input (variable s v) ≡ false) where
    pub outcome-none : outcome 0 s ins v z ≡ loop
    unfolding outcome
    outcome-none = rw (d, i)

    pub outcome-body : (k : ℕ) → outcome (suc k) s ins v z ≡ eval (variable s v).body s (outcome k s ins) z
    unfolding outcome
    outcome-body k = rw (d, i)
