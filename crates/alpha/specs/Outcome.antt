-- What an element's outcome is: the operators, an expression's outcome, and a variable's outcome at a depth.
-- Assumes nothing.
use Rattle.std.specs.Prelude.{ℕ, zero, suc, ◌+◌, Bool, true, false, not, ◌&&◌, ◌||◌, List, [], ◌∷◌, get_or, ℤ, pos, neg_ℤ, ◌+ℤ◌, ◌-ℤ◌, ◌*ℤ◌}
use Rattle.std.specs.Int.Signed.{le_z, lt_z, quot_z, rem_z}
use Rattle.alpha.specs.Pick.{ifb}
use Rattle.alpha.specs.Sheet.{Unary, Binary, Expr, Exprs, Sheet, Point}
use Rattle.alpha.specs.Sheet.{Expr.var, Expr.int, Expr.boo, Expr.un, Expr.bin, Expr.ite, Expr.kase, Expr.restr, Expr.dep, Exprs.none, Exprs.more}
use Rattle.alpha.specs.Sheet.{Unary.negate, Unary.complement, Binary.plus, Binary.minus, Binary.times, Binary.quot, Binary.rem, Binary.least, Binary.most, Binary.same, Binary.differ, Binary.under, Binary.up_to, Binary.over, Binary.from, Binary.both, Binary.either, Binary.one}
use Rattle.alpha.specs.Affine.{is_zero, image}
use Rattle.alpha.specs.Box.{within, size, index}
use Rattle.alpha.specs.Holds.{variable, is_input, in_domain, holds}

pub data Outcome : Type 0 where
  -- not in the declared domain
  outside : Outcome
  -- a number; false is 0, true 1
  value : ℤ → Outcome
  divzero overflow loop : Outcome

-- the first operand that is no value decides the result
abbrev pub and_then : Outcome → (ℤ → Outcome) → Outcome
and_then outside k = outside
and_then (value x) k = k x
and_then divzero k = divzero
and_then overflow k = overflow
and_then loop k = loop

-- ---- operators

-- the exact result, or OVERFLOW where it leaves the 32-bit range
abbrev pub exact : ℤ → Outcome
exact x = ifb (within (neg_ℤ (pos 2147483648)) (pos 2147483647) x) (λ _. value x) (λ _. overflow)

abbrev pub truth : Bool → Outcome
truth true = value (pos 1)
truth false = value (pos 0)

abbrev pub is_true : ℤ → Bool
is_true x = not (is_zero x)

-- x where the test holds, else y
abbrev pub choose : Bool → ℤ → ℤ → Outcome
choose true x y = value x
choose false x y = value y

-- quotient and remainder, rounded toward zero: a = b * (a div b) + (a mod b)
abbrev pub quotient : ℤ → ℤ → ℤ
quotient a b = quot_z a b

abbrev pub remainder : ℤ → ℤ → ℤ
remainder a b = rem_z a b

abbrev pub unary : Unary → ℤ → Outcome
unary negate x = exact (neg_ℤ x)
unary complement x = truth (is_zero x)

abbrev pub binary : Binary → ℤ → ℤ → Outcome
binary plus x y = exact (x +ℤ y)
binary minus x y = exact (x -ℤ y)
binary times x y = exact (x *ℤ y)
binary quot x y = ifb (is_zero y) (λ _. divzero) (λ _. exact (quotient x y))
binary rem x y = ifb (is_zero y) (λ _. divzero) (λ _. exact (remainder x y))
binary least x y = choose (le_z x y) x y
binary most x y = choose (le_z x y) y x
binary same x y = truth (is_zero (x -ℤ y))
binary differ x y = truth (not (is_zero (x -ℤ y)))
binary under x y = truth (lt_z x y)
binary up_to x y = truth (le_z x y)
binary over x y = truth (lt_z y x)
binary from x y = truth (le_z y x)
binary both x y = truth (is_true x && is_true y)
binary either x y = truth (is_true x || is_true y)
binary one x y = truth (not (is_zero (x -ℤ y)))

-- ---- an expression's outcome at a point, given the outcome of each variable at each point. Operands go left to right, all three of
-- an if; a case has the outcome of its holding branch (at a point where none holds there is no element to ask for: outside)
unfoldable mutual
  pub eval : Expr → Sheet → (ℕ → Point → Outcome) → Point → Outcome
  eval (var v) s look z = look v z
  eval (int c) s look z = value c
  eval (boo b) s look z = value (pos b)
  eval (un o a) s look z = and_then (eval a s look z) (λ x. unary o x)
  eval (bin o a b) s look z = and_then (eval a s look z) (λ x. and_then (eval b s look z) (λ y. binary o x y))
  eval (ite a b c) s look z = and_then (eval a s look z) (λ t. and_then (eval b s look z) (λ x. and_then (eval c s look z) (λ y. choose (is_true t) x y)))
  eval (kase es) s look z = eval_first es s look z
  eval (restr d cs a) s look z = eval a s look z
  eval (dep f a) s look z = eval a s look (image f.rows z)

  pub eval_first : Exprs → Sheet → (ℕ → Point → Outcome) → Point → Outcome
  eval_first none s look z = outside
  eval_first (more e es) s look z = ifb (holds e s z) (λ _. eval e s look z) (λ _. eval_first es s look z)

-- ---- a variable's outcome at a depth

-- the points of the input boxes before variable v
abbrev pub inputs_before : Sheet → ℕ → ℕ
inputs_before s zero = 0
inputs_before [] (suc v) = 0
inputs_before (x ∷ s) (suc v) = ifb (is_input x) (λ _. size x.head.box + inputs_before s v) (λ _. inputs_before s v)

-- an input's list entry: one for each point of each input box, in element order
abbrev pub entry : Sheet → List ℤ → ℕ → Point → Outcome
entry s ins v z = value (get_or ins (inputs_before s v + index (variable s v).head.box z) (pos 0))

-- outside the declared domain; an input's entry; else what the body gives
abbrev pub at_point : Sheet → List ℤ → ℕ → Point → (Unit {0} → Outcome) → Outcome
at_point s ins v z body =
    ifb (in_domain (variable s v) z) (λ _. ifb (is_input (variable s v)) (λ _. entry s ins v z) body) (λ _. outside)

-- an output or a local at depth k is its body at depth k - 1, and LOOP at depth 0; an input has no depth
unfoldable pub outcome : ℕ → Sheet → List ℤ → ℕ → Point → Outcome
outcome zero s ins v z = at_point s ins v z (λ _. loop)
outcome (suc k) s ins v z = at_point s ins v z (λ _. eval (variable s v).body s (λ w y. outcome k s ins w y) z)

-- the depth at which the run's outcome is taken
abbrev pub deepest : ℕ
deepest = 4096
