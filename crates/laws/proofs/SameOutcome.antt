-- Sheets whose variables differ only in bodies that have one outcome where it is asked for have one outcome at every depth; and the
-- normal form of a body of an accepted sheet is such a body. Assumes nothing.
use mathlib.Core.Path.{◌≡◌, refl, sym, ap, ◌∙◌, fun_ext}
use Prim.Native.Nat.{ℕ, zero, suc, ◌<◌}
use native.Mathlib.Omega.{arith}
use native.Mathlib.Decide.{dec_lt}
use mathlib.Core.Bool.{Bool, true, false}
use mathlib.Core.List.{List}
use lib.ListN.{length, get_or-map, get_or-eq_default}
use lib.IntN.{ℤ}
use Rattle.alpha.specs.Pick.{ifb}
use Rattle.alpha.specs.Sheet.{Raw, Expr, Exprs, Sheet, Point}
use Rattle.alpha.specs.Sheet.{Expr.var, Expr.int, Expr.boo, Expr.un, Expr.bin, Expr.ite, Expr.kase, Expr.restr, Expr.dep, Exprs.none, Exprs.more}
use Rattle.alpha.specs.Affine.{meets_all, image}
use Rattle.alpha.specs.Box.{in_box}
use Rattle.alpha.specs.Read.{dimension}
use Rattle.alpha.specs.Shape.{fits}
use Rattle.alpha.specs.Holds.{no_variable, variable, is_input, in_domain, holds, some_holds}
use Rattle.alpha.specs.Outcome.{Outcome, outside, loop, eval, eval_first, entry, at_point, outcome}
use Rattle.alpha.specs.Normal.{norm, body_case}
use Rattle.alpha.specs.Normalise.{dims, normal_body}
use Rattle.laws.specs.Accepted.{Accepted}
use Rattle.laws.specs.Normal.{normal_variable, normal_sheet}
use Rattle.laws.proofs.Tests.{&&-left, true-not-false}
use Rattle.laws.proofs.Boxes.{in_box-length}
use Rattle.laws.proofs.NormalForm.{normal-eval}
use Rattle.laws.proofs.Checked.{accepted-body, accepted-dimension}

-- ---- expressions over two sheets whose variables have the same declared domains

module _ (s t : Sheet) (same : (v : ℕ) (z : Point) → in_domain (variable t v) z ≡ in_domain (variable s v) z) where
  mutual
    unfolding holds

    pub holds_same : (e : Expr) (z : Point) → holds e t z ≡ holds e s z
    holds_same (var v) z = same v z
    holds_same (int c) z = refl
    holds_same (boo b) z = refl
    holds_same (un o a) z = holds_same a z
    holds_same (bin o a b) z = rw (holds_same a z, holds_same b z)
    holds_same (ite a b c) z = rw (holds_same a z, holds_same b z, holds_same c z)
    holds_same (kase es) z = some_holds-same es z
    holds_same (restr d cs a) z = rw (holds_same a z)
    holds_same (dep f a) z = holds_same a (image f.rows z)

    some_holds-same : (es : Exprs) (z : Point) → some_holds es t z ≡ some_holds es s z
    some_holds-same none z = refl
    some_holds-same (more e es) z = rw (holds_same e z, some_holds-same es z)

  module _ (look : ℕ → Point → Outcome) where
    mutual
      unfolding eval

      pub eval-same : (e : Expr) (z : Point) → eval e t look z ≡ eval e s look z
      eval-same (var v) z = refl
      eval-same (int c) z = refl
      eval-same (boo b) z = refl
      eval-same (un o a) z = rw (eval-same a z)
      eval-same (bin o a b) z = rw (eval-same a z, eval-same b z)
      eval-same (ite a b c) z = rw (eval-same a z, eval-same b z, eval-same c z)
      eval-same (kase es) z = eval_first-same es z
      eval-same (restr d cs a) z = eval-same a z
      eval-same (dep f a) z = eval-same a (image f.rows z)

      eval_first-same : (es : Exprs) (z : Point) → eval_first es t look z ≡ eval_first es s look z
      eval_first-same none z = refl
      eval_first-same (more e es) z = rw (holds_same e z, eval-same e z, eval_first-same es z)

-- ---- two sheets whose variables differ only in bodies that have one outcome where it is asked for

module _ (s t : Sheet) (ins : List ℤ)
    (domain : (v : ℕ) (z : Point) → in_domain (variable t v) z ≡ in_domain (variable s v) z)
    (input : (v : ℕ) → is_input (variable t v) ≡ is_input (variable s v))
    (given : (v : ℕ) (z : Point) → entry t ins v z ≡ entry s ins v z)
    (body : (v : ℕ) (z : Point) (look : ℕ → Point → Outcome) → is_input (variable s v) ≡ false → in_domain (variable s v) z ≡ true →
    eval (variable t v).body s look z ≡ eval (variable s v).body s look z) where
  point-alike : (v : ℕ) (z : Point) (x y : Unit {0} → Outcome) → (is_input (variable s v) ≡ false → in_domain (variable s v) z ≡ true → x tt ≡ y tt) →
      at_point t ins v z x ≡ at_point s ins v z y
  point-alike v z x y h = rw (domain v z, input v, given v z) (go (in_domain (variable s v) z) (is_input (variable s v)) refl refl)
    where
      go : (d i : Bool) → in_domain (variable s v) z ≡ d → is_input (variable s v) ≡ i →
          ifb d (λ _. ifb i (λ _. entry s ins v z) x) (λ _. outside) ≡ ifb d (λ _. ifb i (λ _. entry s ins v z) y) (λ _. outside)
      go true true p q = refl
      go true false p q = h q p
      go false i p q = refl

  pub outcome-alike : (k v : ℕ) (z : Point) → outcome k t ins v z ≡ outcome k s ins v z
  unfolding outcome
  outcome-alike zero v z = point-alike v z (λ _. loop) (λ _. loop) (λ _ _. refl)
  outcome-alike (suc k) v z =
      let looks : outcome k t ins ≡ outcome k s ins = fun_ext (λ w. fun_ext (λ y. outcome-alike k w y)) in
      point-alike v z _ _ (λ i d.
      ap (λ look. eval (variable t v).body t look z) looks ∙ eval-same s t domain (outcome k s ins) (variable t v).body z ∙ body v z (outcome k s ins) i d)

-- ---- the variables of the normal form

pub normal-variable : (s : Sheet) (v : ℕ) → variable (normal_sheet s) v ≡ normal_variable s (variable s v)
unfolding norm
normal-variable s v = get_or-map (normal_variable s) s v no_variable

-- ---- outcomes

module _ {bs : List ℕ} {r : Raw} {s : Sheet} (a : Accepted bs r s) where
  -- the body's normal form has the body's outcome at each point of the declared domain
  pub body_same : (v : ℕ) (z : Point) (look : ℕ → Point → Outcome) → v < length s → is_input (variable s v) ≡ false → in_domain (variable s v) z ≡ true →
      eval (normal_body s (variable s v)) s look z ≡ eval (variable s v).body s look z
  body_same v z look lt i d =
      let x = variable s v in
      let box = x.head.box in
      let long : length z ≡ length box = in_box-length box z (&&-left (in_box box z) (meets_all x.declared z) d) in
      let fit : fits x.body r.heads (length z) ≡ true = rw long (accepted-body a v lt i).fitting in
      let ds : dims s ≡ dimension r.heads = fun_ext (accepted-dimension a) in
      ap (λ f. eval (body_case (length box) (norm x.body f)) s look z) ds
      ∙ normal-eval s r.heads (length box) x.body z fit look (a.covered v z lt i d)

  -- a variable that is not an input is one of the sheet's
  pub known : (v : ℕ) → is_input (variable s v) ≡ false → v < length s
  known v i = go (dec_lt v (length s))
    where
      go : Dec (v < length s) → v < length s
      go (yes h) = h
      go (no h) = true-not-false {b = true} refl (sym (ap is_input (get_or-eq_default s no_variable {n = v} (omega arith))) ∙ i)
