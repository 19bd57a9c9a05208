-- The sheet whose bodies are the normal forms of an accepted sheet's passes the checks that the sheet passes: dimension, type, reach, GAP and
-- CLASH; its bodies have their form, and are their own normal forms. Assumes nothing.
use mathlib.Core.Path.{◌≡◌, refl, ap, ◌∙◌, fun_ext}
use Prim.Native.Nat.{ℕ, ◌<◌}
use native.Mathlib.Omega.{arith}
use mathlib.Core.Bool.{true, false, ◌||◌}
use mathlib.Core.List.{List}
use mathlib.Core.Option.{Option, Option.none, some}
use lib.ListN.{length}
use Rattle.alpha.specs.Sheet.{Sort, Sort.integer, Sort.boolean, Raw, Expr, Exprs, Sheet, Point}
use Rattle.alpha.specs.Sheet.{Expr.var, Expr.int, Expr.boo, Expr.un, Expr.bin, Expr.ite, Expr.kase, Expr.restr, Expr.dep, Exprs.none, Exprs.more}
use Rattle.alpha.specs.Affine.{meets_all, image}
use Rattle.alpha.specs.Box.{in_box}
use Rattle.alpha.specs.Read.{dimension}
use Rattle.alpha.specs.Shape.{fits}
use Rattle.alpha.specs.Typing.{type_of, is_sort}
use Rattle.alpha.specs.Reach.{top_reach, all_reach, reach}
use Rattle.alpha.specs.Holds.{variable, is_input, in_domain, holds, some_holds, two_hold, clashes, in_branches}
use Rattle.alpha.specs.Check.{typed, reached}
use Rattle.alpha.specs.Normal.{norm, body_case}
use Rattle.alpha.specs.Normalise.{dims, normal_body}
use Rattle.laws.specs.Accepted.{Accepted}
use Rattle.laws.specs.Normal.{body_form, normal_sheet}
use Rattle.laws.proofs.Tests.{true-not-false, &&-left, &&-right, &&-true}
use Rattle.laws.proofs.Boxes.{in_box-length}
use Rattle.laws.proofs.Checked.{accepted-body, accepted-dimension}
use Rattle.laws.proofs.NormalForm.{normal-holds}
use Rattle.laws.proofs.NormalChecks.{normal-form, normal-fits}
use Rattle.laws.proofs.NormalType.{normal-type}
use Rattle.laws.proofs.NormalReach.{normal-reach}
use Rattle.laws.proofs.NormalClear.{normal-clear}
use Rattle.laws.proofs.SameOutcome.{holds_same, normal-variable}

-- ---- clashes over two sheets whose variables have the same declared domains

module _ (s t : Sheet) (same : (v : ℕ) (z : Point) → in_domain (variable t v) z ≡ in_domain (variable s v) z) where
  some_holds-same : (es : Exprs) (z : Point) → some_holds es t z ≡ some_holds es s z
  unfolding holds
  some_holds-same es z = holds_same s t same (kase es) z

  two_hold-same : (es : Exprs) (z : Point) → two_hold es t z ≡ two_hold es s z
  unfolding two_hold
  two_hold-same none z = refl
  two_hold-same (more e es) z = rw (holds_same s t same e z, some_holds-same es z, two_hold-same es z)

  mutual
    unfolding clashes

    pub clashes-same : (e : Expr) (z : Point) → clashes e t z ≡ clashes e s z
    clashes-same (var v) z = refl
    clashes-same (int c) z = refl
    clashes-same (boo b) z = refl
    clashes-same (un o a) z = clashes-same a z
    clashes-same (bin o a b) z = rw (clashes-same a z, clashes-same b z)
    clashes-same (ite a b c) z = rw (clashes-same a z, clashes-same b z, clashes-same c z)
    clashes-same (kase es) z = rw (two_hold-same es z, in_branches-same es z)
    clashes-same (restr d cs a) z = clashes-same a z
    clashes-same (dep f a) z = clashes-same a (image f.rows z)

    in_branches-same : (es : Exprs) (z : Point) → in_branches es t z ≡ in_branches es s z
    in_branches-same none z = refl
    in_branches-same (more e es) z = rw (holds_same s t same e z, clashes-same e z, in_branches-same es z)

-- ---- the type that is wanted

pub is_sort-is : (k : Sort) (t : Option Sort) → is_sort k t ≡ true → t ≡ some k
is_sort-is integer (some integer) h = refl
is_sort-is integer (some boolean) h = true-not-false {b = false} h refl
is_sort-is integer Option.none h = true-not-false {b = false} h refl
is_sort-is boolean (some integer) h = true-not-false {b = false} h refl
is_sort-is boolean (some boolean) h = refl
is_sort-is boolean Option.none h = true-not-false {b = false} h refl

is_sort-refl : (k : Sort) → is_sort k (some k) ≡ true
is_sort-refl integer = refl
is_sort-refl boolean = refl

-- ---- each variable

module _ {bs : List ℕ} {r : Raw} {s : Sheet} (a : Accepted bs r s) (v : ℕ) (lt : v < length s) (i : is_input (variable s v) ≡ false) where
  -- the dimensions of the sheet are those of its records
  normal-is : normal_body s (variable s v) ≡ body_case (length (variable s v).head.box) (norm (variable s v).body (dimension r.heads))
  normal-is = ap (λ f. body_case (length (variable s v).head.box) (norm (variable s v).body f)) (fun_ext (accepted-dimension a))

  pub body-form : body_form (normal_body s (variable s v)) ≡ true
  body-form = normal-form (length (variable s v).head.box) (variable s v).body (dims s)

  pub body-fits : fits (normal_body s (variable s v)) r.heads (length (variable s v).head.box) ≡ true
  body-fits = rw normal-is (normal-fits r.heads (length (variable s v).head.box) (variable s v).body (accepted-body a v lt i).fitting)

  pub body_typed : typed r.heads (variable (normal_sheet s) v) ≡ true
  body_typed =
      let x = variable s v in
      let k = x.head.sort in
      let h : is_sort k (type_of x.body r.heads) ≡ true = rw i at (a.types v lt) in
      let t = normal-type r.heads (length x.head.box) x.body (dims s) k (is_sort-is k (type_of x.body r.heads) h) in
      rw (normal-variable s v, i, t) (is_sort-refl k)

  pub body-reached : reached (variable (normal_sheet s) v) ≡ true
  body-reached =
      let x = variable s v in
      let all = a.reaches v lt in
      let declared = &&-left (all_reach top_reach x.declared) (is_input x || reach x.body top_reach) all in
      let h : reach x.body top_reach ≡ true = rw i at (&&-right (all_reach top_reach x.declared) (is_input x || reach x.body top_reach) all) in
      let t = normal-reach (length x.head.box) x.body (dims s) top_reach (omega arith) (omega arith) h in
      rw (normal-variable s v, i, t) (&&-true declared refl)

  -- at a point of the declared domain
  module _ (z : Point) (d : in_domain (variable s v) z ≡ true) where
    fit : fits (variable s v).body r.heads (length z) ≡ true
    fit =
        let x = variable s v in
        rw (in_box-length x.head.box z (&&-left (in_box x.head.box z) (meets_all x.declared z) d)) (accepted-body a v lt i).fitting

    -- over any sheet whose variables have the declared domains of this one
    module _ (t : Sheet) (same : (w : ℕ) (y : Point) → in_domain (variable t w) y ≡ in_domain (variable s w) y) where
      pub body-covered : holds (normal_body s (variable s v)) t z ≡ true
      body-covered =
          let x = variable s v in
          holds_same s t same (normal_body s x) z
          ∙ ap (λ e. holds e s z) normal-is
          ∙ normal-holds s r.heads (length x.head.box) x.body z fit
          ∙ a.covered v z lt i d

      pub body-clear : clashes (normal_body s (variable s v)) t z ≡ false
      body-clear =
          let x = variable s v in
          clashes-same s t same (normal_body s x) z
          ∙ ap (λ e. clashes e s z) normal-is
          ∙ normal-clear s r.heads (length x.head.box) x.body z fit (a.covered v z lt i d) (a.clear v z lt i d)
