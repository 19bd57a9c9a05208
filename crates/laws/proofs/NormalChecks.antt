-- A normal form has its form, and fits the dimension that its expression fits. Assumes nothing.
use mathlib.Core.Path.{◌≡◌, refl, sym, ap, ◌∙◌}
use Prim.Native.Nat.{ℕ, zero, suc}
use mathlib.Core.Bool.{true, ◌&&◌}
use mathlib.Core.List.{List, [], ◌∷◌}
use lib.ListN.{length, length-map}
use lib.Dec.{eqb}
use borrow.Author.Tests.{eq-eqb}
use Rattle.alpha.specs.Sheet.{Map, Head, Expr, Exprs}
use Rattle.alpha.specs.Sheet.{Expr.var, Expr.int, Expr.boo, Expr.un, Expr.bin, Expr.ite, Expr.kase, Expr.restr, Expr.dep}
use Rattle.alpha.specs.Affine.{id_rows, wider, row_after}
use Rattle.alpha.specs.Read.{dimension}
use Rattle.alpha.specs.Shape.{fits, all_fit}
use Rattle.alpha.specs.Normal.{Branch, push, norm, as_exprs, body_case}
use Rattle.laws.specs.Normal.{tree_form, branch_forms, body_form}
use Rattle.laws.proofs.Tests.{&&-left, &&-right, &&-true}
use Rattle.laws.proofs.Branches.{AllBranches, all_same, Rules, norm-all}

-- ---- the form

pub push-form : (e : Expr) (f : Map) → tree_form e ≡ true → tree_form (push e f) ≡ true
unfolding tree_form push
push-form (var v) f h = refl
push-form (int c) f h = refl
push-form (boo b) f h = refl
push-form (un o a) f h = push-form a f h
push-form (bin o a b) f h =
    &&-true (push-form a f (&&-left (tree_form a) (tree_form b) h)) (push-form b f (&&-right (tree_form a) (tree_form b) h))
push-form (ite a b c) f h =
    let k = &&-left (tree_form a && tree_form b) (tree_form c) h in
    &&-true (&&-true (push-form a f (&&-left (tree_form a) (tree_form b) k)) (push-form b f (&&-right (tree_form a) (tree_form b) k)))
    (push-form c f (&&-right (tree_form a && tree_form b) (tree_form c) h))
push-form (kase es) f h = h
push-form (restr d cs a) f h = h
push-form (dep g a) f h = h

abbrev pub HasForm : Branch → Type 0
HasForm b = tree_form b.term ≡ true

pub form-rules : (dims : ℕ → ℕ) → Rules dims (λ e b. HasForm b) (λ es b. HasForm b)
unfolding tree_form
form-rules dims = record {
  of-var = λ v. refl;
  of-int = λ c. refl;
  of-boo = λ b. refl;
  of-un = λ o e a h. h;
  of-bin = λ o e f a b h k. &&-true h k;
  of-ite = λ e f g a b c h k l. &&-true (&&-true h k) l;
  of-kase = λ es a h. h;
  of-restr = λ d cs e a h. h;
  of-dep = λ f e a h. push-form a.term f h;
  of-first = λ e es a h. h;
  of-rest = λ e es a h. h;
}

branches-form : (n : ℕ) (bs : List Branch) → AllBranches HasForm bs → branch_forms (as_exprs n bs) ≡ true
branches-form n [] h = refl
branches-form n (b ∷ bs) h = &&-true h.0 (branches-form n bs h.1)

pub normal-form : (n : ℕ) (e : Expr) (dims : ℕ → ℕ) → body_form (body_case n (norm e dims)) ≡ true
normal-form n e dims = branches-form n (norm e dims) (norm-all dims (λ _ b. HasForm b) (λ _ b. HasForm b) (form-rules dims) e)

-- ---- the dimension

length-id_rows : (n : ℕ) → length (id_rows n) ≡ n
length-id_rows zero = refl
length-id_rows (suc n) = ap suc (length-map (id_rows n) wider ∙ length-id_rows n)

module _ (hs : List Head) where
  -- a map pushed into what fits its rows fits its columns
  pub push-fits : (e : Expr) (f : Map) (n : ℕ) → eqb f.cols n ≡ true → fits e hs (length f.rows) ≡ true → fits (push e f) hs n ≡ true
  unfolding fits push
  push-fits (var v) f n c h = &&-true c h
  push-fits (int v) f n c h = &&-true c h
  push-fits (boo b) f n c h = &&-true c h
  push-fits (un o a) f n c h = push-fits a f n c h
  push-fits (bin o a b) f n c h =
      let m = length f.rows in
      &&-true (push-fits a f n c (&&-left (fits a hs m) (fits b hs m) h)) (push-fits b f n c (&&-right (fits a hs m) (fits b hs m) h))
  push-fits (ite a b d) f n c h =
      let m = length f.rows in
      let k = &&-left (fits a hs m && fits b hs m) (fits d hs m) h in
      &&-true (&&-true (push-fits a f n c (&&-left (fits a hs m) (fits b hs m) k)) (push-fits b f n c (&&-right (fits a hs m) (fits b hs m) k)))
      (push-fits d f n c (&&-right (fits a hs m && fits b hs m) (fits d hs m) h))
  push-fits (kase es) f n c h = &&-true c h
  push-fits (restr d cs a) f n c h = &&-true c h
  push-fits (dep g a) f n c h =
      &&-true c (rw (length-map g.rows (row_after f)) (&&-right (eqb g.cols (length f.rows)) (fits a hs (length g.rows)) h))

  -- a branch fits wherever the expression fits
  abbrev pub FitsToo : Expr → Branch → Type 0
  FitsToo e b = (n : ℕ) → fits e hs n ≡ true → fits b.term hs n ≡ true

  abbrev pub AllFitToo : Exprs → Branch → Type 0
  AllFitToo es b = (n : ℕ) → all_fit es hs n ≡ true → fits b.term hs n ≡ true

  pub fits-rules : Rules (dimension hs) FitsToo AllFitToo
  unfolding fits
  fits-rules = record {
    of-var = λ v n h. &&-true h (eq-eqb (dimension hs v) (length (id_rows (dimension hs v))) (sym (length-id_rows (dimension hs v))));
    of-int = λ c n h. &&-true h refl;
    of-boo = λ b n h. &&-true h refl;
    of-un = λ o e a q. q;
    of-bin = λ o e f a b q p n h. &&-true (q n (&&-left (fits e hs n) (fits f hs n) h)) (p n (&&-right (fits e hs n) (fits f hs n) h));
    of-ite = λ e f g a b c q p o n h.
        let k = &&-left (fits e hs n && fits f hs n) (fits g hs n) h in
        &&-true (&&-true (q n (&&-left (fits e hs n) (fits f hs n) k)) (p n (&&-right (fits e hs n) (fits f hs n) k)))
        (o n (&&-right (fits e hs n && fits f hs n) (fits g hs n) h));
    of-kase = λ es a q. q;
    of-restr = λ d cs e a q n h. q n (&&-right (eqb d n) (fits e hs n) h);
    of-dep = λ f e a q n h.
        push-fits a.term f n (&&-left (eqb f.cols n) (fits e hs (length f.rows)) h)
        (q (length f.rows) (&&-right (eqb f.cols n) (fits e hs (length f.rows)) h));
    of-first = λ e es a q n h. q n (&&-left (fits e hs n) (all_fit es hs n) h);
    of-rest = λ e es a q n h. q n (&&-right (fits e hs n) (all_fit es hs n) h);
  }

  branches-fit : (n : ℕ) (bs : List Branch) → AllBranches (λ b. fits b.term hs n ≡ true) bs → all_fit (as_exprs n bs) hs n ≡ true
  unfolding fits
  branches-fit n [] h = refl
  branches-fit n (b ∷ bs) h = &&-true (&&-true (eq-eqb n n refl) h.0) (branches-fit n bs h.1)

  pub normal-fits : (n : ℕ) (e : Expr) → fits e hs n ≡ true → fits (body_case n (norm e (dimension hs))) hs n ≡ true
  unfolding fits
  normal-fits n e h =
      branches-fit n (norm e (dimension hs))
      (all_same (FitsToo e) (λ b. fits b.term hs n ≡ true) (λ b q. q n h) (norm e (dimension hs)) (norm-all (dimension hs) FitsToo AllFitToo fits-rules e))
