-- The normal form of a normal form is itself. Assumes only that the expression fits its dimension and its rows are as wide as they should be.
use mathlib.Core.Path.{◌≡◌, refl, sym, ap, ◌∙◌, subst}
use Prim.Native.Nat.{ℕ, zero, suc}
use native.Mathlib.Omega.{arith}
use mathlib.Core.Bool.{true, false, ◌&&◌}
use mathlib.Core.List.{List, [], ◌∷◌, ◌++◌, map, append-nil}
use lib.ListN.{length}
use lib.IntN.{ℤ, pos, ◌+ℤ◌, +ℤ_idl, +ℤ_idr, zero-*ℤ}
use lib.Dec.{eqb}
use borrow.Author.Tests.{eqb-true}
use Rattle.alpha.specs.Sheet.{Row, Constraint, Map, Head, Expr, Exprs}
use Rattle.alpha.specs.Sheet.{Expr.var, Expr.int, Expr.boo, Expr.un, Expr.bin, Expr.ite, Expr.kase, Expr.restr, Expr.dep}
use Rattle.alpha.specs.Affine.{scale, add_all, zeroes, combine, row_after, constraint_after, map_after, wider, id_rows, identity}
use Rattle.alpha.specs.Read.{dimension}
use Rattle.alpha.specs.Shape.{fits, all_fit}
use Rattle.alpha.specs.Normal.{Branch, push, norm, norms, as_exprs, body_case}
use Rattle.laws.specs.Normal.{is_leaf, tree_form}
use Rattle.laws.specs.Wide.{RowsWide, ConstraintsWide, Wide, AllWide}
use Rattle.laws.proofs.Tests.{true-not-false, &&-left, &&-right}
use Rattle.laws.proofs.Ring.{one-*ℤ}
use Rattle.laws.proofs.Branches.{AllBranches, Rules, norm-all}
use Rattle.laws.proofs.NormalChecks.{HasForm, form-rules, fits-rules, FitsToo, AllFitToo}

-- ---- rows combined

pub length-zeroes : (n : ℕ) → length (zeroes n) ≡ n
length-zeroes zero = refl
length-zeroes (suc n) = ap suc (length-zeroes n)

pub length-scale : (c : ℤ) (xs : List ℤ) → length (scale c xs) ≡ length xs
length-scale c [] = refl
length-scale c (x ∷ xs) = ap suc (length-scale c xs)

length-add_all : (xs ys : List ℤ) → length xs ≡ length ys → length (add_all xs ys) ≡ length ys
length-add_all [] ys h = refl
length-add_all (x ∷ xs) [] h = h
length-add_all (x ∷ xs) (y ∷ ys) h = ap suc (length-add_all xs ys (omega arith))

pub combine-wide : (cs : List ℤ) (rs : List Row) (n : ℕ) → RowsWide n rs → length (combine cs rs n).coefs ≡ n
combine-wide [] rs n h = length-zeroes n
combine-wide (c ∷ cs) [] n h = length-zeroes n
combine-wide (c ∷ cs) (r ∷ rs) n h =
    let k = combine-wide cs rs n h.1 in
    length-add_all (scale c r.coefs) (combine cs rs n).coefs (length-scale c r.coefs ∙ h.0 ∙ sym k) ∙ k

pub rows-after-wide : (f : Map) (ws : List Row) → RowsWide f.cols f.rows → RowsWide f.cols (map (row_after f) ws)
rows-after-wide f [] h = tt
rows-after-wide f (w ∷ ws) h = (combine-wide w.coefs f.rows f.cols h, rows-after-wide f ws h)

pub constraints-after-wide : (f : Map) (cs : List Constraint) → RowsWide f.cols f.rows → ConstraintsWide f.cols (map (constraint_after f) cs)
constraints-after-wide f [] h = tt
constraints-after-wide f (c ∷ cs) h = (combine-wide c.row.coefs f.rows f.cols h, constraints-after-wide f cs h)

-- ---- the identity after a map is the map

scale-zero : (xs : List ℤ) → scale (pos 0) xs ≡ zeroes (length xs)
scale-zero [] = refl
scale-zero (x ∷ xs) = rw (zero-*ℤ x, scale-zero xs)

scale_one : (xs : List ℤ) → scale (pos 1) xs ≡ xs
scale_one [] = refl
scale_one (x ∷ xs) = rw (one-*ℤ x, scale_one xs)

pub add-zeroes-left : (ys : List ℤ) → add_all (zeroes (length ys)) ys ≡ ys
add-zeroes-left [] = refl
add-zeroes-left (y ∷ ys) = rw (+ℤ_idl y, add-zeroes-left ys)

add-zeroes-right : (xs : List ℤ) → add_all xs (zeroes (length xs)) ≡ xs
add-zeroes-right [] = refl
add-zeroes-right (x ∷ xs) = rw (+ℤ_idr x, add-zeroes-right xs)

module _ (n : ℕ) where
  -- a map of n columns
  abbrev of_rows : List Row → Map
  of_rows rs = record { cols = n; rows = rs }

  row_is : (v w : Row) → v.coefs ≡ w.coefs → v.const ≡ w.const → v ≡ w
  row_is v w p q = λ i. record { coefs = p i; const = q i }

  -- no times the first row
  skip-row : (cs : List ℤ) (r : Row) (rs : List Row) → RowsWide n (r ∷ rs) → combine (pos 0 ∷ cs) (r ∷ rs) n ≡ combine cs rs n
  skip-row cs r rs h =
      let rest = combine cs rs n in
      let long : length r.coefs ≡ length rest.coefs = h.0 ∙ sym (combine-wide cs rs n h.1) in
      row_is (combine (pos 0 ∷ cs) (r ∷ rs) n) rest
      (rw (scale-zero r.coefs, long) (add-zeroes-left rest.coefs))
      (rw (zero-*ℤ r.const) (+ℤ_idl rest.const))

  pub no_rows : (k : ℕ) (rs : List Row) → RowsWide n rs → combine (zeroes k) rs n ≡ record { coefs = zeroes n; const = pos 0 }
  no_rows zero rs h = refl
  no_rows (suc k) [] h = refl
  no_rows (suc k) (r ∷ rs) h = skip-row (zeroes k) r rs h ∙ no_rows k rs h.1

  -- once the first row
  first-row : (k : ℕ) (r : Row) (rs : List Row) → RowsWide n (r ∷ rs) → row_after (of_rows (r ∷ rs)) (record { coefs = pos 1 ∷ zeroes k; const = pos 0 }) ≡ r
  first-row k r rs h =
      let e = no_rows k rs h.1 in
      let wide : zeroes n ≡ zeroes (length r.coefs) = ap zeroes (sym h.0) in
      row_is (row_after (of_rows (r ∷ rs)) (record { coefs = pos 1 ∷ zeroes k; const = pos 0 })) r
      (rw (e, wide, scale_one r.coefs) (add-zeroes-right r.coefs))
      (rw (e, one-*ℤ r.const) (+ℤ_idr (r.const +ℤ pos 0) ∙ +ℤ_idr r.const))

  wider-row : (r : Row) (rs : List Row) (w : Row) → RowsWide n (r ∷ rs) → row_after (of_rows (r ∷ rs)) (wider w) ≡ row_after (of_rows rs) w
  wider-row r rs w h = ap {B = Row} (λ c. record { coefs = c.coefs; const = c.const +ℤ w.const }) (skip-row w.coefs r rs h)

  wider-after : (r : Row) (rs ws : List Row) → RowsWide n (r ∷ rs) → map (row_after (of_rows (r ∷ rs))) (map wider ws) ≡ map (row_after (of_rows rs)) ws
  wider-after r rs [] h = refl
  wider-after r rs (w ∷ ws) h =
      ap {B = List Row} (λ v. v ∷ map (row_after (of_rows (r ∷ rs))) (map wider ws)) (wider-row r rs w h)
      ∙ ap {B = List Row} (λ l. row_after (of_rows rs) w ∷ l) (wider-after r rs ws h)

  pub identity-after : (rs : List Row) → RowsWide n rs → map (row_after (of_rows rs)) (id_rows (length rs)) ≡ rs
  identity-after [] h = refl
  identity-after (r ∷ rs) h =
      ap {B = List Row} (λ v. v ∷ map (row_after (of_rows (r ∷ rs))) (map wider (id_rows (length rs)))) (first-row (length rs) r rs h)
      ∙ ap {B = List Row} (λ l. r ∷ l) (wider-after r rs (id_rows (length rs)) h ∙ identity-after rs h.1)

-- ---- widths in a normal form

push-wide : (e : Expr) (f : Map) → RowsWide f.cols f.rows → Wide e → Wide (push e f)
unfolding Wide push
push-wide (var v) f w h = (w, tt)
push-wide (int c) f w h = (w, tt)
push-wide (boo b) f w h = (w, tt)
push-wide (un o a) f w h = push-wide a f w h
push-wide (bin o a b) f w h = (push-wide a f w h.0, push-wide b f w h.1)
push-wide (ite a b c) f w h = (push-wide a f w h.0, push-wide b f w h.1, push-wide c f w h.2)
push-wide (kase es) f w h = (w, h)
push-wide (restr d cs a) f w h = (w, h)
push-wide (dep g a) f w h = (rows-after-wide f g.rows w, h.1)

append-wide : (n : ℕ) (xs ys : List Constraint) → ConstraintsWide n xs → ConstraintsWide n ys → ConstraintsWide n (xs ++ ys)
append-wide n [] ys h k = k
append-wide n (x ∷ xs) ys h k = (h.0, append-wide n xs ys h.1 k)

pub id_rows-wide : (n : ℕ) → RowsWide n (id_rows n)
id_rows-wide zero = tt
id_rows-wide (suc n) = (ap suc (length-zeroes n), go (id_rows n) (id_rows-wide n))
  where
    go : (rs : List Row) → RowsWide n rs → RowsWide (suc n) (map wider rs)
    go [] h = tt
    go (r ∷ rs) h = (ap suc h.0, go rs h.1)

-- a branch where n dimensions are wanted: its constraints have that width, and its tree's rows theirs
pub record BranchWide (n : ℕ) (b : Branch) : Type 0 where
  pub given-wide : ConstraintsWide n b.given
  pub term-wide : Wide b.term

module _ (hs : List Head) where
  abbrev pub WideToo : Expr → Branch → Type 0
  WideToo e b = Wide e → (n : ℕ) → fits e hs n ≡ true → BranchWide n b

  abbrev pub AllWideToo : Exprs → Branch → Type 0
  AllWideToo es b = AllWide es → (n : ℕ) → all_fit es hs n ≡ true → BranchWide n b

  pub wide-rules : Rules (dimension hs) WideToo AllWideToo
  unfolding fits Wide
  wide-rules = record {
    of-var = λ v w n h. record { given-wide = tt; term-wide = (id_rows-wide (dimension hs v), tt) };
    of-int = λ c w n h. record { given-wide = tt; term-wide = (tt, tt) };
    of-boo = λ b w n h. record { given-wide = tt; term-wide = (tt, tt) };
    of-un = λ o e a q w n h. record { given-wide = (q w n h).given-wide; term-wide = (q w n h).term-wide };
    of-bin = λ o e f a b q p w n h.
        let x = q w.0 n (&&-left (fits e hs n) (fits f hs n) h) in
        let y = p w.1 n (&&-right (fits e hs n) (fits f hs n) h) in
        record { given-wide = append-wide n a.given b.given x.given-wide y.given-wide; term-wide = (x.term-wide, y.term-wide) };
    of-ite = λ e f g a b c q p o w n h.
        let k = &&-left (fits e hs n && fits f hs n) (fits g hs n) h in
        let x = q w.0 n (&&-left (fits e hs n) (fits f hs n) k) in
        let y = p w.1 n (&&-right (fits e hs n) (fits f hs n) k) in
        let z = o w.2 n (&&-right (fits e hs n && fits f hs n) (fits g hs n) h) in
        record {
          given-wide = append-wide n a.given (b.given ++ c.given) x.given-wide (append-wide n b.given c.given y.given-wide z.given-wide);
          term-wide = (x.term-wide, y.term-wide, z.term-wide);
        };
    of-kase = λ es a q. q;
    of-restr = λ d cs e a q w n h.
        let x = q w.1 n (&&-right (eqb d n) (fits e hs n) h) in
        let same : d ≡ n = eqb-true d n (&&-left (eqb d n) (fits e hs n) h) in
        record { given-wide = append-wide n cs a.given (rw same at w.0) x.given-wide; term-wide = x.term-wide };
    of-dep = λ f e a q w n h.
        let x = q w.1 (length f.rows) (&&-right (eqb f.cols n) (fits e hs (length f.rows)) h) in
        let same : f.cols ≡ n = eqb-true f.cols n (&&-left (eqb f.cols n) (fits e hs (length f.rows)) h) in
        let given = subst (λ m. ConstraintsWide m (map (constraint_after f) a.given)) same (constraints-after-wide f a.given w.0) in
        record { given-wide = given; term-wide = push-wide a.term f w.0 x.term-wide };
    of-first = λ e es a q w n h. q w.0 n (&&-left (fits e hs n) (all_fit es hs n) h);
    of-rest = λ e es a q w n h. q w.1 n (&&-right (fits e hs n) (all_fit es hs n) h);
  }

-- ---- again

pub map-again : (f : Map) (k : ℕ) → k ≡ length f.rows → RowsWide f.cols f.rows → map_after f (identity k) ≡ f
map-again f k e w =
    ap {B = Map} (λ rs. record { cols = f.cols; rows = rs }) (ap (λ m. map (row_after f) (id_rows m)) e ∙ identity-after f.cols f.rows w)

-- one branch of no constraints
abbrev alone : Expr → List Branch
alone e = record { given = []; term = e } ∷ []

module _ (hs : List Head) where
  leaf-again : (f : Map) (a : Expr) → is_leaf a ≡ true → fits a hs (length f.rows) ≡ true → RowsWide f.cols f.rows →
      norm (dep f a) (dimension hs) ≡ alone (dep f a)
  unfolding norm push fits
  leaf-again f (var v) l h w =
      ap (λ g. alone (dep g (var v))) (map-again f (dimension hs v) (eqb-true (dimension hs v) (length f.rows) h) w)
  leaf-again f (int c) l h w = ap (λ g. alone (dep g (int c))) (map-again f 0 (eqb-true 0 (length f.rows) h) w)
  leaf-again f (boo b) l h w = ap (λ g. alone (dep g (boo b))) (map-again f 0 (eqb-true 0 (length f.rows) h) w)
  leaf-again f (un o a) l h w = true-not-false {b = false} l refl
  leaf-again f (bin o a b) l h w = true-not-false {b = false} l refl
  leaf-again f (ite a b c) l h w = true-not-false {b = false} l refl
  leaf-again f (kase es) l h w = true-not-false {b = false} l refl
  leaf-again f (restr d cs a) l h w = true-not-false {b = false} l refl
  leaf-again f (dep g a) l h w = true-not-false {b = false} l refl

  tree_again : (e : Expr) (n : ℕ) → tree_form e ≡ true → fits e hs n ≡ true → Wide e → norm e (dimension hs) ≡ alone e
  unfolding norm tree_form fits Wide
  tree_again (var v) n t h w = true-not-false {b = false} t refl
  tree_again (int c) n t h w = true-not-false {b = false} t refl
  tree_again (boo b) n t h w = true-not-false {b = false} t refl
  tree_again (un o a) n t h w = rw (tree_again a n t h w)
  tree_again (bin o a b) n t h w =
      rw (
        tree_again a n (&&-left (tree_form a) (tree_form b) t) (&&-left (fits a hs n) (fits b hs n) h) w.0,
        tree_again b n (&&-right (tree_form a) (tree_form b) t) (&&-right (fits a hs n) (fits b hs n) h) w.1,
      )
  tree_again (ite a b c) n t h w =
      let u = &&-left (tree_form a && tree_form b) (tree_form c) t in
      let k = &&-left (fits a hs n && fits b hs n) (fits c hs n) h in
      rw (
        tree_again a n (&&-left (tree_form a) (tree_form b) u) (&&-left (fits a hs n) (fits b hs n) k) w.0,
        tree_again b n (&&-right (tree_form a) (tree_form b) u) (&&-right (fits a hs n) (fits b hs n) k) w.1,
        tree_again c n (&&-right (tree_form a && tree_form b) (tree_form c) t) (&&-right (fits a hs n && fits b hs n) (fits c hs n) h) w.2,
      )
  tree_again (kase es) n t h w = true-not-false {b = false} t refl
  tree_again (restr d cs a) n t h w = true-not-false {b = false} t refl
  tree_again (dep f a) n t h w = leaf-again f a t (&&-right (eqb f.cols n) (fits a hs (length f.rows)) h) w.0

  -- a branch that is its own normal form
  abbrev IsAgain : Branch → Type 0
  IsAgain b = norm b.term (dimension hs) ≡ alone b.term

  branches-again : (n : ℕ) (bs : List Branch) → AllBranches IsAgain bs → norms (as_exprs n bs) (dimension hs) ≡ bs
  unfolding norm
  branches-again n [] h = refl
  branches-again n (b ∷ bs) h =
      rw (h.0, branches-again n bs h.1) (ap (λ g. record { given = g; term = b.term } ∷ bs) (append-nil b.given))

  pub normal-again : (n : ℕ) (e : Expr) → Wide e → fits e hs n ≡ true → norm (body_case n (norm e (dimension hs))) (dimension hs) ≡ norm e (dimension hs)
  unfolding norm
  normal-again n e w h = branches-again n bs (again bs forms fitting widths)
    where
      bs : List Branch
      bs = norm e (dimension hs)

      forms : AllBranches HasForm bs
      forms = norm-all (dimension hs) (λ _ b. HasForm b) (λ _ b. HasForm b) (form-rules (dimension hs)) e

      fitting : AllBranches (FitsToo hs e) bs
      fitting = norm-all (dimension hs) (FitsToo hs) (AllFitToo hs) (fits-rules hs) e

      widths : AllBranches (WideToo hs e) bs
      widths = norm-all (dimension hs) (WideToo hs) (AllWideToo hs) (wide-rules hs) e

      again : (cs : List Branch) → AllBranches HasForm cs → AllBranches (FitsToo hs e) cs → AllBranches (WideToo hs e) cs → AllBranches IsAgain cs
      again [] f g k = tt
      again (c ∷ cs) f g k = (tree_again c.term n f.0 (g.0 n h) (k.0 w n h).term-wide, again cs f.1 g.1 k.1)
