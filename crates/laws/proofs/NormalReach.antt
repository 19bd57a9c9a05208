-- A normal form keeps the limit of reach that its expression keeps: a row after a map reaches no further than the row reaches from the map's
-- own reach. With the sizes of sums and products in ℤ. Assumes nothing.
use mathlib.Core.Path.{◌≡◌, refl, sym}
use Prim.Native.Nat.{ℕ, zero, suc, ◌+◌, ◌*◌, ◌≤◌}
use native.Mathlib.Nat.{zero-add, zero-mul, mul-zero, mul-add, add-mul, mul_assoc, mul-one, le_refl, mul-le-mul_left, mul-le-mul_right}
use native.Mathlib.Omega.{arith}
use mathlib.Core.Bool.{Bool, true, false, ◌&&◌}
use mathlib.Core.List.{List, [], ◌∷◌, ◌++◌, map}
use lib.IntN.{ℤ, nat_abs, ◌*ℤ◌}
use lib.Dec.{leb}
use borrow.Author.Tests.{leb-true, le-leb}
use Rattle.alpha.specs.Sheet.{Row, Constraint, Map, Expr}
use Rattle.alpha.specs.Sheet.{Expr.var, Expr.int, Expr.boo, Expr.un, Expr.bin, Expr.ite, Expr.kase, Expr.restr, Expr.dep}
use Rattle.alpha.specs.Affine.{scale, add_all, zeroes, combine, row_after, constraint_after, wider, id_rows, identity}
use Rattle.alpha.specs.Reach.{limit, sizes, row_reach, map_reach, all_reach, reach, reach_all}
use Rattle.alpha.specs.Normal.{Branch, push, push_branch, norm, as_exprs, body_case}
use Rattle.laws.specs.Normal.{is_leaf, tree_form}
use Rattle.laws.proofs.Tests.{true-not-false, &&-left, &&-right, &&-true}
use Rattle.laws.proofs.Sizes.{nat_abs_mul, nat_abs-add}
use Rattle.laws.proofs.Branches.{AllBranches, all_same, joined, Rules, norm-all}
use Rattle.laws.proofs.NormalChecks.{HasForm, push-form}

-- ---- sizes

sizes-scale : (c : ℤ) (xs : List ℤ) → sizes (scale c xs) ≡ nat_abs c * sizes xs
sizes-scale c [] = omega (arith, mul-zero (nat_abs c))
sizes-scale c (x ∷ xs) = rw (nat_abs_mul c x, sizes-scale c xs) (sym (mul-add (nat_abs c) (nat_abs x) (sizes xs)))

sizes-add : (xs ys : List ℤ) → sizes (add_all xs ys) ≤ sizes xs + sizes ys
sizes-add [] ys = omega arith
sizes-add (x ∷ xs) [] = omega arith
sizes-add (x ∷ xs) (y ∷ ys) = omega (arith, nat_abs-add x y, sizes-add xs ys)

sizes-zeroes : (n : ℕ) → sizes (zeroes n) ≡ 0
sizes-zeroes zero = refl
sizes-zeroes (suc n) = omega (arith, sizes-zeroes n)

-- ---- a row after a map

-- one more row, c times: its sum s and constant k with reach at most m, and the rest's t and l
one_more : (c s k t l r m rest : ℕ) → s * r + k ≤ m → t * r + l ≤ rest * m → (c * s + t) * r + (c * k + l) ≤ (c + rest) * m
one_more c s k t l r m rest h g =
    omega (arith, add-mul (c * s) t r, mul_assoc c s r, mul-add c (s * r) k, mul-le-mul_left c h, add-mul c rest m)

combine-reach : (cs : List ℤ) (rs : List Row) (n r m : ℕ) → map_reach r rs ≤ m → row_reach r (combine cs rs n) ≤ sizes cs * m
combine-reach [] rs n r m h = rw (sizes-zeroes n) (omega (arith, zero-mul r))
combine-reach (c ∷ cs) [] n r m h = rw (sizes-zeroes n) (omega (arith, zero-mul r))
combine-reach (c ∷ cs) (w ∷ ws) n r m h =
    let rest = combine cs ws n in
    let first : row_reach r w ≤ m = omega arith in
    let others : row_reach r rest ≤ sizes cs * m = combine-reach cs ws n r m (omega arith) in
    let sum = one_more (nat_abs c) (sizes w.coefs) (nat_abs w.const) (sizes rest.coefs) (nat_abs rest.const) r m (sizes cs) first others in
    let wide = rw (sizes-scale c w.coefs) at (mul-le-mul_right r (sizes-add (scale c w.coefs) rest.coefs)) in
    let far = rw (nat_abs_mul c w.const) at (nat_abs-add (c *ℤ w.const) rest.const) in
    omega (arith, sum, wide, far)

pub row-reach : (f : Map) (w : Row) (r : ℕ) → row_reach r (row_after f w) ≤ row_reach (map_reach r f.rows) w
row-reach f w r =
    let c = combine w.coefs f.rows f.cols in
    omega (arith, combine-reach w.coefs f.rows f.cols r (map_reach r f.rows) (le_refl (map_reach r f.rows)), nat_abs-add c.const w.const)

pub map-reach : (f : Map) (rs : List Row) (r : ℕ) → map_reach r (map (row_after f) rs) ≤ map_reach (map_reach r f.rows) rs
map-reach f [] r = omega arith
map-reach f (w ∷ rs) r = omega (arith, row-reach f w r, map-reach f rs r)

pub map_reach-pos : (r : ℕ) (rs : List Row) → 1 ≤ map_reach r rs
map_reach-pos r [] = omega arith
map_reach-pos r (w ∷ rs) = omega (arith, map_reach-pos r rs)

constraints-reach : (f : Map) (cs : List Constraint) (r : ℕ) → all_reach (map_reach r f.rows) cs ≡ true → all_reach r (map (constraint_after f) cs) ≡ true
constraints-reach f [] r h = refl
constraints-reach f (c ∷ cs) r h =
    let m = map_reach r f.rows in
    let k = leb-true (row_reach m c.row) limit (&&-left (leb (row_reach m c.row) limit) (all_reach m cs) h) in
    &&-true (le-leb (row_reach r (row_after f c.row)) limit (omega (arith, row-reach f c.row r)))
    (constraints-reach f cs r (&&-right (leb (row_reach m c.row) limit) (all_reach m cs) h))

-- ---- the identity

wider-reach : (r : ℕ) (rs : List Row) → map_reach r (map wider rs) ≡ map_reach r rs
wider-reach r [] = refl
wider-reach r (w ∷ rs) = rw (zero-add (sizes w.coefs), wider-reach r rs)

pub identity-reach : (r n : ℕ) → 1 ≤ r → map_reach r (id_rows n) ≤ r
identity-reach r zero h = h
identity-reach r (suc n) h = rw (wider-reach r (id_rows n), sizes-zeroes n) (omega (arith, identity-reach r n h))

-- ---- expressions

all_reach-append : (r : ℕ) (xs ys : List Constraint) → all_reach r xs ≡ true → all_reach r ys ≡ true → all_reach r (xs ++ ys) ≡ true
all_reach-append r [] ys h k = k
all_reach-append r (x ∷ xs) ys h k =
    &&-true (&&-left (leb (row_reach r x.row) limit) (all_reach r xs) h) (all_reach-append r xs ys (&&-right (leb (row_reach r x.row) limit) (all_reach r xs) h) k)

leaf-reach : (e : Expr) (r : ℕ) → is_leaf e ≡ true → reach e r ≡ true
unfolding reach
leaf-reach (var v) r h = refl
leaf-reach (int c) r h = refl
leaf-reach (boo b) r h = refl
leaf-reach (un o a) r h = true-not-false {b = false} h refl
leaf-reach (bin o a b) r h = true-not-false {b = false} h refl
leaf-reach (ite a b c) r h = true-not-false {b = false} h refl
leaf-reach (kase es) r h = true-not-false {b = false} h refl
leaf-reach (restr d cs a) r h = true-not-false {b = false} h refl
leaf-reach (dep f a) r h = true-not-false {b = false} h refl

module _ (f : Map) (r : ℕ) (low : map_reach r f.rows ≤ limit) where
  push-reach : (e : Expr) → tree_form e ≡ true → reach e (map_reach r f.rows) ≡ true → reach (push e f) r ≡ true
  unfolding tree_form push reach
  push-reach (var v) t h = true-not-false {b = false} t refl
  push-reach (int c) t h = true-not-false {b = false} t refl
  push-reach (boo b) t h = true-not-false {b = false} t refl
  push-reach (un o a) t h = push-reach a t h
  push-reach (bin o a b) t h =
      let m = map_reach r f.rows in
      &&-true (push-reach a (&&-left (tree_form a) (tree_form b) t) (&&-left (reach a m) (reach b m) h))
      (push-reach b (&&-right (tree_form a) (tree_form b) t) (&&-right (reach a m) (reach b m) h))
  push-reach (ite a b c) t h =
      let m = map_reach r f.rows in
      let k = &&-left (reach a m && reach b m) (reach c m) h in
      let u = &&-left (tree_form a && tree_form b) (tree_form c) t in
      &&-true
      (&&-true (push-reach a (&&-left (tree_form a) (tree_form b) u) (&&-left (reach a m) (reach b m) k))
      (push-reach b (&&-right (tree_form a) (tree_form b) u) (&&-right (reach a m) (reach b m) k)))
      (push-reach c (&&-right (tree_form a && tree_form b) (tree_form c) t) (&&-right (reach a m && reach b m) (reach c m) h))
  push-reach (kase es) t h = true-not-false {b = false} t refl
  push-reach (restr d cs a) t h = true-not-false {b = false} t refl
  push-reach (dep g a) t h =
      let m = map_reach r f.rows in
      let k = leb-true (map_reach m g.rows) limit (&&-left (leb (map_reach m g.rows) limit) (reach a (map_reach m g.rows)) h) in
      &&-true (le-leb (map_reach r (map (row_after f) g.rows)) limit (omega (arith, map-reach f g.rows r)))
      (leaf-reach a (map_reach r (map (row_after f) g.rows)) t)

-- a branch keeps the limit wherever the expression does
pub record Reaches (b : Branch) (r : ℕ) : Type 0 where
  pub given-reach : all_reach r b.given ≡ true
  pub term-reach : reach b.term r ≡ true

pub record ReachesToo (test : ℕ → Bool) (b : Branch) : Type 0 where
  pub form : HasForm b
  pub keeps : (r : ℕ) → 1 ≤ r → r ≤ limit → test r ≡ true → Reaches b r

leaf-reaches : (n : ℕ) (e : Expr) (test : ℕ → Bool) → is_leaf e ≡ true → ReachesToo test (record { given = []; term = dep (identity n) e })
unfolding tree_form reach
leaf-reaches n e test l = record {
  form = l;
  keeps = λ r low high h. record {
    given-reach = refl;
    term-reach = &&-true (le-leb (map_reach r (id_rows n)) limit (omega (arith, identity-reach r n low))) (leaf-reach e (map_reach r (id_rows n)) l);
  };
}

both-reach : (x y : Branch) (r : ℕ) (k : Expr → Expr → Expr) → Reaches x r → Reaches y r → reach (k x.term y.term) r ≡ true → Reaches (joined k x y) r
both-reach x y r k h g t = record { given-reach = all_reach-append r x.given y.given h.given-reach g.given-reach; term-reach = t }

dep-reaches : (f : Map) (e : Expr) (b : Branch) → ReachesToo (reach e) b → ReachesToo (reach (dep f e)) (push_branch f b)
unfolding reach
dep-reaches f e b q = record {
  form = push-form b.term f q.form;
  keeps = λ r low high h.
      let m = map_reach r f.rows in
      let l = leb-true m limit (&&-left (leb m limit) (reach e m) h) in
      let k = q.keeps m (map_reach-pos r f.rows) l (&&-right (leb m limit) (reach e m) h) in
      record { given-reach = constraints-reach f b.given r k.given-reach; term-reach = push-reach f r l b.term q.form k.term-reach };
}

pub reach-rules : (dims : ℕ → ℕ) → Rules dims (λ e b. ReachesToo (reach e) b) (λ es b. ReachesToo (reach_all es) b)
unfolding tree_form reach
reach-rules dims = record {
  of-var = λ v. leaf-reaches (dims v) (var v) (reach (var v)) refl;
  of-int = λ c. leaf-reaches 0 (int c) (reach (int c)) refl;
  of-boo = λ b. leaf-reaches 0 (boo b) (reach (boo b)) refl;
  of-un = λ o e a q. record {
    form = q.form;
    keeps = λ r l u h. record { given-reach = (q.keeps r l u h).given-reach; term-reach = (q.keeps r l u h).term-reach };
  };
  of-bin = λ o e f a b q p. record {
    form = &&-true q.form p.form;
    keeps = λ r l u h.
        let x = q.keeps r l u (&&-left (reach e r) (reach f r) h) in
        let y = p.keeps r l u (&&-right (reach e r) (reach f r) h) in
        both-reach a b r (bin o) x y (&&-true x.term-reach y.term-reach);
  };
  of-ite = λ e f g a b c q p o. record {
    form = &&-true (&&-true q.form p.form) o.form;
    keeps = λ r l u h.
        let k = &&-left (reach e r && reach f r) (reach g r) h in
        let x = q.keeps r l u (&&-left (reach e r) (reach f r) k) in
        let y = p.keeps r l u (&&-right (reach e r) (reach f r) k) in
        let w = o.keeps r l u (&&-right (reach e r && reach f r) (reach g r) h) in
        record {
          given-reach = all_reach-append r a.given (b.given ++ c.given) x.given-reach (all_reach-append r b.given c.given y.given-reach w.given-reach);
          term-reach = &&-true (&&-true x.term-reach y.term-reach) w.term-reach;
        };
  };
  of-kase = λ es a q. record { form = q.form; keeps = q.keeps };
  of-restr = λ d cs e a q. record {
    form = q.form;
    keeps = λ r l u h.
        let x = q.keeps r l u (&&-right (all_reach r cs) (reach e r) h) in
        record { given-reach = all_reach-append r cs a.given (&&-left (all_reach r cs) (reach e r) h) x.given-reach; term-reach = x.term-reach };
  };
  of-dep = λ f e a q. dep-reaches f e a q;
  of-first = λ e es a q. record { form = q.form; keeps = λ r l u h. q.keeps r l u (&&-left (reach e r) (reach_all es r) h) };
  of-rest = λ e es a q. record { form = q.form; keeps = λ r l u h. q.keeps r l u (&&-right (reach e r) (reach_all es r) h) };
}

branches-reach : (n r : ℕ) (bs : List Branch) → AllBranches (λ b. Reaches b r) bs → reach_all (as_exprs n bs) r ≡ true
unfolding reach
branches-reach n r [] h = refl
branches-reach n r (b ∷ bs) h = &&-true (&&-true h.0.given-reach h.0.term-reach) (branches-reach n r bs h.1)

pub normal-reach : (n : ℕ) (e : Expr) (dims : ℕ → ℕ) (r : ℕ) → 1 ≤ r → r ≤ limit → reach e r ≡ true → reach (body_case n (norm e dims)) r ≡ true
unfolding reach
normal-reach n e dims r l u h =
    branches-reach n r (norm e dims)
    (all_same (λ b. ReachesToo (reach e) b) (λ b. Reaches b r) (λ b q. q.keeps r l u h) (norm e dims)
    (norm-all dims (λ x b. ReachesToo (reach x) b) (λ es b. ReachesToo (reach_all es) b) (reach-rules dims) e))

-- ---- numbers within the limit are free numbers

pub row_small : (r : ℕ) (w : Row) → 1 ≤ r → row_reach r w ≤ limit → (sizes w.coefs ≤ limit) × (nat_abs w.const ≤ limit)
row_small r w l h = (omega (arith, mul-le-mul_left (sizes w.coefs) l, mul-one (sizes w.coefs)), omega arith)
