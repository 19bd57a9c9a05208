-- Composition from the top down is composition from the leaves up: a row after two maps is the row after the one, after the other; and the
-- identity first changes nothing. So for maps, constraints and trees. Assumes only that rows are as wide as they should be.
use Prim.Native.Nat.{ℕ, zero, suc}
use mathlib.Core.Path.{◌≡◌, refl, sym, ap, ◌∙◌}
use mathlib.Core.Bool.{true, false, ◌&&◌}
use mathlib.Core.List.{List, [], ◌∷◌, map}
use native.Mathlib.Omega.{arith}
use lib.ListN.{length}
use lib.IntN.{ℤ, pos, ◌+ℤ◌, ◌*ℤ◌, +ℤ_idl, +ℤ_idr, +ℤ_comm, +ℤ_assoc, *ℤ-zero, *ℤ_comm}
use lib.Dec.{eqb}
use borrow.Author.Tests.{eqb-true}
use Rattle.alpha.specs.Sheet.{Head, Row, Constraint, Map, Expr}
use Rattle.alpha.specs.Sheet.{Expr.var, Expr.int, Expr.boo, Expr.un, Expr.bin, Expr.ite, Expr.kase, Expr.restr, Expr.dep}
use Rattle.alpha.specs.Affine.{scale, add_all, zeroes, combine, row_after, constraint_after, map_after, wider, id_rows, identity}
use Rattle.alpha.specs.Shape.{fits}
use Rattle.alpha.specs.Normal.{Branch, push, push_branch}
use Rattle.laws.specs.Normal.{tree_form}
use Rattle.laws.specs.Wide.{RowsWide, ConstraintsWide, Wide}
use Rattle.laws.proofs.Tests.{true-not-false, &&-left, &&-right}
use Rattle.laws.proofs.Ring.{+ℤ-middle, *ℤ-distr, *ℤ-distl, *ℤ-assoc, one-*ℤ}
use Rattle.laws.proofs.NormalAgain.{length-zeroes, length-scale, add-zeroes-left, combine-wide, no_rows}
use Rattle.affine.proofs.Meaning.{row_same, map_same}

-- ---- sums and multiples of coefficients

add_assoc : (xs ys zs : List ℤ) → add_all (add_all xs ys) zs ≡ add_all xs (add_all ys zs)
add_assoc [] ys zs = refl
add_assoc (x ∷ xs) [] zs = refl
add_assoc (x ∷ xs) (y ∷ ys) [] = refl
add_assoc (x ∷ xs) (y ∷ ys) (z ∷ zs) = rw (+ℤ_assoc x y z, add_assoc xs ys zs)

add_comm : (xs ys : List ℤ) → add_all xs ys ≡ add_all ys xs
add_comm [] [] = refl
add_comm [] (y ∷ ys) = refl
add_comm (x ∷ xs) [] = refl
add_comm (x ∷ xs) (y ∷ ys) = rw (+ℤ_comm x y, add_comm xs ys)

add-middle : (a b c d : List ℤ) → add_all (add_all a b) (add_all c d) ≡ add_all (add_all a c) (add_all b d)
add-middle a b c d =
    add_assoc a b (add_all c d)
    ∙ ap (add_all a) (sym (add_assoc b c d) ∙ ap (λ x. add_all x d) (add_comm b c) ∙ add_assoc c b d)
    ∙ sym (add_assoc a c (add_all b d))

scale-sum : (x y : ℤ) (l : List ℤ) → scale (x +ℤ y) l ≡ add_all (scale x l) (scale y l)
scale-sum x y [] = refl
scale-sum x y (a ∷ l) = rw (*ℤ-distr x y a, scale-sum x y l)

scale-add : (c : ℤ) (xs ys : List ℤ) → scale c (add_all xs ys) ≡ add_all (scale c xs) (scale c ys)
scale-add c [] ys = refl
scale-add c (x ∷ xs) [] = refl
scale-add c (x ∷ xs) (y ∷ ys) = rw (*ℤ-distl c x y, scale-add c xs ys)

scale-scale : (c x : ℤ) (l : List ℤ) → scale (c *ℤ x) l ≡ scale c (scale x l)
scale-scale c x [] = refl
scale-scale c x (a ∷ l) = rw (*ℤ-assoc c x a, scale-scale c x l)

scale-zeroes : (c : ℤ) (n : ℕ) → scale c (zeroes n) ≡ zeroes n
scale-zeroes c zero = refl
scale-zeroes c (suc n) = rw (*ℤ-zero c, scale-zeroes c n)

add-zeroes : (n : ℕ) (ys : List ℤ) → length ys ≡ n → add_all (zeroes n) ys ≡ ys
add-zeroes n ys e = ap (λ k. add_all (zeroes k) ys) (sym e) ∙ add-zeroes-left ys

-- ---- of rows

abbrev nought : ℕ → Row
nought n = record { coefs = zeroes n; const = pos 0 }

abbrev plus : Row → Row → Row
plus u v = record { coefs = add_all u.coefs v.coefs; const = u.const +ℤ v.const }

abbrev times : ℤ → Row → Row
times c u = record { coefs = scale c u.coefs; const = c *ℤ u.const }

plus-nought : (n : ℕ) → plus (nought n) (nought n) ≡ nought n
plus-nought n = row_same (add-zeroes n (zeroes n) (length-zeroes n)) refl

times-nought : (c : ℤ) (n : ℕ) → times c (nought n) ≡ nought n
times-nought c n = row_same (scale-zeroes c n) (*ℤ-zero c)

combine-add : (xs ys : List ℤ) (rs : List Row) (n : ℕ) → length xs ≡ length ys →
    combine (add_all xs ys) rs n ≡ plus (combine xs rs n) (combine ys rs n)
combine-add [] [] rs n e = sym (plus-nought n)
combine-add [] (y ∷ ys) rs n e = absurd (omega arith)
combine-add (x ∷ xs) [] rs n e = absurd (omega arith)
combine-add (x ∷ xs) (y ∷ ys) [] n e = sym (plus-nought n)
combine-add (x ∷ xs) (y ∷ ys) (r ∷ rs) n e =
    let u = combine xs rs n in
    let v = combine ys rs n in
    let rest = combine-add xs ys rs n (omega arith) in
    row_same
    (ap (λ w. add_all (scale (x +ℤ y) r.coefs) w.coefs) rest ∙ ap (λ l. add_all l (add_all u.coefs v.coefs)) (scale-sum x y r.coefs)
    ∙ add-middle (scale x r.coefs) (scale y r.coefs) u.coefs v.coefs)
    (ap (λ w. (x +ℤ y) *ℤ r.const +ℤ w.const) rest ∙ ap (λ k. k +ℤ (u.const +ℤ v.const)) (*ℤ-distr x y r.const)
    ∙ +ℤ-middle (x *ℤ r.const) (y *ℤ r.const) u.const v.const)

combine-scale : (c : ℤ) (xs : List ℤ) (rs : List Row) (n : ℕ) → combine (scale c xs) rs n ≡ times c (combine xs rs n)
combine-scale c [] rs n = sym (times-nought c n)
combine-scale c (x ∷ xs) [] n = sym (times-nought c n)
combine-scale c (x ∷ xs) (r ∷ rs) n =
    let u = combine xs rs n in
    let rest = combine-scale c xs rs n in
    row_same
    (ap (λ w. add_all (scale (c *ℤ x) r.coefs) w.coefs) rest ∙ ap (λ l. add_all l (scale c u.coefs)) (scale-scale c x r.coefs)
    ∙ sym (scale-add c (scale x r.coefs) u.coefs))
    (ap (λ w. c *ℤ x *ℤ r.const +ℤ w.const) rest ∙ ap (λ k. k +ℤ c *ℤ u.const) (*ℤ-assoc c x r.const)
    ∙ sym (*ℤ-distl c (x *ℤ r.const) u.const))

-- ---- after two maps

module _ (m : Map) (wide : RowsWide m.cols m.rows) where
  none_after : (k : ℕ) → row_after m (nought k) ≡ nought m.cols
  none_after k = ap {B = Row} (λ c. record { coefs = c.coefs; const = c.const +ℤ pos 0 }) (no_rows m.cols k m.rows wide)

  -- the rows gs of k coefficients, each after m
  combine-twice : (ws : List ℤ) (gs : List Row) (k : ℕ) → RowsWide k gs → combine ws (map (row_after m) gs) m.cols ≡ row_after m (combine ws gs k)
  combine-twice [] gs k h = sym (none_after k)
  combine-twice (w ∷ ws) [] k h = sym (none_after k)
  combine-twice (w ∷ ws) (g ∷ gs) k h =
      let c = combine ws gs k in
      let u = combine g.coefs m.rows m.cols in
      let v = combine c.coefs m.rows m.cols in
      let rest = combine-twice ws gs k h.1 in
      let long : length (scale w g.coefs) ≡ length c.coefs = length-scale w g.coefs ∙ h.0 ∙ sym (combine-wide ws gs k h.1) in
      let both =
      combine-add (scale w g.coefs) c.coefs m.rows m.cols long
      ∙ ap (λ x. plus x v) (combine-scale w g.coefs m.rows m.cols) in
      row_same
      (ap (λ r. add_all (scale w u.coefs) r.coefs) rest ∙ ap (λ r. r.coefs) (sym both))
      (ap (λ r. w *ℤ (u.const +ℤ g.const) +ℤ r.const) rest ∙ ap (λ x. x +ℤ (v.const +ℤ c.const)) (*ℤ-distl w u.const g.const)
      ∙ +ℤ-middle (w *ℤ u.const) (w *ℤ g.const) v.const c.const
      ∙ ap (λ r. r.const +ℤ (w *ℤ g.const +ℤ c.const)) (sym both))

  row-twice : (f : Map) (w : Row) → RowsWide f.cols f.rows → row_after (map_after m f) w ≡ row_after m (row_after f w)
  row-twice f w h =
      let c = combine w.coefs f.rows f.cols in
      let v = combine c.coefs m.rows m.cols in
      let both = combine-twice w.coefs f.rows f.cols h in
      row_same (ap (λ r. r.coefs) both) (ap (λ r. r.const +ℤ w.const) both ∙ +ℤ_assoc v.const c.const w.const)

  module _ (f : Map) (h : RowsWide f.cols f.rows) where
    rows-twice : (ws : List Row) → map (row_after (map_after m f)) ws ≡ map (row_after m) (map (row_after f) ws)
    rows-twice [] = refl
    rows-twice (w ∷ ws) = rw (row-twice f w h, rows-twice ws)

    pub map-twice : (g : Map) → map_after (map_after m f) g ≡ map_after m (map_after f g)
    map-twice g = map_same (rows-twice g.rows)

    pub given-twice : (cs : List Constraint) → map (constraint_after (map_after m f)) cs ≡ map (constraint_after m) (map (constraint_after f) cs)
    given-twice [] = refl
    given-twice (c ∷ cs) = rw (row-twice f c.row h, given-twice cs)

    pub push-twice : (e : Expr) → push e (map_after m f) ≡ push (push e f) m
    unfolding push
    push-twice (var v) = refl
    push-twice (int c) = refl
    push-twice (boo b) = refl
    push-twice (un o a) = rw (push-twice a)
    push-twice (bin o a b) = rw (push-twice a, push-twice b)
    push-twice (ite a b c) = rw (push-twice a, push-twice b, push-twice c)
    push-twice (kase es) = refl
    push-twice (restr d cs a) = refl
    push-twice (dep g a) = ap (λ x. dep x a) (map-twice g)

-- ---- the identity first

combine-wider : (cs : List ℤ) (rs : List Row) (n : ℕ) → combine cs (map wider rs) (suc n) ≡ wider (combine cs rs n)
combine-wider [] rs n = refl
combine-wider (c ∷ cs) [] n = refl
combine-wider (c ∷ cs) (r ∷ rs) n =
    let u = combine cs rs n in
    let rest = combine-wider cs rs n in
    row_same
    (ap (λ w. add_all (scale c (pos 0 ∷ r.coefs)) w.coefs) rest ∙ ap (λ x. (x +ℤ pos 0) ∷ add_all (scale c r.coefs) u.coefs) (*ℤ-zero c))
    (ap (λ w. c *ℤ r.const +ℤ w.const) rest)

combine-identity : (cs : List ℤ) (n : ℕ) → length cs ≡ n → combine cs (id_rows n) n ≡ record { coefs = cs; const = pos 0 }
combine-identity [] zero e = refl
combine-identity [] (suc n) e = absurd (omega arith)
combine-identity (c ∷ cs) zero e = absurd (omega arith)
combine-identity (c ∷ cs) (suc n) e =
    let len : length cs ≡ n = omega arith in
    let rest = combine-wider cs (id_rows n) n ∙ ap wider (combine-identity cs n len) in
    row_same
    (ap (λ w. add_all (scale c (pos 1 ∷ zeroes n)) w.coefs) rest
    ∙ ap (λ x. (x +ℤ pos 0) ∷ add_all (scale c (zeroes n)) cs) (*ℤ_comm c (pos 1) ∙ one-*ℤ c)
    ∙ ap (λ x. x ∷ add_all (scale c (zeroes n)) cs) (+ℤ_idr c) ∙ ap (λ l. c ∷ l) (ap (λ l. add_all l cs) (scale-zeroes c n) ∙ add-zeroes n cs len))
    (ap (λ w. c *ℤ pos 0 +ℤ w.const) rest ∙ ap (λ x. x +ℤ pos 0) (*ℤ-zero c))

map_is : (f g : Map) → f.cols ≡ g.cols → f.rows ≡ g.rows → f ≡ g
map_is f g p q = λ i. record { cols = p i; rows = q i }

module _ (n : ℕ) where
  row_first : (w : Row) → length w.coefs ≡ n → row_after (identity n) w ≡ w
  row_first w e =
      let c = combine-identity w.coefs n e in
      row_same (ap (λ r. r.coefs) c) (ap (λ r. r.const +ℤ w.const) c ∙ +ℤ_idl w.const)

  rows-first : (ws : List Row) → RowsWide n ws → map (row_after (identity n)) ws ≡ ws
  rows-first [] h = refl
  rows-first (w ∷ ws) h = rw (row_first w h.0, rows-first ws h.1)

  given-first : (cs : List Constraint) → ConstraintsWide n cs → map (constraint_after (identity n)) cs ≡ cs
  given-first [] h = refl
  given-first (c ∷ cs) h = rw (row_first c.row h.0, given-first cs h.1)

  push-first : (hs : List Head) (e : Expr) → tree_form e ≡ true → fits e hs n ≡ true → Wide e → push e (identity n) ≡ e
  unfolding tree_form fits Wide push
  push-first hs (var v) t f w = true-not-false {b = false} t refl
  push-first hs (int c) t f w = true-not-false {b = false} t refl
  push-first hs (boo b) t f w = true-not-false {b = false} t refl
  push-first hs (un o a) t f w = rw (push-first hs a t f w)
  push-first hs (bin o a b) t f w =
      rw (
        push-first hs a (&&-left (tree_form a) (tree_form b) t) (&&-left (fits a hs n) (fits b hs n) f) w.0,
        push-first hs b (&&-right (tree_form a) (tree_form b) t) (&&-right (fits a hs n) (fits b hs n) f) w.1,
      )
  push-first hs (ite a b c) t f w =
      let u = &&-left (tree_form a && tree_form b) (tree_form c) t in
      let g = &&-left (fits a hs n && fits b hs n) (fits c hs n) f in
      rw (
        push-first hs a (&&-left (tree_form a) (tree_form b) u) (&&-left (fits a hs n) (fits b hs n) g) w.0,
        push-first hs b (&&-right (tree_form a) (tree_form b) u) (&&-right (fits a hs n) (fits b hs n) g) w.1,
        push-first hs c (&&-right (tree_form a && tree_form b) (tree_form c) t) (&&-right (fits a hs n && fits b hs n) (fits c hs n) f) w.2,
      )
  push-first hs (kase es) t f w = true-not-false {b = false} t refl
  push-first hs (restr d cs a) t f w = true-not-false {b = false} t refl
  push-first hs (dep g a) t f w =
      let same : g.cols ≡ n = eqb-true g.cols n (&&-left (eqb g.cols n) (fits a hs (length g.rows)) f) in
      ap {B = Expr} (λ x. dep x a) (map_is (map_after (identity n) g) g (sym same) (rows-first g.rows (rw same at w.0)))

  pub branch-first : (hs : List Head) (b : Branch) → tree_form b.term ≡ true → fits b.term hs n ≡ true → ConstraintsWide n b.given →
      Wide b.term →
      push_branch (identity n) b ≡ b
  branch-first hs b t f c w = λ i. record { given = given-first b.given c i; term = push-first hs b.term t f w i }
