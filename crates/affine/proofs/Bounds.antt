-- How far values reach, over the definitions of crate alpha: a row's value at a point within reach r is within the row's reach, and what
-- reaches no further than 2^40 fits in an i64, a row or a map after another too. Assumes nothing.
use Prim.Native.Nat.{ℕ, zero, suc, ◌+◌, ◌*◌, ◌^◌, ◌≤◌, ◌<◌, max}
use mathlib.Core.Path.{◌≡◌, refl, ap, subst}
use mathlib.Core.Logic.{⊎_elim}
use mathlib.Core.List.{List, [], ◌∷◌}
use native.Mathlib.Omega.{arith}
use native.Mathlib.Nat.{le_trans, mul-le-mul_left, mul-one, add-mul}
use lib.IntN.{ℤ, nat_abs, ◌*ℤ◌}
use Rattle.laws.proofs.Sizes.{nat_abs-add, nat_abs_mul}
use Rattle.alpha.specs.Sheet as Sheet
use Rattle.alpha.specs.Affine.{dot, row_at, image}
use Rattle.alpha.specs.Reach.{limit, sizes, row_reach, map_reach}
use Rattle.affine.specs.declared.Row.{Row}
use Rattle.affine.specs.declared.Map.{Map}
use Rattle.affine.specs.Value.{several, at, line, point_of, row_of, map_of, Padded, NeatRow, Neat}
use Rattle.affine.specs.Size.{dot_size, row_size, Near, Fit, FitAfter}
use lib.ListN.{drop}
use Rattle.affine.proofs.Several.{below-four, lt-or-le, dot_size-several, sizes-nothing, row_size-neat, row_size-zero}
use Rattle.affine.proofs.Meaning.{neat-line}

-- ---- a row's value

pub nat_abs-dot : (cs : List ℤ) (z : Sheet.Point) → nat_abs (dot cs z) ≤ dot_size cs z
nat_abs-dot [] z = omega arith
nat_abs-dot (c ∷ cs) [] = omega arith
nat_abs-dot (c ∷ cs) (x ∷ z) = omega (arith, nat_abs-add (c *ℤ x) (dot cs z), nat_abs_mul c x, nat_abs-dot cs z)

pub nat_abs-row_at : (w : Sheet.Row) (z : Sheet.Point) → nat_abs (row_at w z) ≤ row_size w z
nat_abs-row_at w z = omega (arith, nat_abs-add (dot w.coefs z) w.const, nat_abs-dot w.coefs z)

pub dot_size-near : (r : ℕ) (cs : List ℤ) (z : Sheet.Point) → Near r z → dot_size cs z ≤ sizes cs * r
dot_size-near r [] z h = omega arith
dot_size-near r (c ∷ cs) [] h = omega arith
dot_size-near r (c ∷ cs) (x ∷ z) h =
    omega (arith, add-mul (nat_abs c) (sizes cs) r, mul-le-mul_left (nat_abs c) h.0, dot_size-near r cs z h.1)

pub row_size-near : (r : ℕ) (w : Sheet.Row) (z : Sheet.Point) → Near r z → row_size w z ≤ row_reach r w
row_size-near r w z h = omega (arith, dot_size-near r w.coefs z h)

-- a row at a point within reach is within the row's reach
pub row_at-near : (r : ℕ) (w : Sheet.Row) (z : Sheet.Point) → Near r z → nat_abs (row_at w z) ≤ row_reach r w
row_at-near r w z h = le_trans (nat_abs-row_at w z) (row_size-near r w z h)

-- ---- an image

pub near-more : {r s : ℕ} (z : Sheet.Point) → r ≤ s → Near r z → Near s z
near-more [] l h = tt
near-more (x ∷ z) l h = (le_trans h.0 l, near-more z l h.1)

pub image-near : (r : ℕ) (ws : List Sheet.Row) (z : Sheet.Point) → Near r z → Near (map_reach r ws) (image ws z)
image-near r [] z h = tt
image-near r (w ∷ ws) z h =
    let k = row_at-near r w z h in (omega arith, near-more (image ws z) (omega arith) (image-near r ws z h))

-- ---- a greater reach

pub row_reach-more : {r s : ℕ} (w : Sheet.Row) → r ≤ s → row_reach r w ≤ row_reach s w
row_reach-more w l = omega (arith, mul-le-mul_left (sizes w.coefs) l)

-- ---- what fits in an i64

pub row_reach-map_reach : (r n : ℕ) (f : ℕ → Sheet.Row) (i : ℕ) → i < n → row_reach r (f i) ≤ map_reach r (several n f)
row_reach-map_reach r zero f i h = absurd (omega arith)
row_reach-map_reach r (suc n) f zero h = omega arith
row_reach-map_reach r (suc n) f (suc i) h = let k = row_reach-map_reach r n (λ j. f (suc j)) i (omega arith) in omega arith

sizes-at : (n : ℕ) (f : ℕ → ℤ) (j : ℕ) → j < n → nat_abs (f j) ≤ sizes (several n f)
sizes-at zero f j h = absurd (omega arith)
sizes-at (suc n) f zero h = omega arith
sizes-at (suc n) f (suc j) h = let k = sizes-at n (λ i. f (suc i)) j (omega arith) in omega arith

near-several : (r n : ℕ) (f : ℕ → ℤ) → ((i : ℕ) → i < n → nat_abs (f i) ≤ r) → Near r (several n f)
near-several r zero f h = tt
near-several r (suc n) f h = (h 0 (omega arith), near-several r n (λ i. f (suc i)) (λ i k. h (suc i) (omega arith)))

-- a row at a point within reach
pub row_fits :
    (n reach : ℕ) (r : Row) (p : List ℤ) → NeatRow n r → Near reach (point_of n p) → row_reach reach (row_of n r) ≤ limit →
    row_size (row_of 4 r) (point_of 4 p) < 2 ^ 63
row_fits n reach r p h near k =
    omega (arith, row_size-neat n r h p, row_size-near reach (row_of n r) (point_of n p) near)

-- a map at a point within reach
pub map-fits :
    (reach : ℕ) (m : Map) (p : List ℤ) → Neat m → Near reach (point_of m.width p) → map_reach reach (map_of m).rows ≤ limit → Fit m p
map-fits reach m p h near k i = ⊎_elim inside outside (lt-or-le i m.height)
  where
    inside : i < m.height → row_size (row_of 4 (line m i)) (point_of 4 p) < 2 ^ 63
    inside l =
        row_fits m.width reach (line m i) p (neat-line m h i) near
        (le_trans (row_reach-map_reach reach m.height (λ j. row_of m.width (line m j)) i l) k)

    outside : m.height ≤ i → row_size (row_of 4 (line m i)) (point_of 4 p) < 2 ^ 63
    outside l = omega (arith, row_size-zero (line m i) (h.beyond i l) (at p))

module _ (reach : ℕ) (f : Map) (h : Neat f) (one : 1 ≤ reach) where
  -- the numbers of a map are within its reach
  coef-near : (i j : ℕ) → i < f.height → nat_abs (at (line f i).coef j) ≤ map_reach reach (map_of f).rows
  coef-near i j l = ⊎_elim small zeros (lt-or-le j f.width)
    where
      small : j < f.width → nat_abs (at (line f i).coef j) ≤ map_reach reach (map_of f).rows
      small q =
          omega (
            arith,
            sizes-at f.width (at (line f i).coef) j q,
            mul-le-mul_left (sizes (several f.width (at (line f i).coef))) one,
            mul-one (sizes (several f.width (at (line f i).coef))),
            row_reach-map_reach reach f.height (λ t. row_of f.width (line f t)) i l,
          )

      zeros : f.width ≤ j → nat_abs (at (line f i).coef j) ≤ map_reach reach (map_of f).rows
      zeros q = let e = ap nat_abs (h.lines i j q) in omega arith

  const-near : (i : ℕ) → i < f.height → nat_abs (line f i).constant ≤ map_reach reach (map_of f).rows
  const-near i l = omega (arith, row_reach-map_reach reach f.height (λ t. row_of f.width (line f t)) i l)

  -- a row after a map
  pub after-fits :
      (w : Row) → Padded f.height w.coef → row_reach (map_reach reach (map_of f).rows) (row_of f.height w) ≤ limit → FitAfter f w
  after-fits w rest k =
      let m = map_reach reach (map_of f).rows in
      let n = f.height in
      let ws = several n (at w.coef) in
      record {
        coefs = λ j.
            omega (
              arith,
              dot_size-several 4 n (at w.coef) (λ i. at (line f i).coef j) h.rows_few rest,
              dot_size-near m ws (several n (λ i. at (line f i).coef j)) (near-several m n (λ i. at (line f i).coef j) (λ i l. coef-near i j l)),
            );
        const =
            omega (
              arith,
              dot_size-several 4 n (at w.coef) (λ i. (line f i).constant) h.rows_few rest,
              dot_size-near m ws (several n (λ i. (line f i).constant)) (near-several m n (λ i. (line f i).constant) const-near),
            );
      }

  -- a map after a map
  pub compose-fits :
      (g : Map) → Neat g → g.width ≡ f.height → map_reach (map_reach reach (map_of f).rows) (map_of g).rows ≤ limit →
      (i : ℕ) → FitAfter f (line g i)
  compose-fits g ng e k i =
      after-fits (line g i) (subst (λ n. Padded n (line g i).coef) e (ng.lines i)) (⊎_elim inside outside (lt-or-le i g.height))
    where
      m : ℕ
      m = map_reach reach (map_of f).rows

      inside : i < g.height → row_reach m (row_of f.height (line g i)) ≤ limit
      inside l =
          subst (λ n. row_reach m (row_of n (line g i)) ≤ limit) e
          (le_trans (row_reach-map_reach m g.height (λ j. row_of g.width (line g j)) i l) k)

      outside : g.height ≤ i → row_reach m (row_of f.height (line g i)) ≤ limit
      outside l =
          let z = ng.beyond i l in
          rw (sizes-nothing f.height (at (line g i).coef) z.coefs, z.const) (omega arith)

-- ---- rows of zeros reach nowhere

map_reach-nothing : (r k : ℕ) (f : ℕ → Sheet.Row) → ((j : ℕ) → row_reach r (f j) ≡ 0) → map_reach r (several k f) ≡ 1
map_reach-nothing r zero f e = refl
map_reach-nothing r (suc k) f e = omega (arith, e 0, map_reach-nothing r k (λ i. f (suc i)) (λ j. e (suc j)))

map_reach-several :
    (r k n : ℕ) (f : ℕ → Sheet.Row) → n ≤ k → ((j : ℕ) → n ≤ j → row_reach r (f j) ≡ 0) →
    map_reach r (several k f) ≡ map_reach r (several n f)
map_reach-several r k zero f h e = map_reach-nothing r k f (λ j. e j (omega arith))
map_reach-several r zero (suc n) f h e = absurd (omega arith)
map_reach-several r (suc k) (suc n) f h e =
    ap (λ t. max (row_reach r (f 0)) t) (map_reach-several r k n (λ i. f (suc i)) (omega arith) (λ j l. e (suc j) (omega arith)))

-- a map reaches as far as its four rows
pub map_reach-neat :
    (r : ℕ) (m : Map) → Neat m → map_reach r (several 4 (λ i. row_of m.width (line m i))) ≡ map_reach r (map_of m).rows
map_reach-neat r m h =
    map_reach-several r 4 m.height (λ i. row_of m.width (line m i)) h.rows_few (λ j l.
    let z = h.beyond j l in rw (sizes-nothing m.width (at (line m j).coef) z.coefs, z.const) (omega arith))

-- the reach of the four rows from row i on, and of those after it
pub map_reach-drop :
    (r : ℕ) (m : Map) (i : ℕ) → i < 4 →
    map_reach r (drop i (several 4 (λ j. row_of m.width (line m j))))
    ≡ max (row_reach r (row_of m.width (line m i))) (map_reach r (drop (i + 1) (several 4 (λ j. row_of m.width (line m j)))))
map_reach-drop r m =
    below-four (λ i. map_reach r (drop i (several 4 (λ j. row_of m.width (line m j))))
    ≡ max (row_reach r (row_of m.width (line m i))) (map_reach r (drop (i + 1) (several 4 (λ j. row_of m.width (line m j))))))
    refl refl refl refl
