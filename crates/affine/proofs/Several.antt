-- Lists by index, and sums that zeros do not change: a row of n coefficients has the value and the size of its four. Assumes nothing.
use Prim.Native.Nat.{ℕ, zero, suc, ◌+◌, ◌*◌, ◌≤◌, ◌<◌}
use mathlib.Core.Path.{◌≡◌, refl, ap, ◌∙◌}
use mathlib.Core.List.{List, [], ◌∷◌, map}
use mathlib.Core.Bool.{Bool, true, false}
use mathlib.Core.Logic.{◌⊎◌, inl, inr}
use native.Mathlib.Omega.{arith}
use native.Mathlib.Nat.{zero-mul, zero-add}
use lib.Dec.{ltb}
use borrow.Author.Tests.{ltb-true, ltb-false}
use lib.ListN.{length, get_or, get_or-eq_default}
use lib.IntN.{ℤ, pos, nat_abs, ◌+ℤ◌, ◌*ℤ◌, +ℤ_idl, zero-*ℤ, *ℤ-zero}
use Rattle.alpha.specs.Affine.{dot, row_at}
use Rattle.alpha.specs.Reach.{sizes, row_reach}
use Rattle.affine.specs.declared.Row.{Row}
use Rattle.affine.specs.Value.{several, at, point_of, row_of, NeatRow, ZeroRow}
use Rattle.affine.specs.Size.{dot_size, row_size}

-- ---- lists by index

pub length-several : {A : Type 0} (n : ℕ) (f : ℕ → A) → length (several n f) ≡ n
length-several zero f = refl
length-several (suc n) f = ap suc (length-several n (λ i. f (suc i)))

pub get_or-several : {A : Type 0} (n : ℕ) (f : ℕ → A) (d : A) (j : ℕ) → j < n → get_or (several n f) j d ≡ f j
get_or-several zero f d j h = absurd (omega arith)
get_or-several (suc n) f d zero h = refl
get_or-several (suc n) f d (suc j) h = get_or-several n (λ i. f (suc i)) d j (omega arith)

-- two lists whose entries are the same
pub several-same : {A : Type 0} (n : ℕ) (f g : ℕ → A) → ((i : ℕ) → i < n → f i ≡ g i) → several n f ≡ several n g
several-same zero f g e = refl
several-same (suc n) f g e =
    rw (e 0 (omega arith), several-same n (λ i. f (suc i)) (λ i. g (suc i)) (λ i h. e (suc i) (omega arith)))

pub map-several : {A B : Type 0} (h : A → B) (n : ℕ) (f : ℕ → A) → map h (several n f) ≡ several n (λ i. h (f i))
map-several h zero f = refl
map-several h (suc n) f = ap (λ l. h (f 0) ∷ l) (map-several h n (λ i. f (suc i)))

-- ---- arrays of four

pub lt-or-le : (a b : ℕ) → (a < b) ⊎ (b ≤ a)
lt-or-le a b = by (ltb a b) refl
  where
    by : (t : Bool) → ltb a b ≡ t → (a < b) ⊎ (b ≤ a)
    by true e = inl (ltb-true a b e)
    by false e = inr (ltb-false a b e)

pub below-four : (P : ℕ → Type 0) → P 0 → P 1 → P 2 → P 3 → (i : ℕ) → i < 4 → P i
below-four P a b c d zero h = a
below-four P a b c d (suc zero) h = b
below-four P a b c d (suc (suc zero)) h = c
below-four P a b c d (suc (suc (suc zero))) h = d
below-four P a b c d (suc (suc (suc (suc i)))) h = absurd (omega arith)

pub past-four : {A : Type 0} (a b c d e : A) (j : ℕ) → 4 ≤ j → get_or (a ∷ b ∷ c ∷ d ∷ []) j e ≡ e
past-four a b c d e j h = get_or-eq_default (a ∷ b ∷ c ∷ d ∷ []) e h

-- four zeros are zeros everywhere
pub zeros-at : (j : ℕ) → at (pos 0 ∷ pos 0 ∷ pos 0 ∷ pos 0 ∷ []) j ≡ pos 0
zeros-at zero = refl
zeros-at (suc zero) = refl
zeros-at (suc (suc zero)) = refl
zeros-at (suc (suc (suc zero))) = refl
zeros-at (suc (suc (suc (suc j)))) = refl

-- ---- zeros beyond n

zero-term : (c x s : ℤ) → c ≡ pos 0 → c *ℤ x +ℤ s ≡ s
zero-term c x s e = rw (e, zero-*ℤ x, +ℤ_idl s)

-- f is 0 from n on
abbrev pub Ends : ℕ → (ℕ → ℤ) → Type 0
Ends n f = (j : ℕ) → n ≤ j → f j ≡ pos 0

later : {n : ℕ} (f : ℕ → ℤ) → Ends (suc n) f → Ends n (λ i. f (suc i))
later f e j h = e (suc j) (omega arith)

all-later : (f : ℕ → ℤ) → Ends 0 f → Ends 0 (λ i. f (suc i))
all-later f e j h = e (suc j) (omega arith)

pub dot-nothing : (k : ℕ) (f z : ℕ → ℤ) → Ends 0 f → dot (several k f) (several k z) ≡ pos 0
dot-nothing zero f z e = refl
dot-nothing (suc k) f z e =
    zero-term (f 0) (z 0) _ (e 0 (omega arith)) ∙ dot-nothing k (λ i. f (suc i)) (λ i. z (suc i)) (all-later f e)

pub dot-several : (k n : ℕ) (f z : ℕ → ℤ) → n ≤ k → Ends n f → dot (several k f) (several k z) ≡ dot (several n f) (several n z)
dot-several k zero f z h e = dot-nothing k f z e
dot-several zero (suc n) f z h e = absurd (omega arith)
dot-several (suc k) (suc n) f z h e =
    ap (λ t. f 0 *ℤ z 0 +ℤ t) (dot-several k n (λ i. f (suc i)) (λ i. z (suc i)) (omega arith) (later f e))

-- the same of sizes
zero-size : (c x : ℤ) (s : ℕ) → c ≡ pos 0 → nat_abs c * nat_abs x + s ≡ s
zero-size c x s e = rw (e, zero-mul (nat_abs x), zero-add s)

dot_size-nothing : (k : ℕ) (f z : ℕ → ℤ) → Ends 0 f → dot_size (several k f) (several k z) ≡ 0
dot_size-nothing zero f z e = refl
dot_size-nothing (suc k) f z e =
    zero-size (f 0) (z 0) _ (e 0 (omega arith)) ∙ dot_size-nothing k (λ i. f (suc i)) (λ i. z (suc i)) (all-later f e)

pub dot_size-several :
    (k n : ℕ) (f z : ℕ → ℤ) → n ≤ k → Ends n f → dot_size (several k f) (several k z) ≡ dot_size (several n f) (several n z)
dot_size-several k zero f z h e = dot_size-nothing k f z e
dot_size-several zero (suc n) f z h e = absurd (omega arith)
dot_size-several (suc k) (suc n) f z h e =
    ap (λ t. nat_abs (f 0) * nat_abs (z 0) + t) (dot_size-several k n (λ i. f (suc i)) (λ i. z (suc i)) (omega arith) (later f e))

pub sizes-nothing : (k : ℕ) (f : ℕ → ℤ) → Ends 0 f → sizes (several k f) ≡ 0
sizes-nothing zero f e = refl
sizes-nothing (suc k) f e = rw (e 0 (omega arith), sizes-nothing k (λ i. f (suc i)) (all-later f e))

pub sizes-several : (k n : ℕ) (f : ℕ → ℤ) → n ≤ k → Ends n f → sizes (several k f) ≡ sizes (several n f)
sizes-several k zero f h e = sizes-nothing k f e
sizes-several zero (suc n) f h e = absurd (omega arith)
sizes-several (suc k) (suc n) f h e = ap (λ t. nat_abs (f 0) + t) (sizes-several k n (λ i. f (suc i)) (omega arith) (later f e))

-- ---- a row of n coefficients has the value, the size and the reach of its four

module _ (n : ℕ) (r : Row) (h : NeatRow n r) where
  pub row_at-neat : (p : List ℤ) → row_at (row_of 4 r) (point_of 4 p) ≡ row_at (row_of n r) (point_of n p)
  row_at-neat p = ap (λ t. t +ℤ r.constant) (dot-several 4 n (at r.coef) (at p) h.few h.rest)

  pub row_size-neat : (p : List ℤ) → row_size (row_of 4 r) (point_of 4 p) ≡ row_size (row_of n r) (point_of n p)
  row_size-neat p = ap (λ t. t + nat_abs r.constant) (dot_size-several 4 n (at r.coef) (at p) h.few h.rest)

  pub row_reach-neat : (reach : ℕ) → row_reach reach (row_of 4 r) ≡ row_reach reach (row_of n r)
  row_reach-neat reach = ap (λ t. t * reach + nat_abs r.constant) (sizes-several 4 n (at r.coef) h.few h.rest)

-- a row of zeros is 0 everywhere
pub row_size-zero : (r : Row) → ZeroRow r → (z : ℕ → ℤ) → row_size (row_of 4 r) (several 4 z) ≡ 0
row_size-zero r h z = rw (dot_size-nothing 4 (at r.coef) z h.coefs, h.const)

-- a sum at a point of zeros
pub dot-origin : (k : ℕ) (f z : ℕ → ℤ) → ((j : ℕ) → z j ≡ pos 0) → dot (several k f) (several k z) ≡ pos 0
dot-origin zero f z e = refl
dot-origin (suc k) f z e =
    rw (e 0, *ℤ-zero (f 0), +ℤ_idl (dot (several k (λ i. f (suc i))) (several k (λ i. z (suc i)))))
    (dot-origin k (λ i. f (suc i)) (λ i. z (suc i)) (λ j. e (suc j)))
