-- What an answer on a size tells, step by step: a sum and a product that are tested before they are made, and what passes the limit passes
-- it multiplied and added to. Assumes nothing.
use Rattle.std.specs.Prelude.{Option, Some, None}
use Prim.Native.Nat.{ℕ, ◌+◌, ◌*◌, ◌/◌, ◌≤◌, ◌<◌, max}
use mathlib.Core.Path.{◌≡◌, ap, ◌∙◌, subst}
use native.Mathlib.Omega.{arith}
use native.Mathlib.Nat.{mul-le-mul_left, mul-one, div-lt_iff_lt-mul, le-div_iff_mul-le}
use Rattle.alpha.specs.Reach.{limit}
use Rattle.affine.specs.Size.{Tells}

pub tells-equal : (y : Option ℕ) {a b : ℕ} → a ≡ b → Tells y a → Tells y b
tells-equal y e h = subst (λ n. Tells y n) e h

-- a quotient is tested in place of the product
pub product-past : (s t : ℕ) → 1 ≤ t → limit / t < s → limit < s * t
product-past s t h k = (div-lt_iff_lt-mul h).0 k

pub product-within : (s t : ℕ) → 1 ≤ t → s ≤ limit / t → s * t ≤ limit
product-within s t h k = (le-div_iff_mul-le h).0 k

-- after an answer that holds a number, and after one that does not
module _ {s : Option ℕ} (y : Option ℕ) {n : ℕ} (e : s ≡ Some n) (t : ℕ) (h : Tells s t) where
  pub more_within : {k x : ℕ} → k ≡ x → Tells y (n + k) → Tells y (t + x)
  more_within {k} {x} q u = let p = rw e at h in tells-equal y (ap (λ i. i + k) p.0 ∙ ap (λ i. t + i) q) u

  pub times-within : (reach : ℕ) → Tells y (n * reach) → Tells y (t * reach)
  times-within reach u = let p = rw e at h in tells-equal y (ap (λ i. i * reach) p.0) u

module _ {s : Option ℕ} (e : s ≡ None) (t : ℕ) (h : Tells s t) where
  pub more-past : (x : ℕ) → limit < t + x
  more-past x = let p : limit < t = rw e at h in omega arith

  pub times-past : (reach : ℕ) → 1 ≤ reach → limit < t * reach
  times-past reach k =
      let p : limit < t = rw e at h in
      let m = mul-le-mul_left t k in
      let o = mul-one t in omega arith

-- the larger of two
module _ {s t : Option ℕ} (m n : ℕ) (e : s ≡ Some m) (f : t ≡ Some n) (a b : ℕ) (h : Tells s a) (k : Tells t b) where
  pub larger-second-is : m < n → Tells (Some n) (max a b)
  larger-second-is l = let p = rw e at h in let q = rw f at k in (omega arith, omega arith)

  pub larger-first-is : n ≤ m → Tells (Some m) (max a b)
  larger-first-is l = let p = rw e at h in let q = rw f at k in (omega arith, omega arith)

module _ (a b : ℕ) {s : Option ℕ} (e : s ≡ None) where
  pub larger-first-past : Tells s a → limit < max a b
  larger-first-past h = let p : limit < a = rw e at h in omega arith

  pub larger-second-past : Tells s b → limit < max a b
  larger-second-past h = let p : limit < b = rw e at h in omega arith

-- and multiplied and added to
pub past-scaled : (s reach k : ℕ) → 1 ≤ reach → limit < s → limit < s * reach + k
past-scaled s reach k h p = omega (arith, mul-le-mul_left s h, mul-one s)
