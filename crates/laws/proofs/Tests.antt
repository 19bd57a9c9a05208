-- Facts from tests and tests from facts, where the kit's `borrow.Author.Tests` (leb, ltb, eqb) ends: a known test in `ifb`, a passed
-- conjunction, the order of ℤ. Assumes nothing.
use mathlib.Core.Path.{◌≡◌, refl}
use Prim.Native.Nat.{ℕ, zero, suc, ◌≤◌}
use native.Mathlib.Omega.{arith}
use mathlib.Core.Bool.{Bool, true, false, ◌&&◌}
use lib.IntN.{ℤ, pos, negsuc, nat_abs, neg_ℤ}
use lib.Dec.{leb}
use borrow.Author.Tests.{leb-true, le-leb}
use Rattle.alpha.specs.Pick.{ifb}
use Rattle.alpha.specs.Box.{within}

-- ---- a known test

pub true-not-false {ℓ} : {X : Type ℓ} {b : Bool} → b ≡ true → b ≡ false → X
true-not-false {b = b} t f = let z : ◌≡◌ {A = ℕ} 0 1 = cc in absurd (omega arith)

pub ifb-true : {A : Type 0} (b : Bool) (x y : Unit {0} → A) → b ≡ true → ifb b x y ≡ x tt
ifb-true b x y h = rw h

pub ifb-false : {A : Type 0} (b : Bool) (x y : Unit {0} → A) → b ≡ false → ifb b x y ≡ y tt
ifb-false b x y h = rw h

-- ---- a passed conjunction

pub &&-left : (a b : Bool) → a && b ≡ true → a ≡ true
&&-left true b h = refl
&&-left false b h = h

pub &&-right : (a b : Bool) → a && b ≡ true → b ≡ true
&&-right true b h = h
&&-right false b h = true-not-false {b = false} h refl

pub &&-true : {a b : Bool} → a ≡ true → b ≡ true → a && b ≡ true
&&-true p q = rw (p, q)

-- ---- a number within bounds

-- x is a natural number from lo to hi
pub record From (lo hi : ℕ) (x : ℤ) : Type 0 where
  pub is : x ≡ pos (nat_abs x)
  pub low : lo ≤ nat_abs x
  pub high : nat_abs x ≤ hi

pub within-pos : (lo hi : ℕ) (x : ℤ) → within (pos lo) (pos hi) x ≡ true → From lo hi x
within-pos lo hi (pos n) h =
    record { is = refl; low = leb-true lo n (&&-left (leb lo n) (leb n hi) h); high = leb-true n hi (&&-right (leb lo n) (leb n hi) h) }
within-pos lo hi (negsuc n) h = true-not-false {b = false} h refl

pub pos-within : (lo hi n : ℕ) → lo ≤ n → n ≤ hi → within (pos lo) (pos hi) (pos n) ≡ true
pos-within lo hi n l h = &&-true (le-leb lo n l) (le-leb n hi h)

-- from -n to n
pub within-size : (n : ℕ) (x : ℤ) → within (neg_ℤ (pos n)) (pos n) x ≡ true → nat_abs x ≤ n
within-size zero (pos m) h = leb-true m zero (&&-right (leb zero m) (leb m zero) h)
within-size zero (negsuc m) h = true-not-false {b = false} h refl
within-size (suc n) (pos m) h = leb-true m (suc n) h
within-size (suc n) (negsuc m) h = let k : m ≤ n = leb-true m n (&&-left (leb m n) true h) in omega arith

pub size-within : (n : ℕ) (x : ℤ) → nat_abs x ≤ n → within (neg_ℤ (pos n)) (pos n) x ≡ true
size-within zero (pos m) h = let e : m ≡ 0 = omega arith in rw e refl
size-within zero (negsuc m) h = absurd (let k : suc m ≤ 0 = h in omega arith)
size-within (suc n) (pos m) h = le-leb m (suc n) h
size-within (suc n) (negsuc m) h = &&-true (le-leb m n (omega arith)) refl
