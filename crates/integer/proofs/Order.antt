-- Tests on ℤ and the facts that they decide, where laws' `Tests` and `Order` end: zero, at most, two bounds, the 32-bit
-- range. Assumes nothing.
use Prim.Native.Nat.{zero, suc, ◌<◌}
use mathlib.Core.Path.{◌≡◌, refl, sym, ap, ◌∙◌}
use mathlib.Core.Bool.{Bool, true, false, true≢false, false≢true}
use native.Mathlib.Omega.{arith}
use lib.Dec.{leb}
use lib.IntN.{ℤ, pos, negsuc, neg_ℤ, nat_abs, ◌-ℤ◌, +ℤ_invr, neg_ℤ-neg_ℤ}
use lib.Signed.{le_z, non_neg}
use borrow.Author.Tests.{leb-true, le-leb}
use Rattle.alpha.specs.Affine.{is_zero}
use Rattle.alpha.specs.Box.{within}
use Rattle.laws.proofs.Ring.{+ℤ-opposite}
use Rattle.laws.proofs.Tests.{&&-left, &&-right}
use Rattle.integer.specs.Range.{In32}

-- ---- booleans

-- two tests that pass together are one
pub both_ways : (s t : Bool) → (s ≡ true → t ≡ true) → (t ≡ true → s ≡ true) → s ≡ t
both_ways true true f g = refl
both_ways true false f g = sym (f refl)
both_ways false true f g = g refl
both_ways false false f g = refl

-- ---- zero

pub is_zero-true : (x : ℤ) → is_zero x ≡ true → x ≡ pos 0
is_zero-true (pos zero) e = refl
is_zero-true (pos (suc n)) e = absurd (false≢true e)
is_zero-true (negsuc n) e = absurd (false≢true e)

pub is_zero-false : (x : ℤ) → is_zero x ≡ false → 0 < nat_abs x
is_zero-false (pos zero) e = absurd (true≢false e)
is_zero-false (pos (suc n)) e = omega arith
is_zero-false (negsuc n) e = omega arith

-- a difference is 0 exactly where the two are one number
pub is_zero-same : (a b : ℤ) → is_zero (a -ℤ b) ≡ true → a ≡ b
is_zero-same a b e = +ℤ-opposite a (neg_ℤ b) (is_zero-true (a -ℤ b) e) ∙ neg_ℤ-neg_ℤ b

pub same-is_zero : (a b : ℤ) → a ≡ b → is_zero (a -ℤ b) ≡ true
same-is_zero a b e = rw e (ap is_zero (+ℤ_invr b))

-- ---- at most

pub le_z-zero : (x : ℤ) → le_z (pos 0) x ≡ non_neg x
le_z-zero (pos n) = le-leb 0 n (omega arith)
le_z-zero (negsuc n) = refl

-- ---- within two bounds

pub within-true : (lo hi x : ℤ) → within lo hi x ≡ true → (le_z lo x ≡ true) × (le_z x hi ≡ true)
within-true lo hi x e = (&&-left (le_z lo x) (le_z x hi) e, &&-right (le_z lo x) (le_z x hi) e)

-- the 32-bit range
pub within-32 : (x : ℤ) → within (neg_ℤ (pos 2147483648)) (pos 2147483647) x ≡ true → In32 x
within-32 (pos n) e = let h = leb-true n 2147483647 e in omega arith
within-32 (negsuc n) e = let h = leb-true n 2147483647 (&&-left (leb n 2147483647) true e) in omega arith
