-- Sizes of numbers, for `omega`, which reads no ℤ and takes `nat_abs x` as an unknown number: sizes of sums, differences, products and
-- quotients. Assumes nothing.
use Prim.Native.Nat.{ℕ, zero, suc, ◌+◌, ◌-◌, ◌*◌, ◌/◌, ◌≤◌, ◌<◌}
use mathlib.Core.Path.{◌≡◌, refl}
use mathlib.Core.Bool.{Bool, true, false, cond}
use native.Mathlib.Omega.{arith}
use native.Mathlib.Nat.{div-le_self}
use lib.Dec.{ltb}
use lib.IntN.{ℤ, pos, negsuc, ◌+ℤ◌, ◌-ℤ◌, ◌*ℤ◌, neg_ℤ, nat_abs}
use lib.Signed.{quot_z}
use borrow.Author.Tests.{ltb-true}

-- ---- of sums, differences, products, quotients

pub nat_abs-neg : (a : ℤ) → nat_abs (neg_ℤ a) ≡ nat_abs a
nat_abs-neg (pos zero) = refl
nat_abs-neg (pos (suc n)) = refl
nat_abs-neg (negsuc n) = refl

pub nat_abs_mul : (a b : ℤ) → nat_abs (a *ℤ b) ≡ nat_abs a * nat_abs b
nat_abs_mul (pos a) (pos b) = refl
nat_abs_mul (pos a) (negsuc b) = nat_abs-neg (pos (a * suc b))
nat_abs_mul (negsuc a) (pos b) = nat_abs-neg (pos (suc a * b))
nat_abs_mul (negsuc a) (negsuc b) = refl

difference-le : (t : Bool) (a b : ℕ) → ltb a b ≡ t → nat_abs (cond t (negsuc (b - suc a)) (pos (a - b))) ≤ a + b
difference-le true a b e = let h : a < b = ltb-true a b e in omega arith
difference-le false a b e = omega arith

pub nat_abs-add : (a b : ℤ) → nat_abs (a +ℤ b) ≤ nat_abs a + nat_abs b
nat_abs-add (pos a) (pos b) = omega arith
nat_abs-add (pos a) (negsuc b) = difference-le (ltb a (suc b)) a (suc b) refl
nat_abs-add (negsuc a) (pos b) = let h = difference-le (ltb b (suc a)) b (suc a) refl in omega arith
nat_abs-add (negsuc a) (negsuc b) = omega arith

pub nat_abs-sub : (a b : ℤ) → nat_abs (a -ℤ b) ≤ nat_abs a + nat_abs b
nat_abs-sub a b = let h = nat_abs-add a (neg_ℤ b) in let k = nat_abs-neg b in omega arith

pub nat_abs-quot : (a b : ℤ) → nat_abs (quot_z a b) ≤ nat_abs a
nat_abs-quot (pos a) (pos b) = div-le_self a b
nat_abs-quot (pos a) (negsuc b) = let e = nat_abs-neg (pos (a / suc b)) in let h = div-le_self a (suc b) in omega arith
nat_abs-quot (negsuc a) (pos b) = let e = nat_abs-neg (pos (suc a / b)) in let h = div-le_self (suc a) b in omega arith
nat_abs-quot (negsuc a) (negsuc b) = div-le_self (suc a) (suc b)
