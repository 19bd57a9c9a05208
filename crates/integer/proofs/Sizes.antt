-- Which sums and products an i64 holds, by their sizes: for `omega`, which takes `nat_abs x` and `mag x` as unknown numbers.
-- Assumes nothing.
use Prim.Native.Nat.{◌+◌, ◌*◌, ◌^◌, ◌≤◌, ◌<◌}
use mathlib.Core.Path.{◌≡◌, refl}
use native.Mathlib.Omega.{arith}
use native.Mathlib.Nat.{mul-le-mul}
use lib.IntN.{ℤ, pos, negsuc, ◌+ℤ◌, ◌-ℤ◌, ◌*ℤ◌, nat_abs}
use lib.Signed.{mag, quot_z}
use mir.Syntax.{w64}
use mir.Val.{SFits}
use Rattle.laws.proofs.Sizes.{nat_abs_mul, nat_abs-add, nat_abs-sub, nat_abs-quot}
use Rattle.integer.specs.Range.{In32}

-- ---- a size and the bound of a signed width

pub mag-le-nat_abs : (x : ℤ) → mag x ≤ nat_abs x
mag-le-nat_abs (pos n) = omega arith
mag-le-nat_abs (negsuc n) = omega arith

pub nat_abs-le-mag : (x : ℤ) → nat_abs x ≤ mag x + 1
nat_abs-le-mag (pos n) = omega arith
nat_abs-le-mag (negsuc n) = omega arith

-- of numbers in the 32-bit range
pub in32-size : (x : ℤ) → In32 x → nat_abs x ≤ 2147483648
in32-size x h = let k = nat_abs-le-mag x in omega arith

pub in32-product : (a b : ℤ) → In32 a → In32 b → nat_abs a * nat_abs b < 2 ^ 63
in32-product a b h k = let m = mul-le-mul (in32-size a h) (in32-size b k) in omega arith

-- an i64 holds a number whose size is below 2^63, and so a sum, a difference, a product whose sizes give such a bound
pub size_fits : (x : ℤ) → nat_abs x < 2 ^ 63 → SFits w64 x
size_fits x h = record { sfits = let k = mag-le-nat_abs x in omega arith }

pub sum_fits : (a b : ℤ) → nat_abs a + nat_abs b < 2 ^ 63 → SFits w64 (a +ℤ b)
sum_fits a b h = size_fits (a +ℤ b) (let k = nat_abs-add a b in omega arith)

pub sub-fits : (a b : ℤ) → nat_abs a + nat_abs b < 2 ^ 63 → SFits w64 (a -ℤ b)
sub-fits a b h = size_fits (a -ℤ b) (let k = nat_abs-sub a b in omega arith)

pub prod-fits : (a b : ℤ) → nat_abs a * nat_abs b < 2 ^ 63 → SFits w64 (a *ℤ b)
prod-fits a b h = size_fits (a *ℤ b) (let k = nat_abs_mul a b in omega arith)

pub neg-fits : (a : ℤ) → nat_abs a < 2 ^ 63 → SFits w64 (pos 0 -ℤ a)
neg-fits a h = sub-fits (pos 0) a (let z : nat_abs (pos 0) ≡ 0 = refl in omega arith)

pub quot_fits : (a b : ℤ) → nat_abs a < 2 ^ 63 → SFits w64 (quot_z a b)
quot_fits a b h = size_fits (quot_z a b) (let k = nat_abs-quot a b in omega arith)

-- ---- an equation with what it says of sizes

pub sum-sized : (x a b : ℤ) → x ≡ a +ℤ b → (x ≡ a +ℤ b) × (nat_abs x ≤ nat_abs a + nat_abs b)
sum-sized x a b e = (e, rw e (nat_abs-add a b))

pub sub-sized : (x a b : ℤ) → x ≡ a -ℤ b → (x ≡ a -ℤ b) × (nat_abs x ≤ nat_abs a + nat_abs b)
sub-sized x a b e = (e, rw e (nat_abs-sub a b))

pub prod-sized : (x a b : ℤ) → x ≡ a *ℤ b → (x ≡ a *ℤ b) × (nat_abs x ≡ nat_abs a * nat_abs b)
prod-sized x a b e = (e, rw e (nat_abs_mul a b))
