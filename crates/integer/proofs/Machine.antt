-- What the machine makes of signed numbers whose sizes are bounded is their exact sum and product. Assumes nothing.
use Prim.Native.Nat.{◌+◌, ◌*◌, ◌^◌, ◌≤◌, ◌<◌}
use mathlib.Core.Path.{◌≡◌, refl}
use native.Mathlib.Omega.{arith}
use lib.IntN.{ℤ, ◌+ℤ◌, ◌-ℤ◌, ◌*ℤ◌, nat_abs}
use mir.Syntax.{w64}
use mir.Val.{to_z, of_z, SFits}
use Rattle.std.proofs.lemmas.Int.{to_z-of_z}
use Rattle.laws.proofs.Sizes.{nat_abs_mul, nat_abs-add}
use Rattle.integer.specs.Range.{In32}
use Rattle.integer.proofs.Sizes.{sum_fits, sub-fits, size_fits}

-- c * p + s
pub step_is :
    (c p s : ℤ) → SFits w64 c → SFits w64 p → SFits w64 s → nat_abs c * nat_abs p + nat_abs s < 2 ^ 63 →
    (to_z w64 (of_z w64 (to_z w64 (of_z w64 (to_z w64 (of_z w64 c) *ℤ to_z w64 (of_z w64 p))) +ℤ to_z w64 (of_z w64 s))) ≡ c *ℤ p +ℤ s)
    × (nat_abs (to_z w64 (of_z w64 (to_z w64 (of_z w64 (to_z w64 (of_z w64 c) *ℤ to_z w64 (of_z w64 p))) +ℤ to_z w64 (of_z w64 s)))) ≤ nat_abs c * nat_abs p + nat_abs s)
step_is c p s fc fp fs h =
    let size = nat_abs_mul c p in
    let sum = nat_abs-add (c *ℤ p) s in
    let product : SFits w64 (c *ℤ p) = size_fits (c *ℤ p) (omega arith) in
    let total : SFits w64 (c *ℤ p +ℤ s) = size_fits (c *ℤ p +ℤ s) (omega arith) in
    rw (to_z-of_z w64 c fc, to_z-of_z w64 p fp, to_z-of_z w64 s fs, to_z-of_z w64 (c *ℤ p) product, to_z-of_z w64 (c *ℤ p +ℤ s) total)
    (refl, omega arith)

-- a + b
module _ (a b : ℤ) (fa : SFits w64 a) (fb : SFits w64 b) (h : nat_abs a + nat_abs b < 2 ^ 63) where
  pub sum_is : to_z w64 (of_z w64 (to_z w64 (of_z w64 a) +ℤ to_z w64 (of_z w64 b))) ≡ a +ℤ b
  sum_is = rw (to_z-of_z w64 a fa, to_z-of_z w64 b fb, to_z-of_z w64 (a +ℤ b) (sum_fits a b h))

  -- a - b
  pub difference-held : SFits w64 (to_z w64 (of_z w64 a) -ℤ to_z w64 (of_z w64 b))
  difference-held = rw (to_z-of_z w64 a fa, to_z-of_z w64 b fb) (sub-fits a b h)

  pub difference_is : to_z w64 (of_z w64 (to_z w64 (of_z w64 a) -ℤ to_z w64 (of_z w64 b))) ≡ a -ℤ b
  difference_is = rw (to_z-of_z w64 a fa, to_z-of_z w64 b fb, to_z-of_z w64 (a -ℤ b) (sub-fits a b h))

-- a number in the 32-bit range
module _ (x : ℤ) (h : In32 x) where
  pub small-same : to_z w64 (of_z w64 x) ≡ x
  small-same = to_z-of_z w64 x (record { sfits = omega arith })

  pub small_held : In32 (to_z w64 (of_z w64 x))
  small_held = rw small-same h
