-- Two's complement: what the machine reads from bits (`to_z`, `of_z`) is what the definitions of crate alpha say (`signed_of`, `value4`).
-- A signed local of the code holds bits, so its facts speak of `to_z w64 (of_z w64 x)`. Assumes nothing.
use Prim.Native.Nat.{ℕ, zero, suc, ◌-◌, ◌^◌, ◌<◌}
use mathlib.Core.Path.{◌≡◌, refl, sym, ap, ◌∙◌}
use mathlib.Core.Bool.{Bool, true, false}
use native.Mathlib.Omega.{arith}
use lib.Dec.{ltb, eqb}
use lib.IntN.{ℤ, pos, negsuc, nat_abs, ◌-ℤ◌}
use lib.Signed.{mag, lt_z}
use mir.Syntax.{w32, w64}
use mir.Val.{to_z, of_z, sel, SFits}
use mir.Facts.{to_z-of_z, to_z_pos}
use borrow.Author.Tests.{ltb-true, eqb-true, eq-eqb, ne_eqb}
use Rattle.alpha.specs.Pick.{ifb}
use Rattle.alpha.specs.Field.{signed_of}
use Rattle.alpha.specs.Affine.{is_zero}
use Rattle.alpha.specs.Program.{value4}
use Rattle.integer.proofs.Order.{both_ways, same-is_zero, is_zero-same}

-- ---- bits read as a number

pub to_z-signed_of : (w : ℕ) → to_z w64 w ≡ signed_of w
to_z-signed_of w = by (ltb w 9223372036854775808)
  where
    e : 18446744073709551616 - suc w ≡ 18446744073709551615 - w
    e = omega arith

    by : (t : Bool) → sel t (pos w) (negsuc (18446744073709551616 - suc w)) ≡ ifb t (λ _. pos w) (λ _. negsuc (18446744073709551615 - w))
    by true = refl
    by false = ap negsuc e

pub to_z-value4 : (w : ℕ) → to_z w32 w ≡ value4 w
to_z-value4 w = by (ltb w 2147483648)
  where
    e : 4294967296 - suc w ≡ 4294967295 - w
    e = omega arith

    by : (t : Bool) → sel t (pos w) (negsuc (4294967296 - suc w)) ≡ ifb t (λ _. pos w) (λ _. negsuc (4294967295 - w))
    by true = refl
    by false = ap negsuc e

-- ---- a number as bits. `f` is what every i64 has: it fits

-- the test that the code makes of a number below 0
below-zero : (x : ℤ) → SFits w64 x → (t : Bool) → lt_z (to_z w64 (of_z w64 x)) (pos 0) ≡ t → lt_z x (pos 0) ≡ t
below-zero x f t e = rw (to_z-of_z f) at e

pub flipped-negative : (x : ℤ) → SFits w64 x → lt_z (to_z w64 (of_z w64 x)) (pos 0) ≡ true → to_z w64 (18446744073709551615 - of_z w64 x) ≡ pos (mag x)
flipped-negative (pos n) f t = let h = ltb-true n 0 (below-zero (pos n) f true t) in absurd (omega arith)
flipped-negative (negsuc n) f t =
    let h : n < 2 ^ 63 = f.sfits in
    let e : 18446744073709551615 - (18446744073709551616 - suc n) ≡ n = omega arith in ap (to_z w64) e ∙ to_z_pos w64 h

-- the bits of a number that is not 0 are not 0
pub bits_positive : (x : ℤ) → SFits w64 x → 0 < nat_abs x → 0 < of_z w64 x
bits_positive (pos n) f h = h
bits_positive (negsuc n) f h = let k : n < 2 ^ 63 = f.sfits in omega arith

-- ---- tests on bits

pub bits-zero : (x : ℤ) → SFits w64 x → eqb (of_z w64 x) 0 ≡ is_zero x
bits-zero (pos zero) f = refl
bits-zero (pos (suc n)) f = ne_eqb (suc n) 0 (λ q. omega arith)
bits-zero (negsuc n) f = let k : n < 2 ^ 63 = f.sfits in ne_eqb (18446744073709551616 - suc n) 0 (λ q. omega arith)

pub bits-same : (a b : ℤ) → SFits w64 a → SFits w64 b → eqb (of_z w64 a) (of_z w64 b) ≡ is_zero (a -ℤ b)
bits-same a b f g =
    both_ways (eqb (of_z w64 a) (of_z w64 b)) (is_zero (a -ℤ b))
    (λ e. same-is_zero a b (sym (to_z-of_z f) ∙ ap (to_z w64) (eqb-true (of_z w64 a) (of_z w64 b) e) ∙ to_z-of_z g))
    (λ e. eq-eqb (of_z w64 a) (of_z w64 b) (ap (of_z w64) (is_zero-same a b e)))
