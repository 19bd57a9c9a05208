-- The number of a point, coordinate by coordinate. Assumes nothing.
use Rattle.std.specs.Prelude.{Option, Some, None}
use mathlib.Core.Path.{◌≡◌, refl, sym, ap, ◌∙◌}
use Prim.Native.Nat.{ℕ, zero, suc, ◌+◌, ◌*◌, ◌-◌, ◌≤◌, ◌<◌}
use native.Mathlib.Nat.{add-mul, mul_assoc, add_assoc, mul-one, mul-le-mul_left, mul-le-mul_right, add-zero}
use native.Mathlib.Numerals.{sub-one}
use native.Mathlib.Omega.{arith}
use mathlib.Core.Bool.{Bool, true, false}
use mathlib.Core.List.{List, [], ◌∷◌}
use lib.IntN.{ℤ, pos, nat_abs, ◌-ℤ◌}
use Rattle.alpha.specs.Pick.{ifb}
use Rattle.alpha.specs.Sheet.{Range, Point}
use Rattle.alpha.specs.Box.{within, side, size, in_box, index}
use Rattle.affine.specs.Value.{several, at, point_of}
use Rattle.affine.proofs.Several.{several-same}
use Rattle.sheet.specs.Record.{range_at, box_at, Ranges}
use Rattle.sheet.proofs.Boxes.{ranges-first, ranges-rest}
use Rattle.laws.proofs.Order.{within-among}
use Rattle.laws.proofs.Boxes.{size-pos}
use Rattle.points.specs.Number.{digit_in, number_from, number_in, Boxed}

-- e rows of w boxes of n points, d boxes more and i points more, counted in boxes first
pub horner : (e w d n i : ℕ) → e * (w * n) + (d * n + i) ≡ (e * w + d) * n + i
horner e w d n i = rw (← mul_assoc e w n, ← add_assoc (e * w * n) (d * n) i, ← add-mul (e * w) d n) refl

module _ (e : ℕ) (r : Range) (rs : List Range) (x : ℤ) (z : Point) where
  pub number_from-in : within r.lo r.hi x ≡ true → number_from e (r ∷ rs) (x ∷ z) ≡ number_from (e * side r + nat_abs (x -ℤ r.lo)) rs z
  number_from-in h = rw h (go (in_box rs z))
    where
      go : (b : Bool) → ifb b (λ _. Some (e * (side r * size rs) + (nat_abs (x -ℤ r.lo) * size rs + index rs z))) (λ _. None)
          ≡ ifb b (λ _. Some ((e * side r + nat_abs (x -ℤ r.lo)) * size rs + index rs z)) (λ _. None)
      go true = ap Some (horner e (side r) (nat_abs (x -ℤ r.lo)) (size rs) (index rs z))
      go false = refl

  pub number_from-off : within r.lo r.hi x ≡ false → number_from e (r ∷ rs) (x ∷ z) ≡ None
  number_from-off h = rw h refl

pub number_from-none : (box : List Range) (z : Point) → number_from 0 box z ≡ number_in box z
number_from-none box z = go (in_box box z)
  where
    go : (b : Bool) → ifb b (λ _. Some (0 * size box + index box z)) (λ _. None) ≡ ifb b (λ _. Some (index box z)) (λ _. None)
    go true = ap Some (omega arith)
    go false = refl

pub number_from-end : (e : ℕ) → number_from e [] [] ≡ Some e
number_from-end e = ap Some (omega arith)

-- ---- the coordinates of z from the i-th on

abbrev pub from : List ℤ → ℕ → ℕ → Point
from z i n = several n (λ k. at z (i + k))

pub from-first : (z : List ℤ) (n : ℕ) → from z 0 n ≡ point_of n z
from-first z n = several-same n (λ k. at z (0 + k)) (at z) (λ k l. ap (at z) (omega arith))

pub from-next : (z : List ℤ) (i n : ℕ) → from z i (suc n) ≡ at z i ∷ from z (i + 1) n
from-next z i n =
    ap (λ k. at z k ∷ several n (λ k. at z (i + suc k))) (add-zero i)
    ∙ ap (λ l. at z i ∷ l) (several-same n (λ k. at z (i + suc k)) (λ k. at z (i + 1 + k)) (λ k l. ap (at z) (omega arith)))

-- ---- a turn of the loop: one coordinate more

module _ (bs : List ℕ) (p e n : ℕ) (x : ℤ) (z : Point) where
  step_in : (i : ℕ) → digit_in (range_at bs p) x ≡ Some i →
      number_from e (box_at bs p (suc n)) (x ∷ z) ≡ number_from (e * side (range_at bs p) + i) (box_at bs (p + 16) n) z
  unfolding box_at
  step_in i h = go (within (range_at bs p).lo (range_at bs p).hi x) refl h
    where
      go : (b : Bool) → within (range_at bs p).lo (range_at bs p).hi x ≡ b → ifb b (λ _. Some (nat_abs (x -ℤ (range_at bs p).lo))) (λ _. None) ≡ Some i →
          number_from e (range_at bs p ∷ box_at bs (p + 16) n) (x ∷ z) ≡ number_from (e * side (range_at bs p) + i) (box_at bs (p + 16) n) z
      go true w q =
          let d : nat_abs (x -ℤ (range_at bs p).lo) ≡ i = cc in rw (number_from-in e (range_at bs p) (box_at bs (p + 16) n) x z w, d) refl
      go false w q = absurd (let o : ◌≡◌ {A = ℕ} 0 1 = cc in omega arith)

  step-off : digit_in (range_at bs p) x ≡ None → number_from e (box_at bs p (suc n)) (x ∷ z) ≡ None
  unfolding box_at
  step-off h = go (within (range_at bs p).lo (range_at bs p).hi x) refl h
    where
      go : (b : Bool) → within (range_at bs p).lo (range_at bs p).hi x ≡ b → ifb b (λ _. Some (nat_abs (x -ℤ (range_at bs p).lo))) (λ _. None) ≡ None →
          number_from e (range_at bs p ∷ box_at bs (p + 16) n) (x ∷ z) ≡ None
      go true w q = absurd (let o : ◌≡◌ {A = ℕ} 0 1 = cc in omega arith)
      go false w q = number_from-off e (range_at bs p) (box_at bs (p + 16) n) x z w

-- a digit is below the width
pub digit_low : (r : Range) (x : ℤ) (i : ℕ) → digit_in r x ≡ Some i → i < side r
digit_low r x i h = go (within r.lo r.hi x) refl h
  where
    go : (b : Bool) → within r.lo r.hi x ≡ b → ifb b (λ _. Some (nat_abs (x -ℤ r.lo))) (λ _. None) ≡ Some i → i < side r
    go true w q = let d : nat_abs (x -ℤ r.lo) ≡ i = cc in omega (arith, d, (within-among r x w).small)
    go false w q = absurd (let o : ◌≡◌ {A = ℕ} 0 1 = cc in omega arith)

-- what the loop keeps at coordinate i of z, where n are left: the number from here is the number asked for, it stays below 4,096, and
-- the ranges are there
pub record Kept (bs : List ℕ) (asked : Option ℕ) (z : List ℤ) (p e i n : ℕ) : Type 0 where
  pub number : number_from e (box_at bs p n) (from z i n) ≡ asked
  pub low : (e + 1) * size (box_at bs p n) ≤ 4096
  pub ranges : Ranges bs p n

pub kept_start : {bs : List ℕ} {p n : ℕ} (z : List ℤ) → Boxed bs p n → Kept bs (number_in (box_at bs p n) (point_of n z)) z (p + 16 * 0) 0 0 n
kept_start {bs} {p} {n} z h =
    let here : p + 16 * 0 ≡ p = omega arith in
    rw here (record {
      number = ap (number_from 0 (box_at bs p n)) (from-first z n) ∙ number_from-none (box_at bs p n) (point_of n z);
      low = omega (arith, h.small);
      ranges = h.ranges;
    })

module _ {bs : List ℕ} {asked : Option ℕ} {z : List ℤ} {p e i : ℕ} where
  pub kept_low : (n : ℕ) → Kept bs asked z p e i n → e < 4096
  kept_low n h = omega (arith, mul-le-mul_left (e + 1) (size-pos (box_at bs p n)), mul-one (e + 1), h.low)

  pub kept-end : (n : ℕ) → n ≡ 0 → Kept bs asked z p e i n → Some e ≡ asked
  unfolding box_at
  kept-end n zeroed h = sym (number_from-end e) ∙ rw zeroed at h.number

  pub kept_off : (n : ℕ) → 0 < n → Kept bs asked z p e i n → digit_in (range_at bs p) (at z i) ≡ None → None ≡ asked
  kept_off zero l h d = absurd (omega arith)
  kept_off (suc n) l h d =
      sym (ap (number_from e (box_at bs p (suc n))) (from-next z i n) ∙ step-off bs p e n (at z i) (from z (i + 1) n) d) ∙ h.number

  pub kept-head : (n : ℕ) → 0 < n → Kept bs asked z p e i n → Ranges bs p 1
  kept-head n l h = ranges-first bs p n l h.ranges

  more : (n d : ℕ) → Kept bs asked z p e i (suc n) → digit_in (range_at bs p) (at z i) ≡ Some d →
      Kept bs asked z (p + 16) (e * side (range_at bs p) + d) (i + 1) n
  unfolding box_at
  more n d h is =
      let w = side (range_at bs p) in
      let rest = size (box_at bs (p + 16) n) in
      let d-low : e * w + d + 1 ≤ (e + 1) * w = omega (arith, add-mul e 1 w, digit_low (range_at bs p) (at z i) d is) in
      record {
        number =
            sym (step_in bs p e n (at z i) (from z (i + 1) n) d is)
            ∙ ap (number_from e (box_at bs p (suc n))) (sym (from-next z i n))
            ∙ h.number;
        low = omega (arith, mul-le-mul_right rest d-low, mul_assoc (e + 1) w rest, h.low);
        ranges = rw (sub-one (suc n)) at (ranges-rest bs p (suc n) (omega arith) h.ranges);
      }

  pub kept_more : (n d : ℕ) → 0 < n → Kept bs asked z p e i n → digit_in (range_at bs p) (at z i) ≡ Some d →
      Kept bs asked z (p + 16) (e * side (range_at bs p) + d) (i + 1) (n - 1)
  kept_more zero d l h is = absurd (omega arith)
  kept_more (suc n) d l h is = rw (sub-one (suc n)) (more n d h is)
