-- A point's number in its box and the point of a number: each undoes the other. Assumes nothing.
use mathlib.Core.Path.{◌≡◌, refl, ap, ◌∙◌}
use Prim.Native.Nat.{ℕ, zero, suc, ◌+◌, ◌*◌, ◌/◌, ◌%◌, ◌≤◌, ◌<◌}
use native.Mathlib.Nat.{suc-mul, mul-pos, mul-le-mul_right, mod-lt, div-add-mod', div-lt_iff_lt-mul, div-eq_of_lt, mod-eq_of_lt, mul-add-div_right, mul-add-mod_self_right, add-zero}
use native.Mathlib.Omega.{arith}
use mathlib.Core.Bool.{true, false, ◌&&◌}
use mathlib.Core.List.{List, [], ◌∷◌}
use lib.ListN.{length, get_or}
use lib.IntN.{ℤ, pos, negsuc, nat_abs, neg_ℤ, ◌-ℤ◌}
use lib.Signed.{le_z}
use borrow.Author.Tests.{leb-true}
use Rattle.alpha.specs.Sheet.{Range, Point}
use Rattle.alpha.specs.Box.{within, side, size, in_box, index, point_at}
use Rattle.laws.specs.Box.{ordered, read_range, read_box}
use Rattle.laws.proofs.Tests.{&&-left, &&-right, &&-true, true-not-false}
use Rattle.laws.proofs.Order.{le_z-trans, above-less, within-among, above_within}

-- ---- points

pub size-pos : (rs : List Range) → 0 < size rs
size-pos [] = omega arith
size-pos (r ∷ rs) = mul-pos {m = side r} (omega arith) (size-pos rs)

-- k rows of n, and j < n more, are within s rows where k < s
row_fits : (k s j n : ℕ) → k < s → j < n → k * n + j < s * n
row_fits k s j n h l = omega (arith, suc-mul k n, mul-le-mul_right n h)

pub index-low : (rs : List Range) (z : Point) → in_box rs z ≡ true → index rs z < size rs
index-low [] [] h = omega arith
index-low [] (x ∷ z) h = true-not-false {b = false} h refl
index-low (r ∷ rs) [] h = true-not-false {b = false} h refl
index-low (r ∷ rs) (x ∷ z) h =
    let a = within-among r x (&&-left (within r.lo r.hi x) (in_box rs z) h) in
    row_fits (nat_abs (x -ℤ r.lo)) (side r) (index rs z) (size rs) a.small (index-low rs z (&&-right (within r.lo r.hi x) (in_box rs z) h))

pub index-point_at : (rs : List Range) (i : ℕ) → i < size rs → index rs (point_at rs i) ≡ i
index-point_at [] i h = omega arith
index-point_at (r ∷ rs) i h =
    rw (above-less r.lo (i / size rs), index-point_at rs (i % size rs) (mod-lt i (size-pos rs))) (div-add-mod' i (size rs))

pub point_at-index : (rs : List Range) (z : Point) → in_box rs z ≡ true → point_at rs (index rs z) ≡ z
point_at-index [] [] h = refl
point_at-index [] (x ∷ z) h = true-not-false {b = false} h refl
point_at-index (r ∷ rs) [] h = true-not-false {b = false} h refl
point_at-index (r ∷ rs) (x ∷ z) h =
    let a = within-among r x (&&-left (within r.lo r.hi x) (in_box rs z) h) in
    let t = &&-right (within r.lo r.hi x) (in_box rs z) h in
    let k = nat_abs (x -ℤ r.lo) in
    let l = index-low rs z t in
    let q : (k * size rs + index rs z) / size rs ≡ k = mul-add-div_right (size-pos rs) k (index rs z) ∙ rw (div-eq_of_lt l) (add-zero k) in
    let m : (k * size rs + index rs z) % size rs ≡ index rs z = mul-add-mod_self_right k (size rs) (index rs z) ∙ mod-eq_of_lt l in
    rw (q, m, point_at-index rs z t, ← a.is) refl

pub point_at-in_box : (rs : List Range) (i : ℕ) → ordered rs ≡ true → i < size rs → in_box rs (point_at rs i) ≡ true
point_at-in_box [] i o h = refl
point_at-in_box (r ∷ rs) i o h =
    &&-true
    (above_within r (i / size rs) (&&-left (le_z r.lo r.hi) (ordered rs) o) ((div-lt_iff_lt-mul (size-pos rs)).1 h))
    (point_at-in_box rs (i % size rs) (&&-right (le_z r.lo r.hi) (ordered rs) o) (mod-lt i (size-pos rs)))

pub length-point_at : (rs : List Range) (i : ℕ) → length (point_at rs i) ≡ length rs
length-point_at [] i = refl
length-point_at (r ∷ rs) i = ap suc (length-point_at rs (i % size rs))

pub in_box-length : (rs : List Range) (z : Point) → in_box rs z ≡ true → length z ≡ length rs
in_box-length [] [] h = refl
in_box-length [] (x ∷ z) h = true-not-false {b = false} h refl
in_box-length (r ∷ rs) [] h = true-not-false {b = false} h refl
in_box-length (r ∷ rs) (x ∷ z) h = ap suc (in_box-length rs z (&&-right (within r.lo r.hi x) (in_box rs z) h))

-- ---- boxes as they are read

module _ (r : Range) (h : read_range r ≡ true) where
  range-low : le_z (neg_ℤ (pos 32768)) r.lo ≡ true
  range-low =
      &&-left (le_z (neg_ℤ (pos 32768)) r.lo) (le_z r.lo r.hi) (&&-left (le_z (neg_ℤ (pos 32768)) r.lo && le_z r.lo r.hi) (le_z r.hi (pos 32767)) h)

  range-ordered : le_z r.lo r.hi ≡ true
  range-ordered =
      &&-right (le_z (neg_ℤ (pos 32768)) r.lo) (le_z r.lo r.hi) (&&-left (le_z (neg_ℤ (pos 32768)) r.lo && le_z r.lo r.hi) (le_z r.hi (pos 32767)) h)

  range-high : le_z r.hi (pos 32767) ≡ true
  range-high = &&-right (le_z (neg_ℤ (pos 32768)) r.lo && le_z r.lo r.hi) (le_z r.hi (pos 32767)) h

pub read_box-ordered : (rs : List Range) → read_box rs ≡ true → ordered rs ≡ true
read_box-ordered [] h = refl
read_box-ordered (r ∷ rs) h =
    &&-true (range-ordered r (&&-left (read_range r) (read_box rs) h)) (read_box-ordered rs (&&-right (read_range r) (read_box rs) h))

-- from -32768 to 32767
pub size-bound : (x : ℤ) → le_z (neg_ℤ (pos 32768)) x ≡ true → le_z x (pos 32767) ≡ true → nat_abs x ≤ 32768
size-bound (pos n) h k = omega (arith, leb-true n 32767 k)
size-bound (negsuc n) h k = omega (arith, leb-true n 32767 h)

-- a point of such a box has coordinates of size up to 32768
pub in_box-small : (rs : List Range) (z : Point) (i : ℕ) → read_box rs ≡ true → in_box rs z ≡ true → nat_abs (get_or z i (pos 0)) ≤ 32768
in_box-small [] [] i h b = omega arith
in_box-small [] (x ∷ z) i h b = true-not-false {b = false} b refl
in_box-small (r ∷ rs) [] i h b = true-not-false {b = false} b refl
in_box-small (r ∷ rs) (x ∷ z) zero h b =
    let f = &&-left (read_range r) (read_box rs) h in
    let w = &&-left (within r.lo r.hi x) (in_box rs z) b in
    size-bound x
    (le_z-trans (neg_ℤ (pos 32768)) r.lo x (range-low r f) (&&-left (le_z r.lo x) (le_z x r.hi) w))
    (le_z-trans x r.hi (pos 32767) (&&-right (le_z r.lo x) (le_z x r.hi) w) (range-high r f))
in_box-small (r ∷ rs) (x ∷ z) (suc i) h b =
    in_box-small rs z i (&&-right (read_range r) (read_box rs) h) (&&-right (within r.lo r.hi x) (in_box rs z) b)
