-- The ranges of a box: each of them, that its numbers are small, and those of a record. Assumes nothing.
use mathlib.Core.Path.{◌≡◌}
use Prim.Native.Nat.{ℕ, ◌+◌, ◌*◌, ◌≤◌, ◌<◌}
use native.Mathlib.Omega.{arith}
use mathlib.Core.Bool.{true}
use mathlib.Core.List.{List}
use lib.IntN.{ℤ, pos, neg_ℤ, nat_abs}
use Rattle.alpha.specs.Field.{field}
use Rattle.alpha.specs.Box.{within, size}
use Rattle.laws.proofs.Order.{le_z-trans}
use Rattle.laws.proofs.Boxes.{size-bound}
use Rattle.integer.proofs.Order.{within-true}
use Rattle.sheet.specs.Record.{dimension_at, Ranges, Recorded}
use Rattle.sheet.proofs.Boxes.{low-size}
use Rattle.points.specs.Number.{box_of, Boxed}

-- the range after k others
pub ranges-at : (bs : List ℕ) (p n k : ℕ) → k < n → Ranges bs p n → Ranges bs (p + 16 * k) 1
ranges-at bs p n k l h =
    record {
      there = omega (arith, h.there);
      low = λ i j. rw (place i j) (h.low k l);
      high = λ i j. rw (place i j) (h.high k l);
    }
  where
    place : (i : ℕ) → i < 1 → p + 16 * k + 16 * i ≡ p + 16 * k
    place i j = omega arith

-- a number of the first is small
pub within-small : (bs : List ℕ) (p : ℕ) → Ranges bs p 1 → (x : ℤ) → within (field bs p) (field bs (p + 8)) x ≡ true → nat_abs x ≤ 32768
within-small bs p h x e =
    let here : p + 16 * 0 ≡ p = omega arith in
    let low = within-true (neg_ℤ (pos 32768)) (pos 32767) (field bs p) (rw here at (h.low 0 (omega arith))) in
    let high = within-true (field bs p) (pos 32767) (field bs (p + 8)) (rw here at (h.high 0 (omega arith))) in
    let inside = within-true (field bs p) (field bs (p + 8)) x e in
    size-bound x
    (le_z-trans (neg_ℤ (pos 32768)) (field bs p) x low.0 inside.0)
    (le_z-trans x (field bs (p + 8)) (pos 32767) inside.1 high.1)

-- so is its least number
pub least-small : (bs : List ℕ) (p : ℕ) → Ranges bs p 1 → nat_abs (field bs p) ≤ 32768
least-small bs p h = let here : p + 16 * 0 ≡ p = omega arith in low-size (field bs p) (rw here at (h.low 0 (omega arith)))

-- the box of a record that stands there
pub record-boxed : {bs : List ℕ} {p : ℕ} → Recorded bs p → size (box_of bs p) ≤ 4096 → Boxed bs (p + 32) (dimension_at bs p)
record-boxed h small = record { few = h.small; ranges = h.ranges; small = small }
