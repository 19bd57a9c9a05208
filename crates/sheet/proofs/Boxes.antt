-- Boxes as they are read: the ranges that stand where a reader passed, the sizes of their numbers, and the number of points, which is
-- multiplied up range by range and stopped over 4,096. Assumes nothing.
use mathlib.Core.Path.{◌≡◌, sym, ap, ◌∙◌}
use mathlib.Core.Bool.{true}
use mathlib.Core.List.{List, [], ◌∷◌}
use Prim.Native.Nat.{ℕ, zero, suc, ◌+◌, ◌-◌, ◌*◌, ◌≤◌, ◌<◌}
use native.Mathlib.Omega.{arith}
use native.Mathlib.Nat.{mul_assoc, mul-one, le-mul_of_pos_right}
use borrow.Author.Tests.{le-leb, lt-leb, leb-true}
use lib.ListN.{length}
use lib.IntN.{ℤ, pos, negsuc, neg_ℤ, nat_abs}
use Rattle.laws.proofs.Boxes.{size-pos, size-bound}
use Rattle.integer.proofs.Order.{within-true}
use Rattle.alpha.specs.Answer.{accepted, NUMBER}
use Rattle.alpha.specs.Field.{field}
use Rattle.alpha.specs.Box.{within, side, size}
use Rattle.alpha.specs.Read.{got, repeat, number, range}
use Rattle.sheet.specs.Place.{place_after}
use Rattle.sheet.specs.Record.{range_at, box_at, Ranges, capped}
use Rattle.sheet.proofs.Places.{after-gave, pure-after, passing-passed, passing-gives}
use Rattle.sheet.proofs.Readers.{any_next, next-accepted, range-place}

-- ---- the sizes of a range's numbers

pub low-size : (x : ℤ) → within (neg_ℤ (pos 32768)) (pos 32767) x ≡ true → nat_abs x ≤ 32768
low-size x e = let w = within-true (neg_ℤ (pos 32768)) (pos 32767) x e in size-bound x w.0 w.1

pub high-size : (lo hi : ℤ) → nat_abs lo ≤ 32768 → within lo (pos 32767) hi ≡ true → nat_abs hi ≤ 32768
high-size lo (pos n) k e = let h = leb-true n 32767 (within-true lo (pos 32767) (pos n) e).1 in omega arith
high-size (pos m) (negsuc n) k e = absurd (let z : ◌≡◌ {A = ℕ} 0 1 = cc in omega arith)
high-size (negsuc m) (negsuc n) k e = let h = leb-true n m (within-true (negsuc m) (pos 32767) (negsuc n) e).0 in omega arith

-- the numbers of a range that stands at p
pub first-sizes : (bs : List ℕ) (p : ℕ) → Ranges bs p 1 → (nat_abs (field bs p) ≤ 32768) × (nat_abs (field bs (p + 8)) ≤ 32768)
first-sizes bs p r =
    let e : p + 16 * 0 ≡ p = omega arith in
    let lo = low-size (field bs p) (rw e at (r.low 0 (omega arith))) in
    (lo, high-size (field bs p) (field bs (p + 8)) lo (rw e at (r.high 0 (omega arith))))

-- and their sum
pub ends_small : {bs : List ℕ} {p : ℕ} → Ranges bs p 1 → nat_abs (field bs (p + 8)) + nat_abs (field bs p) ≤ 65536
ends_small {bs} {p} h = omega (arith, first-sizes bs p h)

-- ---- ranges that were read

-- a range that was read
record RangeRead (bs : List ℕ) (p q : ℕ) : Type 0 where
  there : p + 16 ≤ length bs
  low : within (neg_ℤ (pos 32768)) (pos 32767) (field bs p) ≡ true
  high : within (field bs p) (pos 32767) (field bs (p + 8)) ≡ true
  gives : range bs p ≡ got (range_at bs p) q
  next : q ≡ p + 16

range-came : (bs : List ℕ) (p q : ℕ) → place_after (range bs p) ≡ accepted q → RangeRead bs p q
unfolding range
range-came bs p q e =
    let parts = next-accepted _ _ (sym (range-place bs p) ∙ e) in
    let first = passing-passed NUMBER (within (neg_ℤ (pos 32768)) (pos 32767)) bs p parts.0 parts.1 in
    let second = passing-passed NUMBER (within (field bs p) (pos 32767)) bs (p + 8) q (rw first.next at parts.2) in
    let lo = passing-gives NUMBER (within (neg_ℤ (pos 32768)) (pos 32767)) bs p first.there first.fine in
    let hi = passing-gives NUMBER (within (field bs p) (pos 32767)) bs (p + 8) second.there second.fine in
    let h = second.there in
    let k = second.next in
    record {
      there = omega arith;
      low = first.fine;
      high = second.fine;
      gives =
          after-gave (number (neg_ℤ (pos 32768)) (pos 32767) bs p) _ (field bs p) (p + 8) lo
          ∙ after-gave (number (field bs p) (pos 32767) bs (p + 8)) _ (field bs (p + 8)) (p + 8 + 8) hi
          ∙ ap (got (range_at bs p)) (sym k);
      next = omega arith;
    }

-- n ranges that were read
pub record RangesRead (bs : List ℕ) (p n q : ℕ) : Type 0 where
  pub ranges : Ranges bs p n
  pub gives : repeat n range bs p ≡ got (box_at bs p n) q
  pub next : q ≡ p + 16 * n

more-ranges : (bs : List ℕ) (p q n : ℕ) → RangeRead bs p q → Ranges bs q n → Ranges bs p (suc n)
more-ranges bs p q n one rest = record {
  there = let h = rest.there in let k = one.next in omega arith;
  low = λ i h. low i h;
  high = λ i h. high i h;
}
  where
    at : (i : ℕ) → q + 16 * i ≡ p + 16 * suc i
    at i = let k = one.next in omega arith

    low : (i : ℕ) → i < suc n → within (neg_ℤ (pos 32768)) (pos 32767) (field bs (p + 16 * i)) ≡ true
    low zero h = let e : p + 16 * 0 ≡ p = omega arith in rw e one.low
    low (suc i) h = rw (at i) at (rest.low i (omega arith))

    high : (i : ℕ) → i < suc n → within (field bs (p + 16 * i)) (pos 32767) (field bs (p + 16 * i + 8)) ≡ true
    high zero h = let e : p + 16 * 0 ≡ p = omega arith in rw e one.high
    high (suc i) h = rw (at i) at (rest.high i (omega arith))

pub ranges-came : (bs : List ℕ) (n p q : ℕ) → p ≤ length bs → place_after (repeat n range bs p) ≡ accepted q → RangesRead bs p n q
unfolding box_at
ranges-came bs zero p q h e =
    let same : p ≡ q = cc in
    record {
      ranges = record { there = omega arith; low = λ i k. absurd (omega arith); high = λ i k. absurd (omega arith) };
      gives = ap (got []) same;
      next = omega arith;
    }
ranges-came bs (suc n) p q h e =
    let flat = any_next (range bs p) _ (λ t. place_after (repeat n range bs t)) (λ a t. pure-after (repeat n range bs t) (λ l. a ∷ l)) in
    let parts = next-accepted _ _ (sym flat ∙ e) in
    let one = range-came bs p parts.0 parts.1 in
    let room = one.there in
    let on = one.next in
    let rest = ranges-came bs n parts.0 q (omega arith) parts.2 in
    let k = rest.next in
    record {
      ranges = more-ranges bs p parts.0 n one rest.ranges;
      gives =
          after-gave (range bs p) _ (range_at bs p) parts.0 one.gives
          ∙ after-gave (repeat n range bs parts.0) _ (box_at bs parts.0 n) q rest.gives
          ∙ ap (λ (t : ℕ). got (range_at bs p ∷ box_at bs t n) q) on;
      next = omega arith;
    }

-- the ranges after the first
pub ranges-rest : (bs : List ℕ) (p n : ℕ) → 0 < n → Ranges bs p n → Ranges bs (p + 16) (n - 1)
ranges-rest bs p n h r = record {
  there = let t = r.there in omega arith;
  low = λ i k. rw (at i) (r.low (i + 1) (omega arith));
  high = λ i k. rw (at i) (r.high (i + 1) (omega arith));
}
  where
    at : (i : ℕ) → p + 16 + 16 * i ≡ p + 16 * (i + 1)
    at i = omega arith

-- the first of them
pub ranges-first : (bs : List ℕ) (p n : ℕ) → 0 < n → Ranges bs p n → Ranges bs p 1
ranges-first bs p n h r = record {
  there = let t = r.there in omega arith;
  low = λ i k. r.low i (omega arith);
  high = λ i k. r.high i (omega arith);
}

-- the i-th of them
pub ranges-nth : (bs : List ℕ) (p n i : ℕ) → i < n → Ranges bs p n → Ranges bs (p + 16 * i) 1
ranges-nth bs p n i h r = record {
  there = let t = r.there in omega arith;
  low = λ j k. rw (same j k) (r.low i h);
  high = λ j k. rw (same j k) (r.high i h);
}
  where
    same : (j : ℕ) → j < 1 → p + 16 * i + 16 * j ≡ p + 16 * i
    same j k = omega arith

-- ---- the number of points

box-size : (bs : List ℕ) (p n : ℕ) → 0 < n → size (box_at bs p n) ≡ side (range_at bs p) * size (box_at bs (p + 16) (n - 1))
unfolding box_at
box-size bs p zero h = absurd (omega arith)
box-size bs p (suc n) h = let e : suc n - 1 ≡ n = omega arith in rw e

-- the product so far, of the first i ranges, times the points of the ranges left is the number of points
pub record Product (bs : List ℕ) (at n i product : ℕ) : Type 0 where
  pub times : product * size (box_at bs (at + 16 * i) (n - i)) ≡ size (box_at bs at n)
  pub small : product ≤ 4096

module _ {bs : List ℕ} {at n i product : ℕ} (inv : Product bs at n i product) where
  pub product-done : n ≤ i → product ≡ capped (size (box_at bs at n))
  unfolding box_at capped
  product-done e =
      let none : n - i ≡ 0 = omega arith in
      let all : product ≡ size (box_at bs at n) = sym (mul-one product) ∙ rw none at inv.times in
      let few = inv.small in
      rw (← all, le-leb product 4096 few)

  module _ (h : i < n) {r : ℕ} (is : r ≡ side (range_at bs (at + 16 * i))) where
    stepped : product * r * size (box_at bs (at + 16 * (i + 1)) (n - (i + 1))) ≡ size (box_at bs at n)
    stepped =
        let p : at + 16 * (i + 1) ≡ at + 16 * i + 16 = omega arith in
        let k : n - (i + 1) ≡ n - i - 1 = omega arith in
        rw (p, k)
        (mul_assoc product r (size (box_at bs (at + 16 * i + 16) (n - i - 1)))
        ∙ ap (λ (x : ℕ). product * (x * size (box_at bs (at + 16 * i + 16) (n - i - 1)))) is
        ∙ ap (λ (x : ℕ). product * x) (sym (box-size bs (at + 16 * i) (n - i) (omega arith)))
        ∙ inv.times)

    pub product-over : 4096 < product * r → 4097 ≡ capped (size (box_at bs at n))
    unfolding capped
    product-over over =
        let more = le-mul_of_pos_right (product * r) (size-pos (box_at bs (at + 16 * (i + 1)) (n - (i + 1)))) in
        let all = stepped in
        sym (rw (lt-leb (size (box_at bs at n)) 4096 (omega arith)))

    pub product-more : product * r ≤ 4096 → Product bs at n (i + 1) (product * r)
    product-more few = record { times = stepped; small = few }
