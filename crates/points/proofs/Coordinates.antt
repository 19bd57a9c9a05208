-- The point of a number, coordinate by coordinate from the last to the first: what the loop of `point_in` keeps. Assumes nothing.
use mathlib.Core.Path.{◌≡◌, refl, sym, ap, ◌∙◌}
use Prim.Native.Nat.{ℕ, zero, suc, ◌+◌, ◌*◌, ◌-◌, ◌/◌, ◌%◌, ◌≤◌, ◌<◌}
use native.Mathlib.Nat.{mul-le-mul_right, mod-lt, div-le_self, div-add-mod'}
use native.Mathlib.Omega.{arith}
use mathlib.Core.List.{List, [], ◌∷◌}
use lib.Arith.{digits_lt, digits_div, digits_mod}
use lib.IntN.{ℤ, pos, ◌+ℤ◌}
use lib.ListN.{length, set, length-set}
use lib.Seq.{get_or-set_same, get_or-set_other}
use Rattle.alpha.specs.Field.{field}
use Rattle.alpha.specs.Sheet.{Range}
use Rattle.alpha.specs.Box.{side, size, point_at}
use Rattle.affine.specs.Value.{at, Padded}
use Rattle.sheet.specs.Record.{range_at, box_at}
use Rattle.points.specs.Number.{PointIn}
use Rattle.affine.proofs.Several.{several-same, zeros-at}
use Rattle.points.proofs.Steps.{horner, from, from-first, from-next}

-- ---- one coordinate more: the point numbered m of the others, d of their boxes further on

point_at-digits : (r : Range) (others : List Range) (m d : ℕ) → m < size others →
    point_at (r ∷ others) (d * size others + m) ≡ (r.lo +ℤ pos d) ∷ point_at others m
point_at-digits r others m d low = rw (digits_div d low, digits_mod d low) refl

-- ---- what the loop keeps: of the box's ranges those from the k-th on are done, z has the coordinates of their point numbered m, and i
-- is j such boxes and m

pub record Making (bs : List ℕ) (start i n : ℕ) (k j : ℕ) (z : List ℤ) : Type 0 where
  pub done : ℕ
  pub m : ℕ
  pub count : k + done ≡ n
  pub made : from z k done ≡ point_at (box_at bs (start + 16 * k) done) m
  pub padded : Padded n z
  pub low : m < size (box_at bs (start + 16 * k) done)
  pub whole : i ≡ j * size (box_at bs (start + 16 * k) done) + m
  pub small : j ≤ i
  pub four : length z ≡ 4

-- before: none of the ranges is done
pub making-none : (bs : List ℕ) (start i n : ℕ) → Making bs start i n n i (pos 0 ∷ pos 0 ∷ pos 0 ∷ pos 0 ∷ [])
unfolding box_at
making-none bs start i n = record {
  done = 0;
  m = 0;
  count = omega arith;
  made = refl;
  padded = λ j h. zeros-at j;
  low = omega arith;
  whole = omega arith;
  small = omega arith;
  four = refl;
}

-- a number put at place k is there, and the others stay
module _ (z : List ℤ) (k : ℕ) (x : ℤ) where
  at-put : k < length z → at (set z k x) k ≡ x
  at-put h = get_or-set_same z k x (pos 0) h

  at-kept : (j : ℕ) → (j ≡ k → ⊥) → at (set z k x) j ≡ at z j
  at-kept j h = get_or-set_other z k j x (pos 0) h

  from-kept : (n : ℕ) → from (set z k x) (k + 1) n ≡ from z (k + 1) n
  from-kept n = several-same n (λ t. at (set z k x) (k + 1 + t)) (λ t. at z (k + 1 + t)) (λ t l. at-kept (k + 1 + t) (λ e. omega arith))

module _ {bs : List ℕ} {start i n j : ℕ} {z : List ℤ} where
  -- one range more, whose number is what the division of j by its width leaves
  pub making-more : (k : ℕ) → n ≤ 4 → Making bs start i n (k + 1) j z → (x : ℤ) →
      x ≡ field bs (start + 16 * k) +ℤ pos (j % side (range_at bs (start + 16 * k))) →
      Making bs start i n k (j / side (range_at bs (start + 16 * k))) (set z k x)
  unfolding box_at
  making-more k few h x is =
      let p = start + 16 * k in
      let r = range_at bs p in
      let others = box_at bs (p + 16) h.done in
      let d = j % side r in
      let next : start + 16 * (k + 1) ≡ p + 16 = omega arith in
      let some : 0 < side r = omega arith in
      let below : k < length z = omega (arith, h.four, h.count) in
      let low = rw next at h.low in
      let made = rw next at h.made in
      let whole = rw next at h.whole in
      record {
        done = suc h.done;
        m = d * size others + h.m;
        count = omega (arith, h.count);
        made =
            from-next (set z k x) k h.done
            ∙ ap (λ y. y ∷ from (set z k x) (k + 1) h.done) (at-put z k x below ∙ is)
            ∙ ap (λ l. (r.lo +ℤ pos d) ∷ l) (from-kept z k x h.done ∙ made)
            ∙ sym (point_at-digits r others h.m d low);
        padded = λ t l. at-kept z k x t (λ e. omega (arith, h.count)) ∙ h.padded t l;
        low = digits_lt (mod-lt j some) low;
        whole = whole ∙ regrouped (size others) (side r) h.m;
        small = omega (arith, div-le_self j (side r), h.small);
        four = length-set z k x ∙ h.four;
      }
    where
      -- j boxes are j / w rows of w boxes and j % w boxes
      regrouped : (s w m : ℕ) → j * s + m ≡ (j / w) * (w * s) + ((j % w) * s + m)
      regrouped s w m = ap (λ q. q * s + m) (sym (div-add-mod' j w)) ∙ sym (horner (j / w) w (j % w) s m)

  -- after: all are done, and the number is less than one box
  pub making-end : (k : ℕ) → k ≡ 0 → i < size (box_at bs start n) → Making bs start i n k j z → PointIn bs start n i z
  making-end k none below h =
      let all : h.done ≡ n = omega (arith, h.count) in
      let here : start + 16 * k ≡ start = omega arith in
      let box-is : size (box_at bs (start + 16 * k) h.done) ≡ size (box_at bs start n) = rw (all, here) refl in
      let is : h.m ≡ i = first j (size (box_at bs (start + 16 * k) h.done)) h.m h.whole (omega (arith, box-is)) in
      record { is = sym (from-first z n) ∙ rw (here, none, all, is) at h.made; rest = h.padded }
    where
      first : (q s m : ℕ) → i ≡ q * s + m → i < s → m ≡ i
      first zero s m e b = omega arith
      first (suc q) s m e b = absurd (omega (arith, mul-le-mul_right {m = 1} {n = suc q} s (omega arith)))
