-- The order of ℤ by differences, and a number in a range as its distance from the range's least. Assumes nothing.
use mathlib.Core.Path.{◌≡◌, refl, sym, ap, ◌∙◌}
use Prim.Native.Nat.{ℕ, zero, suc, ◌+◌, ◌-◌, ◌<◌}
use native.Mathlib.Omega.{arith}
use mathlib.Core.Bool.{Bool, true, false, cond}
use lib.IntN.{ℤ, pos, negsuc, nat_abs, neg_ℤ, ◌+ℤ◌, ◌-ℤ◌, sub_ℕ, +ℤ_assoc, +ℤ_comm, +ℤ-neg_ℤ_cancel, -ℤ-+ℤ_cancel, neg_ℤ-+ℤ}
use lib.Signed.{le_z, non_neg}
use lib.Dec.{leb, ltb, leb-zero, leb-suc-zero, leb-suc-suc}
use borrow.Author.Tests.{le-leb, lt-leb, ltb-true, ltb-false}
use Rattle.alpha.specs.Sheet.{Range}
use Rattle.alpha.specs.Box.{within, side}
use Rattle.laws.proofs.Tests.{&&-left, &&-right, &&-true}

-- ---- the order by differences

non_neg-subℕ : (a b : ℕ) → non_neg (sub_ℕ a b) ≡ leb b a
non_neg-subℕ a b = go (ltb a b) refl
  where
    go : (t : Bool) → ltb a b ≡ t → non_neg (cond t (negsuc (b - suc a)) (pos (a - b))) ≡ leb b a
    go true e = sym (lt-leb b a (ltb-true a b e))
    go false e = sym (le-leb b a (ltb-false a b e))

pub le_z-is : (a b : ℤ) → le_z a b ≡ non_neg (b -ℤ a)
le_z-is (pos zero) (pos n) = leb-zero n
le_z-is (pos (suc m)) (pos n) = sym (non_neg-subℕ n (suc m))
le_z-is (pos zero) (negsuc n) = sym (non_neg-subℕ zero (suc n) ∙ leb-suc-zero n)
le_z-is (pos (suc m)) (negsuc n) = refl
le_z-is (negsuc m) (pos n) = refl
le_z-is (negsuc m) (negsuc n) = sym (non_neg-subℕ (suc m) (suc n) ∙ leb-suc-suc n m)

non_neg-nat_abs : (x : ℤ) → non_neg x ≡ true → pos (nat_abs x) ≡ x
non_neg-nat_abs (pos n) h = refl
non_neg-nat_abs (negsuc n) h = let z : ◌≡◌ {A = ℕ} 0 1 = cc in absurd (omega arith)

-- ---- so far above a number

-- what lies k above a, less a, is k
pub above-less : (a : ℤ) (k : ℕ) → a +ℤ pos k -ℤ a ≡ pos k
above-less a k = ap (λ t. t -ℤ a) (+ℤ_comm a (pos k)) ∙ +ℤ-neg_ℤ_cancel (pos k) a

-- what is at least a lies some natural number above it
pub le-above : (a b : ℤ) → le_z a b ≡ true → b ≡ a +ℤ pos (nat_abs (b -ℤ a))
le-above a b h =
    sym (-ℤ-+ℤ_cancel b a)
    ∙ ap (λ t. t +ℤ a) (sym (non_neg-nat_abs (b -ℤ a) (sym (le_z-is a b) ∙ h)))
    ∙ +ℤ_comm (pos (nat_abs (b -ℤ a))) a

above-diff : (a x y : ℤ) → a +ℤ y -ℤ (a +ℤ x) ≡ y -ℤ x
above-diff a x y =
    ap (λ t. a +ℤ y +ℤ t) (neg_ℤ-+ℤ a x)
    ∙ sym (+ℤ_assoc (a +ℤ y) (neg_ℤ a) (neg_ℤ x))
    ∙ ap (λ t. t -ℤ x) (ap (λ t. t -ℤ a) (+ℤ_comm a y) ∙ +ℤ-neg_ℤ_cancel y a)

pub le_z-above : (a : ℤ) (j k : ℕ) → le_z (a +ℤ pos j) (a +ℤ pos k) ≡ leb j k
le_z-above a j k = le_z-is (a +ℤ pos j) (a +ℤ pos k) ∙ ap non_neg (above-diff a (pos j) (pos k)) ∙ sym (le_z-is (pos j) (pos k))

pub le-self-above : (a : ℤ) (k : ℕ) → le_z a (a +ℤ pos k) ≡ true
le-self-above a k = le_z-is a (a +ℤ pos k) ∙ ap non_neg (above-less a k)

pub le_z-trans : (a b c : ℤ) → le_z a b ≡ true → le_z b c ≡ true → le_z a c ≡ true
le_z-trans a b c h k =
    let j = nat_abs (b -ℤ a) in
    let m = nat_abs (c -ℤ b) in
    let e : c ≡ a +ℤ pos (j + m) = le-above b c k ∙ ap (λ t. t +ℤ pos m) (le-above a b h) ∙ +ℤ_assoc a (pos j) (pos m) in
    rw e (le-self-above a (j + m))

-- ---- a number in a range

-- x is in the range r, so far above its least number
pub record Among (r : Range) (x : ℤ) : Type 0 where
  pub is : x ≡ r.lo +ℤ pos (nat_abs (x -ℤ r.lo))
  pub small : nat_abs (x -ℤ r.lo) < side r

pub within-among : (r : Range) (x : ℤ) → within r.lo r.hi x ≡ true → Among r x
within-among r x h =
    let e = le-above r.lo x (&&-left (le_z r.lo x) (le_z x r.hi) h) in
    let f = le-above x r.hi (&&-right (le_z r.lo x) (le_z x r.hi) h) in
    let j = nat_abs (x -ℤ r.lo) in
    let m = nat_abs (r.hi -ℤ x) in
    let top : r.hi ≡ r.lo +ℤ pos (j + m) = f ∙ ap (λ t. t +ℤ pos m) e ∙ +ℤ_assoc r.lo (pos j) (pos m) in
    let width : nat_abs (r.hi -ℤ r.lo) ≡ j + m = ap nat_abs (ap (λ t. t -ℤ r.lo) top ∙ above-less r.lo (j + m)) in
    record { is = e; small = omega (arith, width) }

pub above_within : (r : Range) (k : ℕ) → le_z r.lo r.hi ≡ true → k < side r → within r.lo r.hi (r.lo +ℤ pos k) ≡ true
above_within r k h l =
    &&-true (le-self-above r.lo k)
    (ap (le_z (r.lo +ℤ pos k)) (le-above r.lo r.hi h) ∙ le_z-above r.lo k (nat_abs (r.hi -ℤ r.lo)) ∙ le-leb k (nat_abs (r.hi -ℤ r.lo)) (omega arith))
