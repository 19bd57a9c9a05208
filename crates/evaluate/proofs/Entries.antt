-- Outcomes coded as entries of the memo, and entries as numbers. Assumes nothing.
use mathlib.Core.Path.{◌≡◌, refl, ap, ◌∙◌}
use Prim.Native.Nat.{ℕ, zero, suc, ◌/◌, ◌%◌, ◌≤◌, ◌<◌}
use native.Mathlib.Omega.{arith}
use mathlib.Core.Bool.{Bool, true, false}
use mathlib.Core.List.{List, [], ◌∷◌, map}
use lib.ListN.{length, get_or, set, length-map}
use lib.Dec.{ltb, leb, eqb}
use lib.IntN.{ℤ, pos, negsuc, nat_abs, ◌+ℤ◌, ◌-ℤ◌}
use lib.Signed.{mag}
use borrow.Author.Tests.{ltb-false, le-ltb, le-leb, ne_eqb}
use Rattle.alpha.specs.declared.Outcome as Declared
use Rattle.alpha.specs.declared.Outcome.TheVariants as Outcomes
use Rattle.alpha.specs.Pick.{ifb}
use Rattle.alpha.specs.Outcome.{Outcome, outside, value, divzero, overflow, loop}
use Rattle.alpha.specs.Run.{code_of, value_of}
use Rattle.alpha.specs.Verdict.{outcome_of, code_for, value_for}
use Rattle.laws.specs.Under.{Under}
use Rattle.laws.specs.Coded.{decoded}
use Rattle.laws.proofs.Tests.{ifb-true, ifb-false}
use Rattle.integer.specs.Range.{In32}
use Rattle.integer.specs.Range as Range
use Rattle.std.specs.Prelude.{Ok, Err}
use Rattle.evaluate.specs.Memo.{Work, busy, unknown, Memo, code_in, value_in, code_at, value_at, memo_of, settled_one, busy_one, to_do, noted}
use Rattle.evaluate.specs.Memo as Memo

-- ---- outcomes and their codes

-- an outcome is a loop, or has a code up to 3
pub by_loop : {X : Type 0} (o : Outcome) → (o ≡ loop → X) → (code_of o ≤ 3 → X) → X
by_loop outside f g = g (omega arith)
by_loop (value x) f g = g (omega arith)
by_loop divzero f g = g (omega arith)
by_loop overflow f g = g (omega arith)
by_loop loop f g = f refl

pub code-few : (o : Outcome) → code_of o ≤ 4
code-few o = by_loop o (λ e. rw e (omega arith)) (λ h. omega arith)

-- the outcome with an outcome's code and value is that outcome
pub decoded-coded : (o : Outcome) → decoded (code_of o) (value_of o) ≡ o
decoded-coded outside = refl
decoded-coded (value x) = refl
decoded-coded divzero = refl
decoded-coded overflow = refl
decoded-coded loop = refl

-- every code past 3 is LOOP's
pub loop-decoded : (c : ℕ) (x : ℤ) → 4 ≤ c → loop ≡ decoded c x
loop-decoded zero x h = absurd (omega arith)
loop-decoded (suc zero) x h = absurd (omega arith)
loop-decoded (suc (suc zero)) x h = absurd (omega arith)
loop-decoded (suc (suc (suc zero))) x h = absurd (omega arith)
loop-decoded (suc (suc (suc (suc c)))) x h = refl

-- an outcome that is no loop says all, and one that is loops where the other does
pub under_same : (o p : Outcome) → Under o p → (o ≡ loop → p ≡ loop) → p ≡ o
under_same outside p u h = u
under_same (value x) p u h = u
under_same divzero p u h = u
under_same overflow p u h = u
under_same loop p u h = h refl

-- the value of a small outcome is small
pub value-small : (o : Declared.Outcome) → Range.Small o → In32 (value_for o)
value-small Outcomes.Outside h = omega arith
value-small (Outcomes.Value x) h = h
value-small Outcomes.DivZero h = omega arith
value-small Outcomes.Overflow h = omega arith
value-small Outcomes.Loop h = omega arith

-- ---- what a code counts for

pub settled-low : (c : ℕ) → c ≤ 3 → settled_one c ≡ 1
settled-low c h = ifb-true (leb c 3) _ _ (le-leb c 3 h)

pub settled-one : (c : ℕ) → settled_one c ≤ 1
settled-one c = go (leb c 3)
  where
    go : (b : Bool) → ifb b (λ _. 1) (λ _. 0) ≤ 1
    go true = omega arith
    go false = omega arith

pub busy-one : (c : ℕ) → busy_one c ≤ 1
busy-one c = go (eqb c busy)
  where
    go : (b : Bool) → ifb b (λ _. 1) (λ _. 0) ≤ 1
    go true = omega arith
    go false = omega arith

pub unmarked : (c : ℕ) → (c ≡ busy → ⊥) → busy_one c ≡ 0
unmarked c n = ifb-false (eqb c busy) _ _ (ne_eqb c busy n)

-- nothing is left to do for an outcome's entry
pub none-to-do : (c : ℕ) → c ≤ 4 → to_do c ≡ 0
none-to-do c h =
    ifb-false (eqb c busy) _ _ (ne_eqb c busy (λ e. omega arith)) ∙ ifb-false (eqb c unknown) _ _ (ne_eqb c unknown (λ e. omega arith))

-- an answer's entry is not in progress
pub answer-idle : (r : Work) → Memo.code_of r ≡ busy → ⊥
answer-idle (Ok o) h = omega (arith, code-few (outcome_of o))
answer-idle (Err d) h = omega arith

pub answer-unmarked : (r : Work) → busy_one (Memo.code_of r) ≡ 0
answer-unmarked r = unmarked (Memo.code_of r) (answer-idle r)

pub answer-low : (r : Work) → Memo.code_of r ≤ unknown
answer-low (Ok o) = omega (arith, code-few (outcome_of o))
answer-low (Err d) = omega arith

pub answer-to-do : (r : Work) → to_do (Memo.code_of r) ≤ 2
answer-to-do (Ok o) = omega (arith, none-to-do (code_for o) (code-few (outcome_of o)))
answer-to-do (Err d) = omega arith

-- ---- entries as numbers

-- a number from -2147483648 on, counted from there
counted : (x : ℤ) → mag x < 2147483648 → pos (nat_abs (x +ℤ pos 2147483648)) ≡ x +ℤ pos 2147483648
counted (pos n) h = refl
counted (negsuc n) h = rw (le-ltb 2147483648 (suc n) (omega arith)) refl

counted-low : (x : ℤ) → mag x < 2147483648 → nat_abs (x +ℤ pos 2147483648) < 4294967296
counted-low (pos n) h = omega arith
counted-low (negsuc n) h = rw (le-ltb 2147483648 (suc n) (omega arith)) (omega arith)

module _ (x : ℤ) (small : In32 x) (above : ℕ) (is : above ≡ nat_abs (x +ℤ pos 2147483648)) where
  pub packed-low : above < 4294967296
  packed-low = omega (arith, is, counted-low x small)

-- ---- the memo of a list of entries

get_or-mapped : {A B : Type 0} (f : A → B) (l : List A) (i : ℕ) (d : A) → get_or (map f l) i (f d) ≡ f (get_or l i d)
get_or-mapped f [] i d = refl
get_or-mapped f (x ∷ l) zero d = refl
get_or-mapped f (x ∷ l) (suc i) d = get_or-mapped f l i d

map-set : {A B : Type 0} (f : A → B) (l : List A) (i : ℕ) (x : A) → map f (set l i x) ≡ set (map f l) i (f x)
map-set f [] i x = refl
map-set f (y ∷ l) zero x = refl
map-set f (y ∷ l) (suc i) x = ap (λ t. f y ∷ t) (map-set f l i x)

module _ (l : List ℕ) where
  pub codes-many : length (memo_of l).codes ≡ length l
  unfolding memo_of
  codes-many = length-map l code_in

  pub values-many : length (memo_of l).values ≡ length l
  unfolding memo_of
  values-many = length-map l value_in

  pub entry-code : (m : ℕ) → code_at (memo_of l) m ≡ code_in (get_or l m 0)
  unfolding memo_of
  entry-code m = get_or-mapped code_in l m 0

  pub entry_value : (m : ℕ) → value_at (memo_of l) m ≡ value_in (get_or l m 0)
  unfolding memo_of
  entry_value m = get_or-mapped value_in l m 0

  -- an entry with a code and a value was stored
  pub entry-noted : (e n c : ℕ) (x : ℤ) → code_in n ≡ c → value_in n ≡ x → memo_of (set l e n) ≡ noted (memo_of l) e c x
  unfolding memo_of
  entry-noted e n c x f g =
      let codes : map code_in (set l e n) ≡ set (map code_in l) e c = map-set code_in l e n ∙ ap (set (map code_in l) e) f in
      let values : map value_in (set l e n) ≡ set (map value_in l) e x = map-set value_in l e n ∙ ap (set (map value_in l) e) g in
      rw (codes, values)

-- an entry's value is in the 32-bit range
pub value-in-small : (n : ℕ) → In32 (value_in n)
value-in-small n = go (n / 8 % 4294967296) (omega arith)
  where
    go : (w : ℕ) → w < 4294967296 → mag (pos w -ℤ pos 2147483648) < 2147483648
    go w h = by (ltb w 2147483648) refl
      where
        by : (b : Bool) → ltb w 2147483648 ≡ b → mag (pos w -ℤ pos 2147483648) < 2147483648
        by true e = rw e (omega arith)
        by false e = let l = ltb-false w 2147483648 e in rw e (omega arith)
