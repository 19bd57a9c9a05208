-- How far the readers of crate alpha come: one law for each way through a field, a sequence and a repetition, from the facts that
-- code leaves. Assumes nothing.
use mathlib.Core.Path.{◌≡◌, refl, sym, ap, ◌∙◌}
use mathlib.Core.Bool.{Bool, true, false}
use mathlib.Core.List.{List}
use Prim.Native.Nat.{ℕ, ◌+◌, ◌≤◌}
use native.Mathlib.Omega.{arith}
use borrow.Author.Tests.{le-leb, leb-true}
use lib.ListN.{length}
use lib.IntN.{ℤ, pos, nat_abs}
use Rattle.alpha.specs.Pick.{ifb}
use Rattle.alpha.specs.Answer.{accepted, refused, CUT, COUNT, NUMBER}
use Rattle.alpha.specs.Field.{field}
use Rattle.alpha.specs.Box.{within}
use Rattle.alpha.specs.Read.{Got, got, bad, after, room, passing, count, number, choice}
use Rattle.laws.proofs.Tests.{within-pos}
use Rattle.sheet.specs.Place.{place_after}

-- ---- one reader after another

-- where a reader comes to a place, it gave a value there
pub gave : {A : Type 0} (m : Got A) {q : ℕ} → place_after m ≡ accepted q → (a : A) × (m ≡ got a q)
gave (got a p) {q} e = let h : p ≡ q = cc in (a, ap (got a) h)
gave (bad n p) {q} e = absurd (let z : ◌≡◌ {A = ℕ} 0 1 = cc in omega arith)

-- a reader that refuses ends the work
pub refused-after : {A B : Type 0} (m : Got A) (k : A → ℕ → Got B) {n p : ℕ} → place_after m ≡ refused n p → place_after (after m k) ≡ refused n p
refused-after (got a q) k e = absurd (let z : ◌≡◌ {A = ℕ} 0 1 = cc in omega arith)
refused-after (bad n q) k e = e

-- a value made of what was read changes no place
pub pure-after : {A B : Type 0} (m : Got A) (f : A → B) → place_after (after m (λ a q. got (f a) q)) ≡ place_after m
pure-after (got a q) f = refl
pure-after (bad n q) f = refl

-- a reader that gave a value is followed by the next
pub after-gave : {A B : Type 0} (m : Got A) (k : A → ℕ → Got B) (a : A) (q : ℕ) → m ≡ got a q → after m k ≡ k a q
after-gave m k a q e = ap (λ (g : Got _). after g k) e

-- ---- a field that must pass a test

-- a field that was read: eight bytes were there, their number passed the test, and the next place is eight on
pub record Passed (test : ℤ → Bool) (bs : List ℕ) (p q : ℕ) : Type 0 where
  pub there : p + 8 ≤ length bs
  pub fine : test (field bs p) ≡ true
  pub next : q ≡ p + 8

module _ (n : ℕ) (test : ℤ → Bool) (bs : List ℕ) (p : ℕ) where
  pub passing-cut : false ≡ room bs p → refused CUT p ≡ place_after (passing n test bs p)
  unfolding passing
  passing-cut r = rw (← r)

  module _ (r : true ≡ room bs p) where
    pub passing-refused : false ≡ test (field bs p) → refused n p ≡ place_after (passing n test bs p)
    unfolding passing
    passing-refused f = rw (← r, ← f)

    pub passing-to : true ≡ test (field bs p) → accepted (p + 8) ≡ place_after (passing n test bs p)
    unfolding passing
    passing-to f = rw (← r, ← f)

  pub passing-gives : p + 8 ≤ length bs → test (field bs p) ≡ true → passing n test bs p ≡ got (field bs p) (p + 8)
  unfolding passing
  passing-gives h f = rw (le-leb (p + 8) (length bs) h, f)

  pub passing-passed : (q : ℕ) → place_after (passing n test bs p) ≡ accepted q → Passed test bs p q
  unfolding passing
  passing-passed q e = go (room bs p) (test (field bs p)) refl refl e
    where
      go : (b c : Bool) → room bs p ≡ b → test (field bs p) ≡ c →
          place_after (ifb b (λ _. ifb c (λ _. got (field bs p) (p + 8)) (λ _. bad n p)) (λ _. bad CUT p)) ≡ accepted q → Passed test bs p q
      go true true r t k = record { there = leb-true (p + 8) (length bs) r; fine = t; next = let h : p + 8 ≡ q = cc in sym h }
      go true false r t k = absurd (let z : ◌≡◌ {A = ℕ} 0 1 = cc in omega arith)
      go false c r t k = absurd (let z : ◌≡◌ {A = ℕ} 0 1 = cc in omega arith)

  -- what follows a field that was read goes on with the field's number
  pub passing-then : {B : Type 0} (k : ℤ → ℕ → Got B) (q : ℕ) → place_after (passing n test bs p) ≡ accepted q →
      after (passing n test bs p) k ≡ k (field bs p) q
  passing-then k q e =
      let h = passing-passed q e in
      rw h.next (after-gave (passing n test bs p) k (field bs p) (p + 8) (passing-gives h.there h.fine))

module _ (lo hi : ℕ) (bs : List ℕ) (p : ℕ) where
  pub count-place : place_after (count lo hi bs p) ≡ place_after (passing COUNT (within (pos lo) (pos hi)) bs p)
  count-place = pure-after (passing COUNT (within (pos lo) (pos hi)) bs p) nat_abs

  pub count-passed : (q : ℕ) → place_after (count lo hi bs p) ≡ accepted q → Passed (within (pos lo) (pos hi)) bs p q
  count-passed q e = passing-passed COUNT (within (pos lo) (pos hi)) bs p q (sym count-place ∙ e)

  pub count-then : {B : Type 0} (k : ℕ → ℕ → Got B) (q : ℕ) → place_after (count lo hi bs p) ≡ accepted q →
      after (count lo hi bs p) k ≡ k (nat_abs (field bs p)) q
  count-then k q e =
      ap (λ (g : Got ℕ). after g k) (passing-then COUNT (within (pos lo) (pos hi)) bs p (λ x r. got (nat_abs x) r) q (sym count-place ∙ e))

module _ (hi : ℕ) (bs : List ℕ) (p : ℕ) where
  pub choice-place : place_after (choice hi bs p) ≡ place_after (number (pos 0) (pos hi) bs p)
  choice-place = pure-after (number (pos 0) (pos hi) bs p) nat_abs

  pub choice-passed : (q : ℕ) → place_after (choice hi bs p) ≡ accepted q → Passed (within (pos 0) (pos hi)) bs p q
  choice-passed q e = passing-passed NUMBER (within (pos 0) (pos hi)) bs p q (sym choice-place ∙ e)

  pub choice-then : {B : Type 0} (k : ℕ → ℕ → Got B) (q : ℕ) → place_after (choice hi bs p) ≡ accepted q → after (choice hi bs p) k ≡ k (nat_abs (field bs p)) q
  choice-then k q e =
      ap (λ (g : Got ℕ). after g k) (passing-then NUMBER (within (pos 0) (pos hi)) bs p (λ x r. got (nat_abs x) r) q (sym choice-place ∙ e))

-- where a result of such a field is a place, the field was read
module _ (bs : List ℕ) (p : ℕ) {q : ℕ} where
  pub number-came : (lo hi : ℤ) → accepted q ≡ place_after (number lo hi bs p) → Passed (within lo hi) bs p q
  number-came lo hi says = passing-passed NUMBER (within lo hi) bs p q (sym says)

  pub count-came : (lo hi : ℕ) → accepted q ≡ place_after (count lo hi bs p) → Passed (within (pos lo) (pos hi)) bs p q
  count-came lo hi says = count-passed lo hi bs p q (sym says)

  pub choice-came : (hi : ℕ) → accepted q ≡ place_after (choice hi bs p) → Passed (within (pos 0) (pos hi)) bs p q
  choice-came hi says = choice-passed hi bs p q (sym says)

-- a count that was read is within its limits
pub counted : (lo hi : ℕ) {bs : List ℕ} {p q : ℕ} → Passed (within (pos lo) (pos hi)) bs p q → (lo ≤ nat_abs (field bs p)) × (nat_abs (field bs p) ≤ hi)
counted lo hi {bs} {p} h = let w = within-pos lo hi (field bs p) h.fine in (w.low, w.high)
