-- An answer that goes on: what its steps answered, from what the last one answered; and ROOM. Assumes nothing.
use mathlib.Core.Path.{◌≡◌, refl, ap, ◌∙◌}
use Prim.Native.Nat.{ℕ, ◌≤◌}
use native.Mathlib.Omega.{arith}
use mathlib.Core.Bool.{Bool, true, false}
use lib.Dec.{leb}
use borrow.Author.Tests.{le-leb, leb-true}
use Rattle.alpha.specs.Pick.{ifb}
use Rattle.alpha.specs.Answer.{Answer, accepted, refused, next, ROOM}
use Rattle.alpha.specs.Run.{room}

-- where the last step accepts, so did the first
pub next-accepted : {A B : Type 0} (m : Answer A) (k : A → Answer B) (b : B) → next m k ≡ accepted b → (a : A) × (m ≡ accepted a) × (k a ≡ accepted b)
next-accepted (accepted a) k b h = (a, refl, h)
next-accepted (refused n p) k b h = let z : ◌≡◌ {A = ℕ} 0 1 = cc in absurd (omega arith)

-- where the last step always accepts, a refusal is the first's
pub next-refused : {A B : Type 0} (m : Answer A) (k : A → Answer B) (n p : ℕ) → ((a : A) → m ≡ accepted a → (b : B) × (k a ≡ accepted b)) →
    next m k ≡ refused n p → m ≡ refused n p
next-refused (accepted a) k n p f h = let g = f a refl in let e = g.1 in let z : ◌≡◌ {A = ℕ} 0 1 = cc in absurd (omega arith)
next-refused (refused m q) k n p f h = let a : m ≡ n = cc in let b : q ≡ p = cc in ap (λ i. refused i q) a ∙ ap (λ i. refused n i) b

pub room-enough : (needed lent : ℕ) → needed ≤ lent → room needed lent ≡ accepted tt
room-enough needed lent h = rw (le-leb needed lent h)

pub room-there : (needed lent : ℕ) → room needed lent ≡ accepted tt → needed ≤ lent
room-there needed lent h = go (leb needed lent) refl h
  where
    go : (b : Bool) → leb needed lent ≡ b → ◌≡◌ {A = Answer (Unit {0})} (ifb b (λ _. accepted tt) (λ _. refused ROOM needed)) (accepted tt) → needed ≤ lent
    go true e k = leb-true needed lent e
    go false e k = let z : ◌≡◌ {A = ℕ} 0 1 = cc in absurd (omega arith)
