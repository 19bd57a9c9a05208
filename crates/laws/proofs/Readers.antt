-- What a reader has read, if it gave a value: a field, a count, a choice, a number, and the same reader several times. Each law says
-- what holds of the value, and which the next place is; `given` takes that out of an equation. Assumes nothing.
use mathlib.Core.Path.{◌≡◌, refl, sym, ap, subst}
use Prim.Native.Nat.{ℕ, zero, suc, ◌+◌, ◌*◌, ◌^◌, ◌≤◌, ◌<◌}
use native.Mathlib.Nat.{suc-mul, zero-mul}
use native.Mathlib.Omega.{arith}
use mathlib.Core.Bool.{Bool, true, false}
use mathlib.Core.List.{List, [], ◌∷◌}
use lib.ListN.{length, get_or}
use lib.IntN.{ℤ, pos, nat_abs, neg_ℤ}
use borrow.Author.Tests.{leb-true}
use Rattle.alpha.specs.Pick.{ifb}
use Rattle.alpha.specs.Answer.{CUT, COUNT, NUMBER}
use Rattle.alpha.specs.Field.{field}
use Rattle.alpha.specs.Box.{within}
use Rattle.alpha.specs.Read.{Got, got, bad, Reader, after, repeat, room, passing, count, choice, free}
use Rattle.laws.proofs.Tests.{within-pos, within-size}

-- ---- what is given

pub record Upto {A : Type 0} (P : A → Type 0) (r : ℕ) (a : A) (q : ℕ) : Type 0 where
  pub what : P a
  pub next : q ≡ r

-- P holds of the value, and r is the next place, where there are any
abbrev pub Gives : {A : Type 0} → (A → Type 0) → ℕ → Got A → Type 0
Gives P r (got a q) = Upto P r a q
Gives P r (bad n q) = Unit {0}

pub given : {A : Type 0} (P : A → Type 0) (r : ℕ) {m : Got A} {a : A} {q : ℕ} → Gives P r m → m ≡ got a q → Upto P r a q
given P r h e = subst (Gives P r) e h

pub gives-map : {A : Type 0} (P Q : A → Type 0) (r : ℕ) → ((a : A) → P a → Q a) → (m : Got A) → Gives P r m → Gives Q r m
gives-map P Q r f (got a q) h = record { what = f a h.what; next = h.next }
gives-map P Q r f (bad n q) h = tt

-- a reader and then another, which starts where the first one ended
pub then-gives : {A B : Type 0} (P : A → Type 0) (p : ℕ) (Q : B → Type 0) (r : ℕ) (m : Got A) (k : A → ℕ → Got B) →
    Gives P p m → ((a : A) → m ≡ got a p → P a → Gives Q r (k a p)) → Gives Q r (after m k)
then-gives P p Q r (got a q) k h g = rw h.next (g a (ap (got a) h.next) h.what)
then-gives P p Q r (bad n q) k h g = tt

-- ---- fields

-- eight bytes are there at p, and their number passes the test and is x
pub record Passed (test : ℤ → Bool) (bs : List ℕ) (p : ℕ) (x : ℤ) : Type 0 where
  pub there : p + 8 ≤ length bs
  pub fine : test (field bs p) ≡ true
  pub is : x ≡ field bs p

pub passing-gives : (n : ℕ) (test : ℤ → Bool) (bs : List ℕ) (p : ℕ) → Gives (Passed test bs p) (p + 8) (passing n test bs p)
unfolding passing
passing-gives n test bs p = go (room bs p) (test (field bs p)) refl refl
  where
    go : (b c : Bool) → room bs p ≡ b → test (field bs p) ≡ c →
        Gives (Passed test bs p) (p + 8) (ifb b (λ _. ifb c (λ _. got (field bs p) (p + 8)) (λ _. bad n p)) (λ _. bad CUT p))
    go true true e f = record { what = record { there = leb-true (p + 8) (length bs) e; fine = f; is = refl }; next = refl }
    go true false e f = tt
    go false c e f = tt

-- eight bytes are there at p, and their number is n, from lo to hi
pub record Counted (lo hi : ℕ) (bs : List ℕ) (p : ℕ) (n : ℕ) : Type 0 where
  pub there : p + 8 ≤ length bs
  pub field_is : field bs p ≡ pos n
  pub low : lo ≤ n
  pub high : n ≤ hi

pub counted_is : {lo hi : ℕ} {bs : List ℕ} {p n : ℕ} → Counted lo hi bs p n → n ≡ nat_abs (field bs p)
counted_is c = sym (ap nat_abs c.field_is)

counted : (code lo hi : ℕ) (bs : List ℕ) (p : ℕ) →
    Gives (Counted lo hi bs p) (p + 8) (after (passing code (within (pos lo) (pos hi)) bs p) (λ x q. got (nat_abs x) q))
counted code lo hi bs p =
    then-gives (Passed (within (pos lo) (pos hi)) bs p) (p + 8) (Counted lo hi bs p) (p + 8) (passing code (within (pos lo) (pos hi)) bs p) (λ x q. got (nat_abs x) q)
    (passing-gives code (within (pos lo) (pos hi)) bs p) (λ x e h.
    let f = within-pos lo hi (field bs p) h.fine in
    rw h.is (record { what = record { there = h.there; field_is = f.is; low = f.low; high = f.high }; next = refl }))

pub count_gives : (lo hi : ℕ) (bs : List ℕ) (p : ℕ) → Gives (Counted lo hi bs p) (p + 8) (count lo hi bs p)
count_gives lo hi bs p = counted COUNT lo hi bs p

pub choice-gives : (hi : ℕ) (bs : List ℕ) (p : ℕ) → Gives (Counted 0 hi bs p) (p + 8) (choice hi bs p)
choice-gives hi bs p = counted NUMBER 0 hi bs p

-- eight bytes are there at p, and their number is x, of size up to 2^40
pub record Freed (bs : List ℕ) (p : ℕ) (x : ℤ) : Type 0 where
  pub there : p + 8 ≤ length bs
  pub is : x ≡ field bs p
  pub small : nat_abs (field bs p) ≤ 2 ^ 40

pub free-gives : (bs : List ℕ) (p : ℕ) → Gives (Freed bs p) (p + 8) (free bs p)
free-gives bs p =
    gives-map (Passed (within (neg_ℤ (pos (2 ^ 40))) (pos (2 ^ 40))) bs p) (Freed bs p) (p + 8)
    (λ x h. record { there = h.there; is = h.is; small = within-size (2 ^ 40) (field bs p) h.fine })
    (free bs p) (passing-gives NUMBER (within (neg_ℤ (pos (2 ^ 40))) (pos (2 ^ 40))) bs p)

-- ---- the same reader n times, where each time it takes k bytes that are there

-- k bytes are there at p
pub record There {A : Type 0} (k : ℕ) (bs : List ℕ) (p : ℕ) (a : A) : Type 0 where
  pub there : p + k ≤ length bs

-- the reader r gave the n items of l from p on, item i at p + i * k
pub record Items {A : Type 0} (r : Reader A) (k n : ℕ) (bs : List ℕ) (p : ℕ) (l : List A) : Type 0 where
  pub many : length l ≡ n
  pub there : p ≤ length bs → p + n * k ≤ length bs
  pub item : (i : ℕ) → i < n → (d : A) → r bs (p + i * k) ≡ got (get_or l i d) (p + i * k + k)

module _ {A : Type 0} (r : Reader A) (k : ℕ) (bs : List ℕ) (takes : (p : ℕ) → Gives (There k bs p) (p + k) (r bs p)) where
  no_items : (p : ℕ) → Items r k 0 bs p []
  no_items p = record { many = refl; there = λ h. rw zero-mul (omega arith); item = λ i h d. absurd (omega arith) }

  more-items : (n p : ℕ) (a : A) (l : List A) → r bs p ≡ got a (p + k) → p + k ≤ length bs → Items r k n bs (p + k) l → Items r k (suc n) bs p (a ∷ l)
  more-items n p a l e t h = record {
    many = ap suc h.many;
    there = λ _. omega (arith, suc-mul n k, h.there t);
    item = item-at;
  }
    where
      item-at : (i : ℕ) → i < suc n → (d : A) → r bs (p + i * k) ≡ got (get_or (a ∷ l) i d) (p + i * k + k)
      item-at zero lt d =
          let here : p + 0 * k ≡ p = rw zero-mul (omega arith) in
          rw here e
      item-at (suc i) lt d =
          let on : p + suc i * k ≡ p + k + i * k = omega (arith, suc-mul i k) in
          rw on (h.item i (omega arith) d)

  pub repeat-gives : (n p : ℕ) → Gives (Items r k n bs p) (p + n * k) (repeat n r bs p)
  repeat-gives zero p = record { what = no_items p; next = rw zero-mul (omega arith) }
  repeat-gives (suc n) p =
      then-gives (There k bs p) (p + k) (Items r k (suc n) bs p) (p + suc n * k) (r bs p) _ (takes p) (λ a e t.
      then-gives (Items r k n bs (p + k)) (p + k + n * k) (Items r k (suc n) bs p) (p + suc n * k) (repeat n r bs (p + k)) _ (repeat-gives n (p + k)) (λ l f h.
      record { what = more-items n p a l e t.there h; next = omega (arith, suc-mul n k) }))
