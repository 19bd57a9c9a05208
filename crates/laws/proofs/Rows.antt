-- What is read where a row or a constraint stands: each coefficient and constant with its place and its size, the relation, and the next
-- place. Assumes nothing.
use mathlib.Core.Path.{◌≡◌, ap, ◌∙◌}
use Prim.Native.Nat.{ℕ, ◌+◌, ◌*◌, ◌^◌, ◌≤◌, ◌<◌}
use native.Mathlib.Omega.{arith}
use mathlib.Core.List.{List}
use lib.ListN.{length, get_or}
use lib.IntN.{ℤ, pos, nat_abs}
use Rattle.alpha.specs.Field.{field}
use Rattle.alpha.specs.Sheet.{Row, Constraint}
use Rattle.alpha.specs.Read.{repeat, choice, free, relation_of, row_of, constraint}
use Rattle.laws.proofs.Readers.{Gives, given, gives-map, then-gives, Counted, counted_is, choice-gives, Freed, free-gives, There, Items, repeat-gives}

-- ---- a choice that stands for a value

-- a is the value that the number in the field at p stands for, a number up to hi
pub record Chosen {A : Type 0} (of : ℕ → A) (hi : ℕ) (bs : List ℕ) (p : ℕ) (a : A) : Type 0 where
  pub is : a ≡ of (nat_abs (field bs p))
  pub field_is : field bs p ≡ pos (nat_abs (field bs p))
  pub high : nat_abs (field bs p) ≤ hi

pub chosen : {A : Type 0} (of : ℕ → A) (hi : ℕ) (bs : List ℕ) (p n : ℕ) → Counted 0 hi bs p n → Chosen of hi bs p (of n)
chosen of hi bs p n h =
    let e = counted_is h in
    record { is = ap of e; field_is = h.field_is ∙ ap pos e; high = omega (arith, h.high) }

-- ---- rows

-- the row w stands at p: n coefficients, then the constant
pub record RowAt (n : ℕ) (bs : List ℕ) (p : ℕ) (w : Row) : Type 0 where
  pub width : length w.coefs ≡ n
  pub coef : (j : ℕ) → j < n → get_or w.coefs j (pos 0) ≡ field bs (p + 8 * j)
  pub coef-small : (j : ℕ) → j < n → nat_abs (field bs (p + 8 * j)) ≤ 2 ^ 40
  pub constant : w.const ≡ field bs (p + 8 * n)
  pub constant-small : nat_abs (field bs (p + 8 * n)) ≤ 2 ^ 40
  pub there : p + (8 + 8 * n) ≤ length bs

free-takes : (bs : List ℕ) (p : ℕ) → Gives (There 8 bs p) (p + 8) (free bs p)
free-takes bs p = gives-map (Freed bs p) (There 8 bs p) (p + 8) (λ x h. record { there = h.there }) (free bs p) (free-gives bs p)

row-at : (n : ℕ) (bs : List ℕ) (p : ℕ) (cs : List ℤ) (c : ℤ) → Items free 8 n bs p cs → Freed bs (p + n * 8) c → RowAt n bs p (record { coefs = cs; const = c })
row-at n bs p cs c h k = record {
  width = h.many;
  coef = λ j lt. (item j lt).is;
  coef-small = λ j lt. (item j lt).small;
  constant = last.is;
  constant-small = last.small;
  there = omega (arith, k.there);
}
  where
    turn : (j : ℕ) → p + j * 8 ≡ p + 8 * j
    turn j = omega arith

    last : Freed bs (p + 8 * n) c
    last = rw (turn n) at k

    item : (j : ℕ) → j < n → Freed bs (p + 8 * j) (get_or cs j (pos 0))
    item j lt = (given (Freed bs (p + 8 * j)) (p + 8 * j + 8) (free-gives bs (p + 8 * j)) (rw (turn j) at (h.item j lt (pos 0)))).what

pub row_gives : (n : ℕ) (bs : List ℕ) (p : ℕ) → Gives (RowAt n bs p) (p + (8 + 8 * n)) (row_of n bs p)
unfolding row_of
row_gives n bs p =
    then-gives (Items free 8 n bs p) (p + n * 8) (RowAt n bs p) (p + (8 + 8 * n)) (repeat n free bs p) _ (repeat-gives free 8 bs (free-takes bs) n p) (λ cs e h.
    then-gives (Freed bs (p + n * 8)) (p + n * 8 + 8) (RowAt n bs p) (p + (8 + 8 * n)) (free bs (p + n * 8)) _ (free-gives bs (p + n * 8)) (λ c f k.
    record { what = row-at n bs p cs c h k; next = omega arith }))

pub row-takes : (n : ℕ) (bs : List ℕ) (p : ℕ) → Gives (There (8 + 8 * n) bs p) (p + (8 + 8 * n)) (row_of n bs p)
row-takes n bs p = gives-map (RowAt n bs p) (There (8 + 8 * n) bs p) (p + (8 + 8 * n)) (λ w h. record { there = h.there }) (row_of n bs p) (row_gives n bs p)

-- ---- constraints

-- the constraint c stands at p: its relation, then its row of n coefficients
pub record ConstraintAt (n : ℕ) (bs : List ℕ) (p : ℕ) (c : Constraint) : Type 0 where
  pub relation : Chosen relation_of 1 bs p c.rel
  pub stands : RowAt n bs (p + 8) c.row
  pub there : p + (16 + 8 * n) ≤ length bs

pub constraint-gives : (n : ℕ) (bs : List ℕ) (p : ℕ) → Gives (ConstraintAt n bs p) (p + (16 + 8 * n)) (constraint n bs p)
unfolding constraint
constraint-gives n bs p =
    then-gives (Counted 0 1 bs p) (p + 8) (ConstraintAt n bs p) (p + (16 + 8 * n)) (choice 1 bs p) _ (choice-gives 1 bs p) (λ k e c.
    then-gives (RowAt n bs (p + 8)) (p + 8 + (8 + 8 * n)) (ConstraintAt n bs p) (p + (16 + 8 * n)) (row_of n bs (p + 8)) _ (row_gives n bs (p + 8)) (λ w f r.
    record {
      what = record { relation = chosen relation_of 1 bs p k c; stands = r; there = omega (arith, r.there) };
      next = omega arith;
    }))

pub constraint-takes : (n : ℕ) (bs : List ℕ) (p : ℕ) → Gives (There (16 + 8 * n) bs p) (p + (16 + 8 * n)) (constraint n bs p)
constraint-takes n bs p =
    gives-map (ConstraintAt n bs p) (There (16 + 8 * n) bs p) (p + (16 + 8 * n)) (λ c h. record { there = h.there }) (constraint n bs p) (constraint-gives n bs p)
