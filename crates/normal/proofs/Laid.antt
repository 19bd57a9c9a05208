-- Bytes that are laid one part after another are the parts laid as one, in whatever order, whether they are stored or only measured; and the
-- room stays. Assumes nothing.
use mathlib.Core.Path.{◌≡◌, refl, ap, ◌∙◌}
use Prim.Native.Nat.{ℕ, ◌+◌, ◌^◌, ◌≤◌, max, min}
use native.Mathlib.Omega.{arith}
use mathlib.Core.List.{List, [], ◌++◌}
use lib.ListN.{length}
use lib.Seq.{length-sets}
use Rattle.normal.specs.declared.Mode.{Mode}
use Rattle.normal.specs.declared.Mode.TheVariants.{Measure, Store}
use Rattle.normal.specs.declared.Pen.{Pen}
use Rattle.normal.specs.Part.{nothing}
use Rattle.normal.specs.Followed.{laid, room_of, Wrote}
use Rattle.normal.proofs.Laying.{sets_then, sets-past}

pub laid_nothing : (mode : Mode) (l : List ℕ) (i : ℕ) → l ≡ laid mode l i []
laid_nothing Measure l i = refl
laid_nothing Store l i = refl

-- a part, which has k bytes, and then another
laid_then : (mode : Mode) (l : List ℕ) (i k : ℕ) (xs ys : List ℕ) → length xs ≡ k → laid mode (laid mode l i xs) (i + k) ys ≡ laid mode l i (xs ++ ys)
laid_then Measure l i k xs ys e = refl
laid_then Store l i k xs ys e = sets_then l i k xs ys e

-- what is laid first, of k bytes, and what after it
pub laid-after : (mode : Mode) (l : List ℕ) (i k : ℕ) (xs ys : List ℕ) {a b : List ℕ} → length xs ≡ k → a ≡ laid mode l i xs → b ≡ laid mode a (i + k) ys →
    b ≡ laid mode l i (xs ++ ys)
laid-after mode l i k xs ys long first second = second ∙ ap (λ t. laid mode t (i + k) ys) first ∙ laid_then mode l i k xs ys long

-- what is laid before another part can be laid after it
pub laid-past : (mode : Mode) (l : List ℕ) (i j : ℕ) (xs ys : List ℕ) → i + length xs ≤ j →
    laid mode (laid mode l j ys) i xs ≡ laid mode (laid mode l i xs) j ys
laid-past Measure l i j xs ys h = refl
laid-past Store l i j xs ys h = sets-past l i j xs ys h

-- the room stays, whatever was laid
pub laid_room : (mode : Mode) (l : List ℕ) (i : ℕ) (xs : List ℕ) {a : List ℕ} → a ≡ laid mode l i xs → room_of mode a ≡ room_of mode l
laid_room Measure l i xs e = refl
laid_room Store l i xs e = ap (min (2 ^ 40)) (ap length e ∙ length-sets l i xs)

-- and is within 2^40
pub room-high : (mode : Mode) (out : List ℕ) → room_of mode out ≤ 2 ^ 40
room-high Measure out = omega arith
room-high Store out = omega arith

-- a pen that has written nothing
pub wrote_nothing : (mode : Mode) (pen : Pen) (out : List ℕ) → Wrote mode pen out out pen nothing
wrote_nothing mode pen out = record {
  pen_is = λ i. record { to = stays pen.to i; things = stays pen.things i; deep = same pen.deep i };
  out_is = laid_nothing mode out pen.to;
}
  where
    stays : (n : ℕ) → n ≡ n + 0
    stays n = omega arith

    same : (n : ℕ) → n ≡ max n 0
    same n = omega arith
