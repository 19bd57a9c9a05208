-- What the code's points, rows and maps stand for: the first so many numbers of an array of four. What lies beyond them is 0.
-- Assumes nothing.
use Rattle.std.specs.Prelude.{ℕ, zero, suc, ◌≤◌, ◌≡◌, List, [], ◌∷◌, get_or, slice_set, ltb, ℤ, pos}
use Rattle.alpha.specs.Pick.{ifb}
use Rattle.alpha.specs.Sheet as Sheet
use Rattle.alpha.specs.Affine.{row_after}
use Rattle.affine.specs.declared.Row.{Row}
use Rattle.affine.specs.declared.Map.{Map}

-- f 0, .., f (n - 1)
abbrev pub several : {A : Type 0} → ℕ → (ℕ → A) → List A
several zero f = []
several (suc n) f = f 0 ∷ several n (λ i. f (suc i))

-- the number at an index of an array, 0 past its end
abbrev pub at : List ℤ → ℕ → ℤ
at xs i = get_or xs i (pos 0)

-- the row at an index of a map, a row of zeros past the end
abbrev pub line : Map → ℕ → Row
line m i = get_or m.rows i (record { coef = []; constant = pos 0 })

-- ---- what they stand for

abbrev pub point_of : ℕ → List ℤ → Sheet.Point
point_of n p = several n (at p)

-- a row of n coefficients
abbrev pub row_of : ℕ → Row → Sheet.Row
row_of n r = record { coefs = several n (at r.coef); const = r.constant }

abbrev pub map_of : Map → Sheet.Map
map_of m = record { cols = m.width; rows = several m.height (λ i. row_of m.width (line m i)) }

-- ---- zeros beyond

-- from index n on
abbrev pub Padded : ℕ → List ℤ → Type 0
Padded n xs = (j : ℕ) → n ≤ j → at xs j ≡ pos 0

-- r has n coefficients
pub record NeatRow (n : ℕ) (r : Row) : Type 0 where
  pub few : n ≤ 4
  pub rest : Padded n r.coef

-- a row of zeros
pub record ZeroRow (r : Row) : Type 0 where
  pub coefs : Padded 0 r.coef
  pub const : r.constant ≡ pos 0

-- m has the rows and columns that it says
pub record Neat (m : Map) : Type 0 where
  pub rows_few : m.height ≤ 4
  pub cols_few : m.width ≤ 4
  pub lines : (i : ℕ) → Padded m.width (line m i).coef
  pub beyond : (i : ℕ) → m.height ≤ i → ZeroRow (line m i)

-- the row r is w after f, and it has as many coefficients as f has columns
pub record After (f : Map) (w r : Row) : Type 0 where
  pub is : row_of f.width r ≡ row_after (map_of f) (row_of f.height w)
  pub rest : Padded f.width r.coef
  pub zeros : ZeroRow w → ZeroRow r

-- 1 at a place below n, else 0
abbrev pub mark_of : ℕ → ℕ → ℤ
mark_of i n = ifb (ltb i n) (λ _. pos 1) (λ _. pos 0)

-- zeros but for the mark at place i
abbrev pub marked_row : ℕ → ℕ → Row
marked_row i n = record { coef = slice_set (pos 0 ∷ pos 0 ∷ pos 0 ∷ pos 0 ∷ []) i (mark_of i n); constant = pos 0 }

-- xs is what f may give at 0, 1, 2 and 3, where `P i x` says that it gives x at i
pub record FourOf {A : Type 0} (P : ℕ → A → Type 0) (xs : List A) : Type 0 where
  pub first : A
  pub second : A
  pub third : A
  pub fourth : A
  pub are : xs ≡ first ∷ second ∷ third ∷ fourth ∷ []
  pub at_first : P 0 first
  pub at_second : P 1 second
  pub at_third : P 2 third
  pub at_fourth : P 3 fourth
