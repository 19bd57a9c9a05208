-- What is read number by number is the row and the map of the fields. Assumes nothing.
use Prim.Native.Nat.{ℕ, ◌+◌, ◌*◌, ◌≤◌, ◌<◌}
use mathlib.Core.Path.{◌≡◌, refl, sym, ap, ◌∙◌}
use mathlib.Core.Logic.{⊎_elim}
use mathlib.Core.List.{List, [], ◌∷◌}
use native.Mathlib.Omega.{arith}
use native.Mathlib.Nat.{suc-mul, mul-le-mul, mul-le-mul_right}
use lib.ListN.{length}
use lib.IntN.{ℤ, pos, nat_abs}
use Rattle.alpha.specs.Field.{field}
use Rattle.alpha.specs.Sheet as Sheet
use Rattle.alpha.specs.Read.{got, dependence}
use Rattle.affine.specs.declared.Row.{Row}
use Rattle.affine.specs.declared.Map.{Map}
use Rattle.affine.specs.Value.{at, line, row_of, map_of, NeatRow, Neat}
use Rattle.affine.specs.Reading.{row_fields, rows_fields, map_fields, RowAmong, MapRead, MapThere}
use Rattle.affine.proofs.Several.{lt-or-le, several-same, below-four, past-four, zeros-at}
use Rattle.affine.proofs.Meaning.{padded-more, row_same, map_same, past-line}
use Rattle.affine.proofs.Reader.{MapGot, dependence-got}

-- ---- places

-- k rows of n coefficients take few bytes, and row i of them lies among them
pub span_small : (k n : ℕ) → k ≤ 4 → n ≤ 4 → k * (8 * n + 8) ≤ 160
span_small k n h l = let s : 8 * n + 8 ≤ 40 = omega arith in omega (arith, mul-le-mul h s)

pub place_inside : (i k n : ℕ) → i < k → i * (8 * n + 8) + (8 * n + 8) ≤ k * (8 * n + 8)
place_inside i k n h = omega (arith, mul-le-mul_right (8 * n + 8) h, suc-mul i (8 * n + 8))

pub span_same : {n m k l : ℕ} → n ≡ m → k ≡ l → k * (8 * n + 8) ≡ l * (8 * m + 8)
span_same {n} {m} {k} {l} e h = ap (λ i. i * (8 * n + 8)) h ∙ ap (λ i. l * (8 * i + 8)) e

-- ---- a row

-- x is coefficient i of the row of n at p
abbrev pub Coefficient : List ℕ → ℕ → ℕ → ℕ → ℤ → Type 0
Coefficient bs p n i x = (i < n → x ≡ field bs (p + 8 * i)) × (n ≤ i → x ≡ pos 0)

module _ (bs : List ℕ) (p n : ℕ) (few : n ≤ 4) (a b c d k : ℤ) where
  pub row_is :
      Coefficient bs p n 0 a → Coefficient bs p n 1 b → Coefficient bs p n 2 c → Coefficient bs p n 3 d →
      k ≡ field bs (p + 8 * n) →
      (row_of n (record { coef = a ∷ b ∷ c ∷ d ∷ []; constant = k }) ≡ row_fields n bs p)
      × NeatRow n (record { coef = a ∷ b ∷ c ∷ d ∷ []; constant = k })
  row_is ea eb ec ed ek =
      let y = a ∷ b ∷ c ∷ d ∷ [] in
      let each : (i : ℕ) → i < 4 → Coefficient bs p n i (at y i) = below-four (λ i. Coefficient bs p n i (at y i)) ea eb ec ed in
      let past : (j : ℕ) → 4 ≤ j → at y j ≡ pos 0 = λ j l. past-four a b c d (pos 0) j l in (
        row_same (several-same n (at y) (λ i. field bs (p + 8 * i)) (λ i h. (each i (omega arith)).0 h)) ek,
        record { few = few; rest = λ j l. ⊎_elim (λ q. (each j q).1 l) (past j) (lt-or-le j 4) },
      )

-- ---- a row among others

-- a row of zeros
abbrev zeros_row : Row
zeros_row = record { coef = pos 0 ∷ pos 0 ∷ pos 0 ∷ pos 0 ∷ []; constant = pos 0 }

module _ {bs : List ℕ} {p i k n : ℕ} where
  pub row-among : {r : Row} → i < k → row_of n r ≡ row_fields n bs (p + i * (8 * n + 8)) → NeatRow n r → RowAmong bs p i k n r
  row-among l e neat = record { is = λ h. e; rest = neat.rest; zeros = λ h. absurd (omega arith) }

  pub past-among : k ≤ i → RowAmong bs p i k n zeros_row
  past-among l =
      record {
        is = λ h. absurd (omega arith);
        rest = λ j h. zeros-at j;
        zeros = λ h. record { coefs = λ j q. zeros-at j; const = refl };
      }

-- ---- a map

-- m has the k rows of n coefficients that stand from p on
abbrev pub RowsMap : List ℕ → ℕ → ℕ → ℕ → Map → Type 0
RowsMap bs p n k m = (map_of m ≡ record { cols = n; rows = rows_fields k n bs p }) × Neat m × (m.height ≡ k) × (m.width ≡ n)

module _ (bs : List ℕ) (p k n : ℕ) (cols_few : n ≤ 4) (rows_few : k ≤ 4) where
  pub rows_are :
      {a b c d : Row} → RowAmong bs p 0 k n a → RowAmong bs p 1 k n b → RowAmong bs p 2 k n c → RowAmong bs p 3 k n d →
      RowsMap bs p n k (record { rows = a ∷ b ∷ c ∷ d ∷ []; height = k; width = n })
  rows_are {a} {b} {c} {d} ea eb ec ed =
      let m : Map = record { rows = a ∷ b ∷ c ∷ d ∷ []; height = k; width = n } in
      let each : (i : ℕ) → i < 4 → RowAmong bs p i k n (line m i) = below-four (λ i. RowAmong bs p i k n (line m i)) ea eb ec ed in
      let past = past-line a b c d k n in (
        map_same (several-same k (λ i. row_of n (line m i)) (λ i. row_fields n bs (p + i * (8 * n + 8))) (λ i h. (each i (omega arith)).is h)),
        record {
          rows_few = rows_few;
          cols_few = cols_few;
          lines = λ i. ⊎_elim (λ l. (each i l).rest) (λ l. padded-more (line m i).coef (omega arith) (past i l).coefs) (lt-or-le i 4);
          beyond = λ i q. ⊎_elim (λ l. (each i l).zeros q) (past i) (lt-or-le i 4);
        },
        refl,
        refl,
      )

module _ (bs : List ℕ) (p : ℕ) (m : Map) (neat : Neat m) where
  -- where no dependence stands, any map will do
  pub no-map : ((f : Sheet.Map) (q : ℕ) → MapGot bs p f q → ⊥) → MapRead bs p m
  no-map none =
      record { neat = neat; is = λ f q e. absurd (none f q (dependence-got bs p e)); next = λ f q e. absurd (none f q (dependence-got bs p e)) }

  map_is :
      (n k : ℕ) → map_of m ≡ record { cols = n; rows = rows_fields k n bs (p + 16) } → m.width ≡ n → m.height ≡ k →
      n ≡ nat_abs (field bs p) → k ≡ nat_abs (field bs (p + 8)) → MapRead bs p m
  map_is n k e w h wide high =
      let fields : map_of m ≡ map_fields bs p =
      e ∙ ap (λ i. record { cols = n; rows = rows_fields i n bs (p + 16) }) high
      ∙ ap (λ i. record { cols = i; rows = rows_fields (nat_abs (field bs (p + 8))) i bs (p + 16) }) wide in
      let span : m.height * (8 * m.width + 8) ≡ nat_abs (field bs (p + 8)) * (8 * nat_abs (field bs p) + 8) =
      span_same (w ∙ wide) (h ∙ high) in
      record {
        neat = neat;
        is = λ f q g. fields ∙ sym (dependence-got bs p g).is;
        next = λ f q g. (dependence-got bs p g).next ∙ ap (λ i. p + 16 + i) (sym span);
      }

-- ---- where a dependence stands

pub map-there : (bs : List ℕ) (p : ℕ) {f : Sheet.Map} {q : ℕ} → dependence bs p ≡ got (Sheet.Node.n_dep f) q → MapThere bs p
map-there bs p e =
    let g = dependence-got bs p e in record { cols_few = g.cols_few; rows_few = g.rows_few; inside = rw g.next at g.inside }

module _ (bs : List ℕ) (p n k : ℕ) (wide : n ≡ nat_abs (field bs p)) (high : k ≡ nat_abs (field bs (p + 8))) where
  -- its rows can be read
  pub rows-there : MapThere bs p → (n ≤ 4) × (k ≤ 4) × (p + 16 + k * (8 * n + 8) ≤ length bs)
  rows-there t =
      let low = t.cols_few in let few = t.rows_few in (omega arith, omega arith, omega (arith, span_same wide high, t.inside))

  -- and the map of these is its map
  pub rows-map : (m : Map) → RowsMap bs (p + 16) n k m → MapRead bs p m
  rows-map m e = map_is bs p m e.1 n k e.0 e.3 e.2 wide high
