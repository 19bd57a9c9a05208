-- Bytes stored one part after another are the parts stored as one, in whatever order, and a run of fields or rows by its index. Assumes nothing.
use mathlib.Core.Path.{◌≡◌, refl, sym, ap, ◌∙◌}
use Prim.Native.Nat.{ℕ, zero, suc, ◌+◌, ◌*◌, ◌-◌, ◌≤◌, ◌<◌}
use native.Mathlib.Nat.{add-zero, zero-add, sub-zero}
use native.Mathlib.Omega.{arith}
use mathlib.Core.List.{List, [], ◌∷◌, ◌++◌, map, append_assoc}
use lib.ListN.{length, get_or, take, length-append, set}
use lib.Seq.{sets, length-take-le, take-suc, set_comm}
use lib.IntN.{ℤ}
use Rattle.alpha.specs.Field.{num, nat}
use Rattle.alpha.specs.Sheet.{Row, Constraint}
use Rattle.alpha.specs.Written.{flat, row_bytes, constraint_bytes, relation_code}
use Rattle.laws.specs.Wide.{RowsWide, ConstraintsWide}
use Rattle.laws.proofs.Written.{sets-append, length-bytes_of, length-num}
use Rattle.affine.specs.declared.Map.{Map}
use Rattle.affine.specs.Value.{at, line, row_of, map_of, several}
use Rattle.affine.proofs.Several.{several-same, length-several, map-several}

-- ---- one after another

-- a part, which has k bytes, and then another
pub sets_then : (l : List ℕ) (i k : ℕ) (xs ys : List ℕ) → length xs ≡ k → sets (sets l i xs) (i + k) ys ≡ sets l i (xs ++ ys)
sets_then l i k xs ys e = ap (λ n. sets (sets l i xs) (i + n) ys) (sym e) ∙ sym (sets-append l i xs ys)

-- what is stored first, of k bytes, and what after it
pub sets-after : (l : List ℕ) (i k : ℕ) (xs ys : List ℕ) {a b : List ℕ} → length xs ≡ k → a ≡ sets l i xs → b ≡ sets a (i + k) ys →
    b ≡ sets l i (xs ++ ys)
sets-after l i k xs ys long first second = second ∙ ap (λ t. sets t (i + k) ys) first ∙ sets_then l i k xs ys long

-- what is stored before another part can be stored after it
set_past : (l : List ℕ) (i j a : ℕ) (ys : List ℕ) → i < j → set (sets l j ys) i a ≡ sets (set l i a) j ys
set_past l i j a [] h = refl
set_past l i j a (y ∷ ys) h =
    set_past (set l j y) i (suc j) a ys (omega arith) ∙ ap (λ r. sets r (suc j) ys) (set_comm l j i y a (λ e. omega arith))

pub sets-past : (l : List ℕ) (i j : ℕ) (xs ys : List ℕ) → i + length xs ≤ j → sets (sets l j ys) i xs ≡ sets (sets l i xs) j ys
sets-past l i j [] ys h = refl
sets-past l i j (x ∷ xs) ys h =
    ap (λ r. sets r (suc i) xs) (set_past l i j x ys (omega arith)) ∙ sets-past (set l i x) (suc i) j xs ys (omega arith)

pub length-nat : (n : ℕ) → length (nat n) ≡ 8
length-nat n = length-bytes_of 8 n

pub two-long : (a b : ℕ) → length (nat a ++ nat b) ≡ 16
two-long a b = length-append (nat a) (nat b) ∙ omega (arith, length-nat a, length-nat b)

pub three-long : (a b c : ℕ) → length (nat a ++ nat b ++ nat c) ≡ 24
three-long a b c = length-append (nat a ++ nat b) (nat c) ∙ omega (arith, two-long a b, length-nat c)

-- one of so many, of k bytes each, is past
pub one_less : (p left k total : ℕ) → 0 < left → p + left * k ≡ total → p + k + (left - 1) * k ≡ total
one_less p zero k total h e = absurd (omega arith)
one_less p (suc j) k total h e = let f : suc j - 1 ≡ j = omega arith in rw f (omega arith)

-- ---- by index

-- f j, .., f (n - 1) one after another
pub run : ℕ → ℕ → (ℕ → List ℕ) → List ℕ
run j n f = flat (several (n - j) (λ i. f (j + i)))

module _ (n : ℕ) (f : ℕ → List ℕ) where
  pub run-start : run 0 n f ≡ flat (several n f)
  unfolding run
  run-start = ap (λ k. flat (several k (λ i. f (0 + i)))) (sub-zero n) ∙ ap flat (several-same n (λ i. f (0 + i)) f (λ i h. ap f (zero-add i)))

  pub run_step : (j : ℕ) → j < n → run j n f ≡ f j ++ run (j + 1) n f
  unfolding run
  run_step j h =
      let e : n - j ≡ suc (n - (j + 1)) = omega arith in
      let each : (i : ℕ) → j + suc i ≡ j + 1 + i = λ i. omega arith in
      ap (λ k. flat (several k (λ i. f (j + i)))) e
      ∙ ap (λ k. f k ++ flat (several (n - (j + 1)) (λ i. f (j + suc i)))) (add-zero j)
      ∙ ap (λ l. f j ++ flat l) (several-same (n - (j + 1)) (λ i. f (j + suc i)) (λ i. f (j + 1 + i)) (λ i lt. ap f (each i)))

  pub run_end : (j : ℕ) → n ≤ j → run j n f ≡ []
  unfolding run
  run_end j h = let e : n - j ≡ 0 = omega arith in ap (λ k. flat (several k (λ i. f (j + i)))) e

  -- storing f j, of k bytes, and then the rest and a tail
  pub run-again : (out out' : List ℕ) (p j k : ℕ) (tail : List ℕ) → j < n → out' ≡ sets out p (f j) → length (f j) ≡ k →
      sets out' (p + k) (run (j + 1) n f ++ tail) ≡ sets out p (run j n f ++ tail)
  run-again out out' p j k tail h is long =
      ap (λ l. sets l (p + k) (run (j + 1) n f ++ tail)) is ∙ sets_then out p k (f j) (run (j + 1) n f ++ tail) long
      ∙ ap (sets out p) (sym (append_assoc (f j) (run (j + 1) n f) tail) ∙ ap (λ l. l ++ tail) (sym (run_step j h)))

  pub run-over : (out : List ℕ) (p j : ℕ) (tail : List ℕ) → n ≤ j → sets out p tail ≡ sets out p (run j n f ++ tail)
  run-over out p j tail h = ap (λ l. sets out p (l ++ tail)) (sym (run_end j h))

-- ---- lengths

nums-long : (xs : List ℤ) → length (flat (map num xs)) ≡ 8 * length xs
nums-long [] = refl
nums-long (x ∷ xs) = length-append (num x) (flat (map num xs)) ∙ omega (arith, length-num x, nums-long xs)

pub row-long : (w : Row) (n : ℕ) → length w.coefs ≡ n → length (row_bytes w) ≡ 8 * n + 8
row-long w n e = length-append (flat (map num w.coefs)) (num w.const) ∙ omega (arith, nums-long w.coefs, length-num w.const)

pub rows_long : (n : ℕ) (ws : List Row) → RowsWide n ws → length (flat (map row_bytes ws)) ≡ length ws * (8 * n + 8)
rows_long n [] h = omega arith
rows_long n (w ∷ ws) h = length-append (row_bytes w) (flat (map row_bytes ws)) ∙ omega (arith, row-long w n h.0, rows_long n ws h.1)

pub constraint-long : (c : Constraint) (n : ℕ) → length c.row.coefs ≡ n → length (constraint_bytes c) ≡ 16 + 8 * n
constraint-long c n e =
    length-append (nat (relation_code c.rel)) (row_bytes c.row) ∙ omega (arith, length-nat (relation_code c.rel), row-long c.row n e)

pub constraints-long : (n : ℕ) (cs : List Constraint) → ConstraintsWide n cs → length (flat (map constraint_bytes cs)) ≡ length cs * (16 + 8 * n)
constraints-long n [] h = omega arith
constraints-long n (c ∷ cs) h = length-append (constraint_bytes c) (flat (map constraint_bytes cs))
    ∙ omega (arith, constraint-long c n h.0, constraints-long n cs h.1)

-- the bytes of row i of a map
abbrev pub row_at : Map → ℕ → List ℕ
row_at m i = row_bytes (row_of m.width (line m i))

pub rows-run : (m : Map) → run 0 m.height (row_at m) ≡ flat (map row_bytes (map_of m).rows)
rows-run m = run-start m.height (row_at m) ∙ sym (ap flat (map-several row_bytes m.height (λ i. row_of m.width (line m i))))

pub row-at-long : (m : Map) (i : ℕ) → length (row_at m i) ≡ 8 * m.width + 8
row-at-long m i = row-long (row_of m.width (line m i)) m.width (length-several m.width (at (line m i).coef))

-- ---- a copy

-- one byte more of s
pub copied_more : (s l : List ℕ) (i : ℕ) → i < length s → set (sets l 0 (take i s)) i (get_or s i 0) ≡ sets l 0 (take (i + 1) s)
copied_more s l i h =
    let e : suc i ≡ i + 1 = omega arith in
    let long : length (take i s) ≡ i = length-take-le i s (omega arith) in
    let next : 0 + length (take i s) ≡ i = omega arith in
    ap (λ k. set (sets l 0 (take i s)) k (get_or s i 0)) (sym next)
    ∙ sym (sets-append l 0 (take i s) (get_or s i 0 ∷ []))
    ∙ ap (sets l 0) (sym (take-suc s i 0 h) ∙ ap (λ k. take k s) e)
