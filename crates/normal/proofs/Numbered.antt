-- The branches of a normal form by their numbers: how many there are, and which of its operands' or children's branches each is made of.
-- Assumes nothing.
use mathlib.Core.Path.{◌≡◌, refl, sym, ap, ◌∙◌}
use Prim.Native.Nat.{ℕ, zero, suc, ◌+◌, ◌*◌, ◌-◌, ◌/◌, ◌%◌, ◌≤◌, ◌<◌}
use native.Mathlib.Nat.{zero-mul, mod-lt, mod-eq_of_lt, mod-eq-sub-mod, div-eq_of_lt, div-eq-sub-div}
use native.Mathlib.Numerals.{add-one}
use native.Mathlib.Omega.{arith}
use mathlib.Core.Logic.{⊎_elim}
use mathlib.Core.List.{List, [], ◌∷◌, ◌++◌, map}
use lib.ListN.{length, get_or, length-append, length-map, get_or-append}
use lib.Seq.{get_or-append-add}
use Rattle.alpha.specs.Sheet.{Binary, Expr, Exprs}
use Rattle.alpha.specs.Sheet.{Expr.var, Expr.int, Expr.boo, Expr.un, Expr.bin, Expr.ite, Expr.kase, Expr.restr, Expr.dep, Exprs.none, Exprs.more}
use Rattle.alpha.specs.Normal.{Branch, push_branch, restrict, under1, pairs, triples, norm, norms}
use Rattle.laws.proofs.Branches.{joined, joined3}
use Rattle.affine.proofs.Several.{lt-or-le}
use Rattle.normal.specs.Count.{count_of, sum_of}

abbrev pub no_branch : Branch
no_branch = record { given = []; term = kase none }

-- branch b
abbrev pub branch_at : List Branch → ℕ → Branch
branch_at bs b = get_or bs b no_branch

-- ---- lists by index

pub map_at : (f : Branch → Branch) (l : List Branch) (b : ℕ) → b < length l → branch_at (map f l) b ≡ f (branch_at l b)
map_at f [] b h = absurd (omega arith)
map_at f (x ∷ l) zero h = refl
map_at f (x ∷ l) (suc b) h = map_at f l b (omega arith)

pub later-at : (xs ys : List Branch) (b : ℕ) → length xs ≤ b → branch_at (xs ++ ys) b ≡ branch_at ys (b - length xs)
later-at xs ys b h =
    let e : b ≡ length xs + (b - length xs) = omega arith in
    ap (branch_at (xs ++ ys)) e ∙ get_or-append-add xs ys (b - length xs) no_branch

pub positive : {b : ℕ} (x n : ℕ) → b < x * n → zero < n
positive x zero lt = absurd (omega arith)
positive x (suc i) lt = omega arith

-- lists of n branches one after another
blocks : (Branch → List Branch) → List Branch → List Branch
blocks f [] = []
blocks f (a ∷ l) = f a ++ blocks f l

module _ (f : Branch → List Branch) (n : ℕ) (each : (a : Branch) → length (f a) ≡ n) where
  length-blocks : (xs : List Branch) → length (blocks f xs) ≡ length xs * n
  unfolding blocks
  length-blocks [] = sym (zero-mul n)
  length-blocks (a ∷ l) = length-append (f a) (blocks f l) ∙ omega (arith, each a, length-blocks l)

  blocks_at : (xs : List Branch) (b : ℕ) → b < length xs * n → branch_at (blocks f xs) b ≡ branch_at (f (branch_at xs (b / n))) (b % n)
  unfolding blocks
  blocks_at [] b h = absurd (omega (arith, zero-mul n))
  blocks_at (a ∷ l) b h = ⊎_elim here (later (λ c lt. blocks_at l c lt)) (lt-or-le b n)
    where
      here : b < n → branch_at (f a ++ blocks f l) b ≡ branch_at (f (branch_at (a ∷ l) (b / n))) (b % n)
      here lt = rw (div-eq_of_lt lt, mod-eq_of_lt lt) (get_or-append (f a) (blocks f l) no_branch b (omega (arith, each a)))

      later : ((c : ℕ) → c < length l * n → branch_at (blocks f l) c ≡ branch_at (f (branch_at l (c / n))) (c % n)) →
          n ≤ b → branch_at (f a ++ blocks f l) b ≡ branch_at (f (branch_at (a ∷ l) (b / n))) (b % n)
      later rest le =
          let some : zero < n = positive (suc (length l)) n h in
          let quotient : b / n ≡ suc ((b - n) / n) = div-eq-sub-div some le ∙ add-one ((b - n) / n) in
          later-at (f a) (blocks f l) b (omega (arith, each a))
          ∙ ap (λ k. branch_at (blocks f l) (b - k)) (each a)
          ∙ rest (b - n) (omega arith)
          ∙ ap (λ i. branch_at (f (branch_at l ((b - n) / n))) i) (sym (mod-eq-sub-mod le))
          ∙ ap (λ i. branch_at (f (branch_at (a ∷ l) i)) (b % n)) (sym quotient)

-- ---- operands

module _ (k : Expr → Expr → Expr) (ys : List Branch) where
  row : Branch → List Branch
  row a = map (restrict a.given) (map (under1 (k a.term)) ys)

  row-long : (a : Branch) → length (row a) ≡ length ys
  unfolding row
  row-long a = length-map (map (under1 (k a.term)) ys) (restrict a.given) ∙ length-map ys (under1 (k a.term))

  pairs-blocks : (xs : List Branch) → pairs k xs ys ≡ blocks row xs
  unfolding blocks row
  pairs-blocks [] = refl
  pairs-blocks (a ∷ l) = ap (λ t. row a ++ t) (pairs-blocks l)

  pub length_pairs : (xs : List Branch) → length (pairs k xs ys) ≡ length xs * length ys
  length_pairs xs = ap length (pairs-blocks xs) ∙ length-blocks row (length ys) row-long xs

  row-at : (a : Branch) (b : ℕ) → b < length ys → branch_at (row a) b ≡ joined k a (branch_at ys b)
  unfolding row
  row-at a b h =
      map_at (restrict a.given) (map (under1 (k a.term)) ys) b (omega (arith, length-map ys (under1 (k a.term))))
      ∙ ap (restrict a.given) (map_at (under1 (k a.term)) ys b h)

  pub pairs-at : (xs : List Branch) (b : ℕ) → b < length xs * length ys →
      branch_at (pairs k xs ys) b ≡ joined k (branch_at xs (b / length ys)) (branch_at ys (b % length ys))
  pairs-at xs b h =
      ap (λ l. branch_at l b) (pairs-blocks xs) ∙ blocks_at row (length ys) row-long xs b h
      ∙ row-at (branch_at xs (b / length ys)) (b % length ys) (mod-lt b (positive (length xs) (length ys) h))

module _ (k : Expr → Expr → Expr → Expr) (ys zs : List Branch) where
  plane : Branch → List Branch
  plane a = map (restrict a.given) (pairs (k a.term) ys zs)

  plane-long : (a : Branch) → length (plane a) ≡ length ys * length zs
  unfolding plane
  plane-long a = length-map (pairs (k a.term) ys zs) (restrict a.given) ∙ length_pairs (k a.term) zs ys

  triples-blocks : (xs : List Branch) → triples k xs ys zs ≡ blocks plane xs
  unfolding blocks plane
  triples-blocks [] = refl
  triples-blocks (a ∷ l) = ap (λ t. plane a ++ t) (triples-blocks l)

  pub length-triples : (xs : List Branch) → length (triples k xs ys zs) ≡ length xs * (length ys * length zs)
  length-triples xs = ap length (triples-blocks xs) ∙ length-blocks plane (length ys * length zs) plane-long xs

  plane-at : (a : Branch) (b : ℕ) → b < length ys * length zs →
      branch_at (plane a) b ≡ joined3 k a (branch_at ys (b / length zs)) (branch_at zs (b % length zs))
  unfolding plane
  plane-at a b h =
      map_at (restrict a.given) (pairs (k a.term) ys zs) b (omega (arith, length_pairs (k a.term) zs ys))
      ∙ ap (restrict a.given) (pairs-at (k a.term) zs ys b h)

  pub triples-at : (xs : List Branch) (b : ℕ) → b < length xs * (length ys * length zs) → let n = length ys * length zs in
      branch_at (triples k xs ys zs) b ≡ joined3 k (branch_at xs (b / n)) (branch_at ys (b % n / length zs)) (branch_at zs (b % n % length zs))
  triples-at xs b h =
      let n = length ys * length zs in
      ap (λ l. branch_at l b) (triples-blocks xs) ∙ blocks_at plane n plane-long xs b h
      ∙ plane-at (branch_at xs (b / n)) (b % n) (mod-lt b (positive (length xs) n h))

-- ---- how many

module _ (dims : ℕ → ℕ) where
  mutual
    unfolding count_of norm

    pub count-is : (e : Expr) → count_of e ≡ length (norm e dims)
    count-is (var v) = refl
    count-is (int c) = refl
    count-is (boo b) = refl
    count-is (un o a) = count-is a ∙ sym (length-map (norm a dims) (under1 (un o)))
    count-is (bin o a b) = rw (count-is a, count-is b) (sym (length_pairs (bin o) (norm b dims) (norm a dims)))
    count-is (ite a b c) = rw (count-is a, count-is b, count-is c) (sym (length-triples ite (norm b dims) (norm c dims) (norm a dims)))
    count-is (kase es) = sum_is es
    count-is (restr d cs a) = count-is a ∙ sym (length-map (norm a dims) (restrict cs))
    count-is (dep f a) = count-is a ∙ sym (length-map (norm a dims) (push_branch f))

    pub sum_is : (es : Exprs) → sum_of es ≡ length (norms es dims)
    sum_is none = refl
    sum_is (more e es) = rw (count-is e, sum_is es) (sym (length-append (norm e dims) (norms es dims)))

  -- ---- which branch of which part

  pub bin_at : (o : Binary) (x y : Expr) (b : ℕ) → b < count_of x * count_of y →
      branch_at (norm (bin o x y) dims) b ≡ joined (bin o) (branch_at (norm x dims) (b / count_of y)) (branch_at (norm y dims) (b % count_of y))
  unfolding norm
  bin_at o x y b h =
      pairs-at (bin o) (norm y dims) (norm x dims) b (rw (← count-is x, ← count-is y) h)
      ∙ ap (λ n. joined (bin o) (branch_at (norm x dims) (b / n)) (branch_at (norm y dims) (b % n))) (sym (count-is y))

  pub ite-at : (x y z : Expr) (b : ℕ) → b < count_of x * (count_of y * count_of z) → let n = count_of y * count_of z in
      branch_at (norm (ite x y z) dims) b
      ≡ joined3 ite (branch_at (norm x dims) (b / n)) (branch_at (norm y dims) (b % n / count_of z)) (branch_at (norm z dims) (b % n % count_of z))
  unfolding norm
  ite-at x y z b h =
      triples-at ite (norm y dims) (norm z dims) (norm x dims) b (rw (← count-is x, ← count-is y, ← count-is z) h)
      ∙ ap (λ i. joined3 ite (branch_at (norm x dims) (b / (i * length (norm z dims))))
      (branch_at (norm y dims) (b % (i * length (norm z dims)) / length (norm z dims)))
      (branch_at (norm z dims) (b % (i * length (norm z dims)) % length (norm z dims)))) (sym (count-is y))
      ∙ ap (λ i. joined3 ite (branch_at (norm x dims) (b / (count_of y * i))) (branch_at (norm y dims) (b % (count_of y * i) / i))
      (branch_at (norm z dims) (b % (count_of y * i) % i)))
      (sym (count-is z))

  pub first-at : (e : Expr) (es : Exprs) (b : ℕ) → b < count_of e → branch_at (norms (more e es) dims) b ≡ branch_at (norm e dims) b
  unfolding norm
  first-at e es b h = get_or-append (norm e dims) (norms es dims) no_branch b (omega (arith, count-is e))

  pub rest_at : (e : Expr) (es : Exprs) (b : ℕ) → count_of e ≤ b → branch_at (norms (more e es) dims) b ≡ branch_at (norms es dims) (b - count_of e)
  unfolding norm
  rest_at e es b h =
      later-at (norm e dims) (norms es dims) b (omega (arith, count-is e)) ∙ ap (λ n. branch_at (norms es dims) (b - n)) (sym (count-is e))
