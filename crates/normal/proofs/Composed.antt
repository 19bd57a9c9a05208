-- Maps and constraints as the code writes them: a map's own fields, and a constraint where it stands, composed with a map. Assumes nothing.
use mathlib.Core.Path.{◌≡◌, refl, sym, ap, ◌∙◌, subst}
use Prim.Native.Nat.{ℕ, zero, suc, ◌+◌, ◌*◌, ◌-◌, ◌≤◌, ◌<◌}
use native.Mathlib.Omega.{arith}
use mathlib.Core.List.{List, ◌++◌, map}
use lib.ListN.{length}
use lib.IntN.{nat_abs}
use lib.Seq.{sets}
use Rattle.alpha.specs.Field.{field, nat}
use Rattle.alpha.specs.Affine.{row_after, constraint_after}
use Rattle.alpha.specs.Read.{relation_of}
use Rattle.alpha.specs.Reach.{limit, top_reach, row_reach, map_reach}
use Rattle.alpha.specs.Written.{flat, relation_code, row_bytes, constraint_bytes}
use Rattle.laws.specs.Wide.{RowsWide}
use Rattle.laws.proofs.NormalAgain.{combine-wide}
use Rattle.affine.specs.declared.Row.{Row}
use Rattle.affine.specs.declared.Map.{Map}
use Rattle.affine.specs.Value.{several, at, line, row_of, map_of, Padded, NeatRow, Neat}
use Rattle.affine.specs.Size.{FitAfter}
use Rattle.affine.specs.Reading.{row_fields}
use Rattle.affine.proofs.Several.{length-several}
use Rattle.affine.proofs.Bounds.{after-fits}
use Rattle.domain.specs.Constraints.{constraint_fields, constraints_fields}
use Rattle.normal.specs.Part.{map_bytes}
use Rattle.normal.specs.Rows.{limit_bytes, Composable, AllComposable}
use Rattle.normal.proofs.Laying.{sets-after, two-long, three-long, length-nat, constraint-long}

-- ---- a map

several-wide : (n k : ℕ) (f : ℕ → Row) → RowsWide n (several k (λ i. row_of n (f i)))
several-wide n zero f = tt
several-wide n (suc k) f = (length-several n (at (f 0).coef), several-wide n k (λ i. f (suc i)))

pub map-wide : (m : Map) → RowsWide m.width (map_of m).rows
map-wide m = several-wide m.width m.height (line m)

pub map-high : (m : Map) → length (map_of m).rows ≡ m.height
map-high m = length-several m.height (λ i. row_of m.width (line m i))

pub map-laid : (l : List ℕ) (to : ℕ) (m : Map) {a b c d : List ℕ} → a ≡ sets l to (nat 8) → b ≡ sets a (to + 8) (nat m.width) →
    c ≡ sets b (to + 16) (nat m.height) →
    d ≡ sets c (to + 24) (flat (map row_bytes (map_of m).rows)) → d ≡ sets l to (map_bytes (map_of m))
map-laid l to m first second third rows =
    let w = nat m.width in
    let h = nat m.height in
    let two = sets-after l to 8 (nat 8) w (length-nat 8) first second in
    let three = sets-after l to 16 (nat 8 ++ w) h (two-long 8 m.width) two third in
    sets-after l to 24 (nat 8 ++ w ++ h) (flat (map row_bytes (map_of m).rows)) (three-long 8 m.width m.height) three rows
    ∙ ap (λ n. sets l to (nat 8 ++ w ++ nat n ++ flat (map row_bytes (map_of m).rows))) (sym (map-high m))

-- ---- a constraint

relation-again : (k : ℕ) → k ≤ 1 → relation_code (relation_of k) ≡ k
relation-again zero h = refl
relation-again (suc zero) h = refl
relation-again (suc (suc k)) h = absurd (omega arith)

module _ (bs : List ℕ) (p n : ℕ) (m : Map) (h : Composable bs p n m) (neat : Neat m) (high : n ≡ m.height) (w : Row)
    (read : (row_of n w ≡ row_fields n bs (p + 8)) × NeatRow n w) where
  -- no sum leaves an i64
  pub constraint-fits : FitAfter m w
  constraint-fits =
      after-fits top_reach m neat (omega arith) w (subst (λ i. Padded i w.coef) high read.1.rest)
      (subst (λ i. row_reach (map_reach top_reach (map_of m).rows) (row_of i w) ≤ limit) high
      (subst (λ v. row_reach (map_reach top_reach (map_of m).rows) v ≤ limit) (sym read.0) h.small))

  constraint-bytes : (k : ℕ) (r : Row) → k ≡ nat_abs (field bs p) → row_of m.width r ≡ row_after (map_of m) (row_of m.height w) →
      nat k ++ row_bytes (row_of m.width r) ≡ constraint_bytes (constraint_after (map_of m) (constraint_fields n bs p))
  constraint-bytes k r is after =
      ap (λ i. nat i ++ row_bytes (row_of m.width r)) (is ∙ sym (relation-again (nat_abs (field bs p)) h.relation))
      ∙ ap (λ v. nat (relation_code (relation_of (nat_abs (field bs p)))) ++ row_bytes v)
      (after ∙ ap (row_after (map_of m)) (ap (λ i. row_of i w) (sym high) ∙ read.0))

  -- the relation k is stored, then the row r
  pub constraint-laid : (l : List ℕ) (to k : ℕ) (r : Row) {a b : List ℕ} → k ≡ nat_abs (field bs p) →
      row_of m.width r ≡ row_after (map_of m) (row_of m.height w) →
      a ≡ sets l to (nat k) → b ≡ sets a (to + 8) (row_bytes (row_of m.width r)) →
      b ≡ sets l to (constraint_bytes (constraint_after (map_of m) (constraint_fields n bs p)))
  constraint-laid l to k r is after first second =
      sets-after l to 8 (nat k) (row_bytes (row_of m.width r)) (length-nat k) first second ∙ ap (sets l to) (constraint-bytes k r is after)

-- ---- so many of them

module _ (bs : List ℕ) (p n : ℕ) (m : Map) where
  pub limit-long : length (constraint_bytes (constraint_after (map_of m) (constraint_fields n bs p))) ≡ 16 + 8 * m.width
  limit-long =
      constraint-long (constraint_after (map_of m) (constraint_fields n bs p)) m.width
      (combine-wide (row_fields n bs (p + 8)).coefs (map_of m).rows m.width (map-wide m))

  module _ (k : ℕ) (some : 0 < k) where
    split : (j : ℕ) → k ≡ suc j → AllComposable k bs p n m → Composable bs p n m × AllComposable (k - 1) bs (p + (16 + 8 * n)) n m
    unfolding AllComposable
    split j e h = let f : k - 1 ≡ j = omega arith in rw f (rw e at h)

    pub composable-first : AllComposable k bs p n m → Composable bs p n m
    composable-first h = (split (k - 1) (omega arith) h).0

    pub composable-rest : AllComposable k bs p n m → AllComposable (k - 1) bs (p + (16 + 8 * n)) n m
    composable-rest h = (split (k - 1) (omega arith) h).1

    first-limit : (j : ℕ) → k ≡ suc j →
        limit_bytes m k n bs p ≡ constraint_bytes (constraint_after (map_of m) (constraint_fields n bs p)) ++ limit_bytes m j n bs (p + (16 + 8 * n))
    unfolding constraints_fields
    first-limit j e = ap (λ i. limit_bytes m i n bs p) e

    -- the first is stored, and then the others
    pub limits-again : (out : List ℕ) (to : ℕ) {out' : List ℕ} →
        out' ≡ sets out to (constraint_bytes (constraint_after (map_of m) (constraint_fields n bs p))) →
        sets out' (to + (16 + 8 * m.width)) (limit_bytes m (k - 1) n bs (p + (16 + 8 * n))) ≡ sets out to (limit_bytes m k n bs p)
    limits-again out to is =
        let c = constraint_bytes (constraint_after (map_of m) (constraint_fields n bs p)) in
        let rest = limit_bytes m (k - 1) n bs (p + (16 + 8 * n)) in
        sets-after out to (16 + 8 * m.width) c rest limit-long is refl ∙ ap (sets out to) (sym (first-limit (k - 1) (omega arith)))

  pub limits-over : (k : ℕ) (out : List ℕ) (to : ℕ) → k ≤ 0 → out ≡ sets out to (limit_bytes m k n bs p)
  unfolding constraints_fields
  limits-over k out to h = let e : 0 ≡ k = omega arith in ap (λ i. sets out to (limit_bytes m i n bs p)) e
