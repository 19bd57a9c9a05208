-- What the readers of crate alpha give, as fields at places: a row, and a map. Assumes nothing.
use Prim.Native.Nat.{ℕ, zero, suc, ◌+◌, ◌*◌, ◌^◌, ◌≤◌}
use mathlib.Core.Path.{◌≡◌, refl, ap, ◌∙◌}
use mathlib.Core.List.{List, ◌∷◌}
use native.Mathlib.Omega.{arith}
use native.Mathlib.Nat.{suc-mul}
use lib.ListN.{length}
use lib.IntN.{ℤ, nat_abs}
use Rattle.alpha.specs.Field.{field}
use Rattle.alpha.specs.Sheet as Sheet
use Rattle.alpha.specs.Read as Read
use Rattle.alpha.specs.Read.{Got, got, bad, after, repeat, count, free, dependence}
use Rattle.laws.proofs.Readers.{Upto, given, Counted, counted_is, count_gives, Freed, free-gives}
use Rattle.affine.specs.Value.{several}
use Rattle.affine.specs.Size.{Near}
use Rattle.affine.specs.Reading.{row_fields, rows_fields, map_fields}
use Rattle.affine.proofs.Several.{several-same}
use Rattle.affine.proofs.Meaning.{row_same}

-- ---- a value came from values

after-got :
    {A B C : Type 0} (m : Got A) (k : A → ℕ → Got B) {b : B} {q : ℕ} → after m k ≡ got b q →
    ((a : A) (p : ℕ) → m ≡ got a p → k a p ≡ got b q → C) → C
after-got (got a p) k e c = c a p refl e
after-got (bad n at) k e c = let z : ◌≡◌ {A = ℕ} 0 1 = cc in absurd (omega arith)

-- the same value and place
got_same : {A : Type 0} {a b : A} {p q : ℕ} → got a p ≡ got b q → (b ≡ a) × (q ≡ p)
got_same e = ((cc), (cc))

-- ---- a row

free-got : (bs : List ℕ) (p : ℕ) {x : ℤ} {q : ℕ} → free bs p ≡ got x q → Upto (Freed bs p) (p + 8) x q
free-got bs p e = given (Freed bs p) (p + 8) (free-gives bs p) e

pub record FieldsGot (n : ℕ) (bs : List ℕ) (p : ℕ) (cs : List ℤ) (q : ℕ) : Type 0 where
  pub is : cs ≡ several n (λ i. field bs (p + 8 * i))
  pub next : q ≡ p + 8 * n
  pub small : Near (2 ^ 40) cs

module _ (n : ℕ) (bs : List ℕ) (p : ℕ) (x : ℤ) (t : ℕ) (l : List ℤ) (u : ℕ) where
  fields-more : Upto (Freed bs p) (p + 8) x t → FieldsGot n bs t l u → FieldsGot (suc n) bs p (x ∷ l) u
  fields-more g r =
      let first : x ≡ field bs (p + 8 * 0) = g.what.is ∙ ap (field bs) (omega arith) in
      let rest : l ≡ several n (λ i. field bs (p + 8 * suc i)) =
      r.is
      ∙ several-same n (λ i. field bs (t + 8 * i)) (λ i. field bs (p + 8 * suc i)) (λ i h. ap (field bs) (let k = g.next in omega arith)) in
      record {
        is = ap (λ (y : ℤ). y ∷ l) first ∙ ap (λ (ys : List ℤ). field bs (p + 8 * 0) ∷ ys) rest;
        next = let k = g.next in let h = r.next in omega arith;
        small = (rw g.what.is g.what.small, r.small);
      }

pub fields-got : (n : ℕ) (bs : List ℕ) (p : ℕ) {cs : List ℤ} {q : ℕ} → repeat n free bs p ≡ got cs q → FieldsGot n bs p cs q
fields-got zero bs p {cs} {q} e =
    let same = got_same e in record { is = same.0; next = same.1 ∙ omega arith; small = rw same.0 tt }
fields-got (suc n) bs p {cs} {q} e =
    after-got (free bs p) (λ x t. after (repeat n free bs t) (λ l u. got (x ∷ l) u)) e (λ x t h rest.
    after-got (repeat n free bs t) (λ l u. got (x ∷ l) u) rest (λ l u k last.
    let same = got_same last in
    rw (same.0, same.1) (fields-more n bs p x t l u (free-got bs p h) (fields-got n bs t k))))

pub record RowGot (n : ℕ) (bs : List ℕ) (p : ℕ) (w : Sheet.Row) (q : ℕ) : Type 0 where
  pub is : w ≡ row_fields n bs p
  pub next : q ≡ p + (8 * n + 8)
  pub room : q ≤ length bs
  pub coefs_small : Near (2 ^ 40) w.coefs
  pub const_small : nat_abs w.const ≤ 2 ^ 40

module _ (n : ℕ) (bs : List ℕ) (p : ℕ) (cs : List ℤ) (t : ℕ) (c : ℤ) (u : ℕ) where
  row_from : FieldsGot n bs p cs t → Upto (Freed bs t) (t + 8) c u → RowGot n bs p (record { coefs = cs; const = c }) u
  row_from f g =
      let a = f.next in
      let b = g.next in
      let d = g.what.there in
      record {
        is = row_same f.is (g.what.is ∙ ap (field bs) f.next);
        next = omega arith;
        room = omega arith;
        coefs_small = f.small;
        const_small = rw g.what.is g.what.small;
      }

pub row-got : (n : ℕ) (bs : List ℕ) (p : ℕ) {w : Sheet.Row} {q : ℕ} → Read.row_of n bs p ≡ got w q → RowGot n bs p w q
unfolding Read.row_of
row-got n bs p {w} {q} e =
    after-got (repeat n free bs p) (λ cs t. after (free bs t) (λ c u. got (record { coefs = cs; const = c }) u)) e (λ cs t h rest.
    after-got (free bs t) (λ c u. got (record { coefs = cs; const = c }) u) rest (λ c u k last.
    let same = got_same last in
    rw (same.0, same.1) (row_from n bs p cs t c u (fields-got n bs p h) (free-got bs t k))))

-- ---- a map

pub record RowsGot (k n : ℕ) (bs : List ℕ) (p : ℕ) (ws : List Sheet.Row) (q : ℕ) : Type 0 where
  pub is : ws ≡ rows_fields k n bs p
  pub next : q ≡ p + k * (8 * n + 8)
  pub room : p ≤ length bs → q ≤ length bs

module _ (k n : ℕ) (bs : List ℕ) (p : ℕ) (w : Sheet.Row) (t : ℕ) (l : List Sheet.Row) (u : ℕ) where
  rows_more : RowGot n bs p w t → RowsGot k n bs t l u → RowsGot (suc k) n bs p (w ∷ l) u
  rows_more g r =
      let step = 8 * n + 8 in
      let first : w ≡ row_fields n bs (p + 0 * step) = g.is ∙ ap (row_fields n bs) (omega arith) in
      let rest : l ≡ several k (λ i. row_fields n bs (p + suc i * step)) =
      r.is
      ∙ several-same k (λ i. row_fields n bs (t + i * step)) (λ i. row_fields n bs (p + suc i * step))
      (λ i h. ap (row_fields n bs) (omega (arith, g.next, suc-mul i step))) in
      record {
        is = ap (λ (y : Sheet.Row). y ∷ l) first ∙ ap (λ (ys : List Sheet.Row). row_fields n bs (p + 0 * step) ∷ ys) rest;
        next = r.next ∙ omega (arith, g.next, suc-mul k step);
        room = λ h. r.room g.room;
      }

pub rows-got :
    (k n : ℕ) (bs : List ℕ) (p : ℕ) {ws : List Sheet.Row} {q : ℕ} → repeat k (Read.row_of n) bs p ≡ got ws q → RowsGot k n bs p ws q
rows-got zero n bs p {ws} {q} e =
    let same = got_same e in record { is = same.0; next = same.1 ∙ omega arith; room = λ h. rw same.1 h }
rows-got (suc k) n bs p {ws} {q} e =
    after-got (Read.row_of n bs p) (λ w t. after (repeat k (Read.row_of n) bs t) (λ l u. got (w ∷ l) u)) e (λ w t h rest.
    after-got (repeat k (Read.row_of n) bs t) (λ l u. got (w ∷ l) u) rest (λ l u m last.
    let same = got_same last in
    rw (same.0, same.1) (rows_more k n bs p w t l u (row-got n bs p h) (rows-got k n bs t m))))

pub record MapGot (bs : List ℕ) (p : ℕ) (f : Sheet.Map) (q : ℕ) : Type 0 where
  pub room : p + 16 ≤ length bs
  pub cols_few : nat_abs (field bs p) ≤ 4
  pub rows_few : nat_abs (field bs (p + 8)) ≤ 4
  pub is : f ≡ map_fields bs p
  pub next : q ≡ p + 16 + nat_abs (field bs (p + 8)) * (8 * nat_abs (field bs p) + 8)
  pub inside : q ≤ length bs

module _ (bs : List ℕ) (p n t k u : ℕ) (l : List Sheet.Row) (v : ℕ) where
  map-from : Upto (Counted 0 4 bs p) (p + 8) n t → Upto (Counted 0 4 bs t) (t + 8) k u → RowsGot k n bs u l v → MapGot bs p (record { cols = n; rows = l }) v
  map-from a b c =
      let third : u ≡ p + 16 = let y = a.next in let z = b.next in omega arith in
      let high : k ≡ nat_abs (field bs (p + 8)) = counted_is b.what ∙ ap (λ i. nat_abs (field bs i)) a.next in
      let wide : n ≡ nat_abs (field bs p) = counted_is a.what in
      let room : p + 16 ≤ length bs = let y = a.next in let z = b.what.there in omega arith in
      let rows : l ≡ rows_fields (nat_abs (field bs (p + 8))) n bs (p + 16) =
      c.is ∙ ap (λ i. rows_fields i n bs u) high ∙ ap (λ i. rows_fields (nat_abs (field bs (p + 8))) n bs i) third in
      record {
        room = room;
        cols_few = rw wide at a.what.high;
        rows_few = rw high at b.what.high;
        is =
            ap (λ (ws : List Sheet.Row). record { cols = n; rows = ws }) rows
            ∙ ap (λ i. record { cols = i; rows = rows_fields (nat_abs (field bs (p + 8))) i bs (p + 16) }) wide;
        next =
            c.next ∙ ap (λ i. i + k * (8 * n + 8)) third ∙ ap (λ i. p + 16 + i * (8 * n + 8)) high
            ∙ ap (λ i. p + 16 + nat_abs (field bs (p + 8)) * (8 * i + 8)) wide;
        inside = c.room (omega arith);
      }

pub dependence-got : (bs : List ℕ) (p : ℕ) {f : Sheet.Map} {q : ℕ} → dependence bs p ≡ got (Sheet.Node.n_dep f) q → MapGot bs p f q
unfolding dependence
dependence-got bs p {f} {q} e =
    after-got (count 0 4 bs p) (λ n t. second n t) e (λ n t h rest.
    after-got (count 0 4 bs t) (λ k u. third n k u) rest (λ k u i rest'.
    after-got (repeat k (Read.row_of n) bs u) (λ l v. got (Sheet.Node.n_dep (record { cols = n; rows = l })) v) rest' (λ l v j last.
    let same = got_same last in
    let map_same : f ≡ record { cols = n; rows = l } = cc same.0 in
    rw (map_same, same.1) (map-from bs p n t k u l v (counted-at p h) (counted-at t i) (rows-got k n bs u j)))))
  where
    counted-at : (o : ℕ) {m w : ℕ} → count 0 4 bs o ≡ got m w → Upto (Counted 0 4 bs o) (o + 8) m w
    counted-at o e = given (Counted 0 4 bs o) (o + 8) (count_gives 0 4 bs o) e

    third : ℕ → ℕ → ℕ → Got Sheet.Node
    third n k u = after (repeat k (Read.row_of n) bs u) (λ l v. got (Sheet.Node.n_dep (record { cols = n; rows = l })) v)

    second : ℕ → ℕ → Got Sheet.Node
    second n t = after (count 0 4 bs t) (λ k u. third n k u)
