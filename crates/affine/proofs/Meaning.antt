-- What the code computes, row by row and number by number, is what the definitions of crate alpha say of the maps that its values stand
-- for: an image, a row after a map, a map after a map. Assumes nothing.
use Prim.Native.Nat.{ℕ, zero, suc, ◌≤◌, ◌<◌}
use mathlib.Core.Path.{◌≡◌, refl, sym, ap, ◌∙◌}
use mathlib.Core.List.{List, [], ◌∷◌}
use native.Mathlib.Omega.{arith}
use native.Mathlib.Nat.{le_trans}
use mathlib.Core.Logic.{⊎_elim}
use borrow.Author.Tests.{le-ltb}
use lib.ListN.{length}
use lib.IntN.{ℤ, pos, ◌+ℤ◌, ◌*ℤ◌}
use Rattle.alpha.specs.Sheet as Sheet
use Rattle.alpha.specs.Affine.{dot, row_at, image, scale, add_all, zeroes, combine, row_after, map_after, identity}
use Rattle.affine.specs.declared.Row.{Row}
use Rattle.affine.specs.declared.Map.{Map}
use Rattle.affine.specs.Value.{several, at, line, point_of, row_of, map_of, Padded, NeatRow, ZeroRow, Neat, After, mark_of}
use Rattle.affine.specs.Size.{column, constants}
use Rattle.affine.proofs.Several.{lt-or-le, length-several, several-same, map-several, below-four, past-four, dot-nothing, dot-several, dot-origin}

-- ---- padding

pub padded-more : (xs : List ℤ) {n m : ℕ} → n ≤ m → Padded n xs → Padded m xs
padded-more xs h e j k = e j (le_trans h k)

-- a row of n coefficients is one of four
pub neat-four : {n : ℕ} (r : Row) → n ≤ 4 → Padded n r.coef → NeatRow 4 r
neat-four r h e = record { few = omega arith; rest = padded-more r.coef h e }

pub neat-line : (m : Map) → Neat m → (i : ℕ) → NeatRow m.width (line m i)
neat-line m h i = record { few = h.cols_few; rest = h.lines i }

-- a map's rows and columns are those of what it stands for
pub height-length : (m : Map) {f : Sheet.Map} → map_of m ≡ f → m.height ≡ length f.rows
height-length m e = sym (length-several m.height (λ i. row_of m.width (line m i))) ∙ ap (λ (g : Sheet.Map). length g.rows) e

pub width-cols : (m : Map) {f : Sheet.Map} → map_of m ≡ f → m.width ≡ f.cols
width-cols m e = ap (λ (g : Sheet.Map). g.cols) e

-- below 4 and past it
by-four : (P : ℕ → Type 0) → P 0 → P 1 → P 2 → P 3 → ((j : ℕ) → 4 ≤ j → P j) → (i : ℕ) → P i
by-four P a b c d e i = ⊎_elim (below-four P a b c d i) (e i) (lt-or-le i 4)

-- ---- an image

image-several : (n : ℕ) (f : ℕ → Sheet.Row) (z : Sheet.Point) → image (several n f) z ≡ several n (λ i. row_at (f i) z)
image-several zero f z = refl
image-several (suc n) f z = ap (λ l. row_at (f 0) z ∷ l) (image-several n (λ i. f (suc i)) z)

-- x is row i at p, and 0 past the rows
abbrev pub Valued : Map → List ℤ → ℕ → ℤ → Type 0
Valued m p i x =
    (i < m.height → (n : ℕ) → NeatRow n (line m i) → x ≡ row_at (row_of n (line m i)) (point_of n p)) × (m.height ≤ i → x ≡ pos 0)

module _ (m : Map) (p : List ℤ) (a b c d : ℤ) (h : Neat m) where
  pub image-is :
      Valued m p 0 a → Valued m p 1 b → Valued m p 2 c → Valued m p 3 d →
      (point_of m.height (a ∷ b ∷ c ∷ d ∷ []) ≡ image (map_of m).rows (point_of m.width p)) × Padded m.height (a ∷ b ∷ c ∷ d ∷ [])
  image-is va vb vc vd =
      let y = a ∷ b ∷ c ∷ d ∷ [] in
      let each : (i : ℕ) → i < 4 → Valued m p i (at y i) = below-four (λ i. Valued m p i (at y i)) va vb vc vd in
      let same : point_of m.height y ≡ several m.height (λ i. row_at (row_of m.width (line m i)) (point_of m.width p)) =
      several-same m.height (at y) _ (λ i k. (each i (let f = h.rows_few in omega arith)).0 k m.width (neat-line m h i)) in (
        same ∙ sym (image-several m.height (λ i. row_of m.width (line m i)) (point_of m.width p)),
        λ j l. ⊎_elim (λ k. (each j k).1 l) (λ k. past-four a b c d (pos 0) j k) (lt-or-le j 4),
      )

-- ---- a row after a map

zeroes-several : (n : ℕ) → zeroes n ≡ several n (λ j. pos 0)
zeroes-several zero = refl
zeroes-several (suc n) = ap (λ l. pos 0 ∷ l) (zeroes-several n)

scale-several : (c : ℤ) (n : ℕ) (g : ℕ → ℤ) → scale c (several n g) ≡ several n (λ j. c *ℤ g j)
scale-several c zero g = refl
scale-several c (suc n) g = ap (λ l. (c *ℤ g 0) ∷ l) (scale-several c n (λ j. g (suc j)))

add_all-several : (n : ℕ) (f g : ℕ → ℤ) → add_all (several n f) (several n g) ≡ several n (λ j. f j +ℤ g j)
add_all-several zero f g = refl
add_all-several (suc n) f g = ap (λ l. (f 0 +ℤ g 0) ∷ l) (add_all-several n (λ j. f (suc j)) (λ j. g (suc j)))

module _ (n : ℕ) where
  -- the combination of rows by index: column by column
  combine-coefs :
      (h : ℕ) (a : ℕ → ℤ) (b : ℕ → ℕ → ℤ) (k : ℕ → ℤ) →
      (combine (several h a) (several h (λ i. record { coefs = several n (b i); const = k i })) n).coefs
      ≡ several n (λ j. dot (several h a) (several h (λ i. b i j)))
  combine-coefs zero a b k = zeroes-several n
  combine-coefs (suc h) a b k =
      rw (combine-coefs h (λ i. a (suc i)) (λ i. b (suc i)) (λ i. k (suc i)), scale-several (a 0) n (b 0)) (add_all-several n _ _)

  combine-const :
      (h : ℕ) (a : ℕ → ℤ) (r : ℕ → Sheet.Row) → (combine (several h a) (several h r) n).const ≡ dot (several h a) (several h (λ i. (r i).const))
  combine-const zero a r = refl
  combine-const (suc h) a r = ap (λ t. a 0 *ℤ (r 0).const +ℤ t) (combine-const h (λ i. a (suc i)) (λ i. r (suc i)))

pub row_same : {xs ys : List ℤ} {x y : ℤ} → xs ≡ ys → x ≡ y → ◌≡◌ {A = Sheet.Row} (record { coefs = xs; const = x }) (record { coefs = ys; const = y })
row_same e f = rw (e, f)

module _ (f : Map) (w : Row) (n : Neat f) (rest : Padded f.height w.coef) where
  -- from four rows to those that the map has
  fewer : (z : ℕ → ℤ) → dot (several 4 (at w.coef)) (several 4 z) ≡ dot (several f.height (at w.coef)) (several f.height z)
  fewer z = dot-several 4 f.height (at w.coef) z n.rows_few rest

  module _ (a b c d k : ℤ) where
    pub after_is :
        a ≡ dot (several 4 (at w.coef)) (column f 0) → b ≡ dot (several 4 (at w.coef)) (column f 1) →
        c ≡ dot (several 4 (at w.coef)) (column f 2) → d ≡ dot (several 4 (at w.coef)) (column f 3) →
        k ≡ row_at (row_of 4 w) (constants f) → After f w (record { coef = a ∷ b ∷ c ∷ d ∷ []; constant = k })
    after_is ea eb ec ed ek =
        let y = a ∷ b ∷ c ∷ d ∷ [] in
        let ws = several f.height (at w.coef) in
        let each : (j : ℕ) → j < 4 → at y j ≡ dot (several 4 (at w.coef)) (column f j) =
        below-four (λ j. at y j ≡ dot (several 4 (at w.coef)) (column f j)) ea eb ec ed in
        let past : (j : ℕ) → 4 ≤ j → at y j ≡ pos 0 = λ j l. past-four a b c d (pos 0) j l in
        let coefs : several f.width (at y) ≡ several f.width (λ j. dot ws (several f.height (λ i. at (line f i).coef j))) =
        several-same f.width (at y) _
        (λ j l. each j (let q = n.cols_few in omega arith) ∙ fewer (λ i. at (line f i).coef j)) in
        record {
          is =
              row_same
              (coefs ∙ sym (combine-coefs f.width f.height (at w.coef) (λ i. at (line f i).coef) (λ i. (line f i).constant)))
              (ek ∙ ap (λ t. t +ℤ w.constant)
              (fewer (λ i. (line f i).constant) ∙ sym (combine-const f.width f.height (at w.coef) (λ i. row_of f.width (line f i)))));
          rest = λ j l.
              ⊎_elim (λ q. each j q ∙ dot-origin 4 (at w.coef) (λ i. at (line f i).coef j) (λ i. n.lines i j l)) (past j) (lt-or-le j 4);
          zeros = λ z.
              record {
                coefs = λ j l.
                    ⊎_elim (λ q. each j q ∙ dot-nothing 4 (at w.coef) (λ i. at (line f i).coef j) z.coefs) (past j) (lt-or-le j 4);
                const = ek ∙ rw (dot-nothing 4 (at w.coef) (λ i. (line f i).constant) z.coefs, z.const);
              };
        }

-- ---- a map after a map

pub map_same : {h : ℕ} {rs qs : List Sheet.Row} → rs ≡ qs → ◌≡◌ {A = Sheet.Map} (record { cols = h; rows = rs }) (record { cols = h; rows = qs })
map_same e = rw e

-- a row past the four is 0
pub past-line : (a b c d : Row) (h k i : ℕ) → 4 ≤ i → ZeroRow (line (record { rows = a ∷ b ∷ c ∷ d ∷ []; height = h; width = k }) i)
past-line a b c d h k i l =
    rw (past-four a b c d (record { coef = []; constant = pos 0 }) i l) (record { coefs = λ j q. refl; const = refl })

module _ (g f : Map) (ng : Neat g) (nf : Neat f) (e : g.width ≡ f.height) (a b c d : Row) where
  pub compose-is :
      After f (line g 0) a → After f (line g 1) b → After f (line g 2) c → After f (line g 3) d →
      (map_of (record { rows = a ∷ b ∷ c ∷ d ∷ []; height = g.height; width = f.width }) ≡ map_after (map_of f) (map_of g))
      × Neat (record { rows = a ∷ b ∷ c ∷ d ∷ []; height = g.height; width = f.width })
  compose-is pa pb pc pd =
      let m : Map = record { rows = a ∷ b ∷ c ∷ d ∷ []; height = g.height; width = f.width } in
      let each : (i : ℕ) → i < 4 → After f (line g i) (line m i) = below-four (λ i. After f (line g i) (line m i)) pa pb pc pd in
      let rows : (map_of m).rows ≡ several g.height (λ i. row_after (map_of f) (row_of g.width (line g i))) =
      several-same g.height (λ i. row_of f.width (line m i)) _
      (λ i l. (each i (let q = ng.rows_few in omega arith)).is ∙ ap (λ n. row_after (map_of f) (row_of n (line g i))) (sym e)) in
      let past = past-line a b c d g.height f.width in (
        map_same (rows ∙ sym (map-several (row_after (map_of f)) g.height (λ i. row_of g.width (line g i)))),
        record {
          rows_few = ng.rows_few;
          cols_few = nf.cols_few;
          lines = λ i. ⊎_elim (λ l. (each i l).rest) (λ l. padded-more (line m i).coef (omega arith) (past i l).coefs) (lt-or-le i 4);
          beyond = λ i q. ⊎_elim (λ l. (each i l).zeros (ng.beyond i q)) (past i) (lt-or-le i 4);
        },
      )

-- ---- the identity

mark-off : (i n : ℕ) → n ≤ i → mark_of i n ≡ pos 0
mark-off i n h = rw (le-ltb i n h)

-- zeros but at one place, where they are 0 from that place on
module _ (x z : ℤ) (e : z ≡ pos 0) (n : ℕ) where
  at_first : (n ≤ 0 → x ≡ pos 0) → Padded n (x ∷ z ∷ z ∷ z ∷ [])
  at_first f zero h = f h
  at_first f (suc zero) h = e
  at_first f (suc (suc zero)) h = e
  at_first f (suc (suc (suc zero))) h = e
  at_first f (suc (suc (suc (suc j)))) h = refl

  at_second : (n ≤ 1 → x ≡ pos 0) → Padded n (z ∷ x ∷ z ∷ z ∷ [])
  at_second f zero h = e
  at_second f (suc zero) h = f h
  at_second f (suc (suc zero)) h = e
  at_second f (suc (suc (suc zero))) h = e
  at_second f (suc (suc (suc (suc j)))) h = refl

  at-third : (n ≤ 2 → x ≡ pos 0) → Padded n (z ∷ z ∷ x ∷ z ∷ [])
  at-third f zero h = e
  at-third f (suc zero) h = e
  at-third f (suc (suc zero)) h = f h
  at-third f (suc (suc (suc zero))) h = e
  at-third f (suc (suc (suc (suc j)))) h = refl

  at-fourth : (n ≤ 3 → x ≡ pos 0) → Padded n (z ∷ z ∷ z ∷ x ∷ [])
  at-fourth f zero h = e
  at-fourth f (suc zero) h = e
  at-fourth f (suc (suc zero)) h = e
  at-fourth f (suc (suc (suc zero))) h = f h
  at-fourth f (suc (suc (suc (suc j)))) h = refl

module _ (a b c d z : ℤ) where
  -- four rows with a number on the diagonal and z elsewhere
  abbrev diagonal : ℕ → Map
  diagonal n = record {
    rows =
        record { coef = a ∷ z ∷ z ∷ z ∷ []; constant = z } ∷ record { coef = z ∷ b ∷ z ∷ z ∷ []; constant = z }
        ∷ record { coef = z ∷ z ∷ c ∷ z ∷ []; constant = z } ∷ record { coef = z ∷ z ∷ z ∷ d ∷ []; constant = z } ∷ [];
    height = n;
    width = n;
  }

  module _ (ez : z ≡ pos 0) where
    diagonal-is :
        (n : ℕ) → n ≤ 4 → a ≡ mark_of 0 n → b ≡ mark_of 1 n → c ≡ mark_of 2 n → d ≡ mark_of 3 n → map_of (diagonal n) ≡ identity n
    diagonal-is zero h ea eb ec ed = refl
    diagonal-is (suc zero) h ea eb ec ed = rw (ea, ez)
    diagonal-is (suc (suc zero)) h ea eb ec ed = rw (ea, eb, ez)
    diagonal-is (suc (suc (suc zero))) h ea eb ec ed = rw (ea, eb, ec, ez)
    diagonal-is (suc (suc (suc (suc zero)))) h ea eb ec ed = rw (ea, eb, ec, ed, ez)
    diagonal-is (suc (suc (suc (suc (suc n))))) h ea eb ec ed = absurd (omega arith)

    pub identity-is :
        (n : ℕ) → n ≤ 4 → a ≡ mark_of 0 n → b ≡ mark_of 1 n → c ≡ mark_of 2 n → d ≡ mark_of 3 n →
        (map_of (diagonal n) ≡ identity n) × Neat (diagonal n)
    identity-is n h ea eb ec ed =
        let m = diagonal n in
        let oa : n ≤ 0 → a ≡ pos 0 = λ q. ea ∙ mark-off 0 n q in
        let ob : n ≤ 1 → b ≡ pos 0 = λ q. eb ∙ mark-off 1 n q in
        let oc : n ≤ 2 → c ≡ pos 0 = λ q. ec ∙ mark-off 2 n q in
        let od : n ≤ 3 → d ≡ pos 0 = λ q. ed ∙ mark-off 3 n q in (
          diagonal-is n h ea eb ec ed,
          record {
            rows_few = h;
            cols_few = h;
            lines =
                by-four (λ i. Padded n (line m i).coef) (at_first a z ez n oa) (at_second b z ez n ob) (at-third c z ez n oc)
                (at-fourth d z ez n od) (λ i q. padded-more (line m i).coef (omega arith) (past-line _ _ _ _ n n i q).coefs);
            beyond =
                by-four (λ i. n ≤ i → ZeroRow (line m i))
                (λ q. record { coefs = at_first a z ez 0 (λ _. oa q); const = ez })
                (λ q. record { coefs = at_second b z ez 0 (λ _. ob q); const = ez })
                (λ q. record { coefs = at-third c z ez 0 (λ _. oc q); const = ez })
                (λ q. record { coefs = at-fourth d z ez 0 (λ _. od q); const = ez }) (λ i q _. past-line _ _ _ _ n n i q);
          },
        )
