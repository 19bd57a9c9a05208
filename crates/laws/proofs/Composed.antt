-- A map composed with a map, over the definitions of crate alpha: the row after f at z is the row at f's image of z. Assumes nothing.
use Prim.Native.Nat.{ℕ, zero, suc}
use mathlib.Core.Path.{◌≡◌, refl, sym, ap, ◌∙◌}
use mathlib.Core.List.{List, [], ◌∷◌, map}
use lib.ListN.{length}
use lib.IntN.{ℤ, pos, ◌+ℤ◌, ◌*ℤ◌, +ℤ_idl, +ℤ_idr, +ℤ_assoc, zero-*ℤ, *ℤ-zero}
use Rattle.laws.proofs.Ring.{*ℤ-distr, *ℤ-distl, *ℤ-assoc, +ℤ-middle, one-*ℤ}
use Rattle.alpha.specs.Sheet.{Row, Constraint, Map, Point}
use Rattle.alpha.specs.Affine.{dot, row_at, stands, meets, meets_all, image, scale, add_all, zeroes, combine, row_after, constraint_after, wider, id_rows, identity}

-- ---- at a point, coefficients scaled and added

dot-zeroes : (n : ℕ) (z : Point) → dot (zeroes n) z ≡ pos 0
dot-zeroes zero z = refl
dot-zeroes (suc n) [] = refl
dot-zeroes (suc n) (x ∷ z) = ap (λ t. t +ℤ dot (zeroes n) z) (zero-*ℤ x) ∙ +ℤ_idl _ ∙ dot-zeroes n z

dot-scale : (c : ℤ) (xs : List ℤ) (z : Point) → dot (scale c xs) z ≡ c *ℤ dot xs z
dot-scale c [] z = sym (*ℤ-zero c)
dot-scale c (a ∷ xs) [] = sym (*ℤ-zero c)
dot-scale c (a ∷ xs) (x ∷ z) =
    ap (λ t. t +ℤ dot (scale c xs) z) (*ℤ-assoc c a x) ∙ ap (λ t. c *ℤ (a *ℤ x) +ℤ t) (dot-scale c xs z)
    ∙ sym (*ℤ-distl c (a *ℤ x) (dot xs z))

dot-add_all : (xs bs : List ℤ) (z : Point) → dot (add_all xs bs) z ≡ dot xs z +ℤ dot bs z
dot-add_all [] bs z = sym (+ℤ_idl (dot bs z))
dot-add_all (a ∷ xs) [] z = sym (+ℤ_idr (dot (a ∷ xs) z))
dot-add_all (a ∷ xs) (b ∷ bs) [] = refl
dot-add_all (a ∷ xs) (b ∷ bs) (x ∷ z) =
    ap (λ t. t +ℤ dot (add_all xs bs) z) (*ℤ-distr a b x) ∙ ap (λ t. a *ℤ x +ℤ b *ℤ x +ℤ t) (dot-add_all xs bs z)
    ∙ +ℤ-middle (a *ℤ x) (b *ℤ x) (dot xs z) (dot bs z)

combine-at : (cs : List ℤ) (rs : List Row) (n : ℕ) (z : Point) → row_at (combine cs rs n) z ≡ dot cs (image rs z)
combine-at [] rs n z = ap (λ t. t +ℤ pos 0) (dot-zeroes n z)
combine-at (c ∷ cs) [] n z = ap (λ t. t +ℤ pos 0) (dot-zeroes n z)
combine-at (c ∷ cs) (r ∷ rs) n z =
    let rest = combine cs rs n in
    let first = scale c r.coefs in
    ap (λ t. t +ℤ (c *ℤ r.const +ℤ rest.const)) (dot-add_all first rest.coefs z)
    ∙ +ℤ-middle (dot first z) (dot rest.coefs z) (c *ℤ r.const) rest.const
    ∙ ap (λ t. t +ℤ c *ℤ r.const +ℤ row_at rest z) (dot-scale c r.coefs z)
    ∙ ap (λ t. t +ℤ row_at rest z) (sym (*ℤ-distl c (dot r.coefs z) r.const))
    ∙ ap (λ t. c *ℤ row_at r z +ℤ t) (combine-at cs rs n z)

-- ---- one after the other

pub row-after : (f : Map) (w : Row) (z : Point) → row_at (row_after f w) z ≡ row_at w (image f.rows z)
row-after f w z =
    let both = combine w.coefs f.rows f.cols in
    sym (+ℤ_assoc (dot both.coefs z) both.const w.const)
    ∙ ap (λ t. t +ℤ w.const) (combine-at w.coefs f.rows f.cols z)

pub image-after : (f : Map) (rs : List Row) (z : Point) → image (map (row_after f) rs) z ≡ image rs (image f.rows z)
image-after f [] z = refl
image-after f (r ∷ rs) z = rw (row-after f r z, image-after f rs z)

pub meets-after : (f : Map) (c : Constraint) (z : Point) → meets (constraint_after f c) z ≡ meets c (image f.rows z)
meets-after f c z = ap (stands c.rel) (row-after f c.row z)

pub meets_all-after : (f : Map) (cs : List Constraint) (z : Point) → meets_all (map (constraint_after f) cs) z ≡ meets_all cs (image f.rows z)
meets_all-after f [] z = refl
meets_all-after f (c ∷ cs) z = rw (meets-after f c z, meets_all-after f cs z)

-- ---- the identity

image-wider : (rs : List Row) (x : ℤ) (z : Point) → image (map wider rs) (x ∷ z) ≡ image rs z
image-wider [] x z = refl
image-wider (r ∷ rs) x z = rw (zero-*ℤ x, +ℤ_idl (dot r.coefs z), image-wider rs x z)

pub image-identity : (z : Point) → image (identity (length z)).rows z ≡ z
image-identity [] = refl
image-identity (x ∷ z) =
    rw (one-*ℤ x, dot-zeroes (length z) z, +ℤ_idr x, +ℤ_idr x, image-wider (id_rows (length z)) x z, image-identity z)

-- ---- lengths

pub length-image : (rs : List Row) (z : Point) → length (image rs z) ≡ length rs
length-image [] z = refl
length-image (r ∷ rs) z = ap suc (length-image rs z)
