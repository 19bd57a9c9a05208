-- The text of a name and of coordinates: a law for each way through a loop, and how long it is. Assumes nothing.
use mathlib.Core.Path.{◌≡◌, refl, ap, ◌∙◌}
use Prim.Native.Nat.{ℕ, suc, ◌+◌, ◌*◌, ◌-◌, ◌≤◌, ◌<◌}
use native.Mathlib.Numerals.{add-one, one-add}
use native.Mathlib.Omega.{arith}
use mathlib.Core.Bool.{Bool, true, false, not, cond}
use mathlib.Core.List.{List, [], ◌∷◌, ◌++◌}
use lib.ListN.{length, get_or, take, drop, length-append}
use lib.Seq.{drop-cons}
use lib.IntN.{ℤ, pos, nat_abs}
use lib.Dec.{eqb, ltb}
use borrow.Author.Tests.{ltb-false, eq-eqb, ne_eqb}
use Rattle.std.specs.Prelude.{Option, None, Some}
use Rattle.std.specs.Option.{unwrap_or}
use Rattle.std.specs.List.{position, position_or_len}
use Rattle.std.proofs.lemmas.List.Sums.{prefix_len-le-length}
use Rattle.alpha.specs.Pick.{ifb}
use Rattle.alpha.specs.Field.{byte, eight}
use Rattle.alpha.specs.Sheet.{Point}
use Rattle.alpha.specs.Program.{int_text, trimmed, spaced}
use Rattle.sheet.specs.Name.{bytes_at}
use Rattle.sheet.proofs.Names.{bytes-none, bytes-more}
use Rattle.text.proofs.Numbers.{int_text-length}

-- ---- a name

-- it ends before the first zero byte
trimmed-take : (bs : List ℕ) → take (position_or_len (λ b. eqb b 0) bs) bs ≡ trimmed bs
trimmed-take [] = refl
trimmed-take (b ∷ bs) = go (eqb b 0) (trimmed-take bs)
  where
    go : (z : Bool) → take (position_or_len (λ c. eqb c 0) bs) bs ≡ trimmed bs →
        take (cond (not z) (1 + position_or_len (λ c. eqb c 0) bs) 0) (b ∷ bs) ≡ ifb z (λ _. []) (λ _. b ∷ trimmed bs)
    go true h = refl
    go false h = rw one-add (ap (λ t. b ∷ t) h)

found-or : (bs : List ℕ) → unwrap_or (position (λ b. eqb b 0) bs) (length bs) ≡ position_or_len (λ b. eqb b 0) bs
found-or bs = go (ltb n (length bs)) refl
  where
    n : ℕ
    n = position_or_len (λ b. eqb b 0) bs

    go : (t : Bool) → ltb n (length bs) ≡ t → unwrap_or (cond t (Some n) None) (length bs) ≡ n
    go true e = refl
    go false e = omega (arith, ltb-false n (length bs) e, prefix_len-le-length (λ b. not (eqb b 0)) bs)

pub trimmed-found : (bs : List ℕ) (r : Option ℕ) (n : ℕ) → r ≡ position (λ b. eqb b 0) bs → n ≡ unwrap_or r (length bs) → take n bs ≡ trimmed bs
trimmed-found bs r n f e = ap (λ k. take k bs) (e ∙ ap (λ o. unwrap_or o (length bs)) f ∙ found-or bs) ∙ trimmed-take bs

-- byte by byte
module _ (bs : List ℕ) (p n : ℕ) where
  pub trimmed-none : n ≡ 0 → trimmed (bytes_at bs p n) ≡ []
  trimmed-none e = ap trimmed (bytes-none bs p n e)

  pub trimmed-stop : 0 < n → byte bs p ≡ 0 → trimmed (bytes_at bs p n) ≡ []
  trimmed-stop h z = rw (bytes-more bs p n h, eq-eqb (byte bs p) 0 z)

  pub trimmed-more : 0 < n → (byte bs p ≡ 0 → ⊥) → trimmed (bytes_at bs p n) ≡ byte bs p ∷ trimmed (bytes_at bs (p + 1) (n - 1))
  trimmed-more h z = rw (bytes-more bs p n h, ne_eqb (byte bs p) 0 z)

-- the field at a place, byte by byte
cut : (bs : List ℕ) (n p q : ℕ) → p < length bs → q ≡ p + 1 → take (suc n) (drop p bs) ≡ byte bs p ∷ take n (drop q bs)
cut bs n p q h e = rw (e, add-one p) (ap (take (suc n)) (drop-cons bs p 0 h))

pub eight-cut : (bs : List ℕ) (p : ℕ) → p + 8 ≤ length bs → take (p + 8 - p) (drop p bs) ≡ eight bs p
eight-cut bs p h =
    let e : p + 8 - p ≡ 8 = omega arith in
    rw (
      e,
      cut bs 7 p (p + 1) (omega arith) refl,
      cut bs 6 (p + 1) (p + 2) (omega arith) (omega arith),
      cut bs 5 (p + 2) (p + 3) (omega arith) (omega arith),
      cut bs 4 (p + 3) (p + 4) (omega arith) (omega arith),
      cut bs 3 (p + 4) (p + 5) (omega arith) (omega arith),
      cut bs 2 (p + 5) (p + 6) (omega arith) (omega arith),
      cut bs 1 (p + 6) (p + 7) (omega arith) (omega arith),
      cut bs 0 (p + 7) (p + 8) (omega arith) (omega arith),
    )

trimmed-length : (bs : List ℕ) → length (trimmed bs) ≤ length bs
trimmed-length [] = omega arith
trimmed-length (b ∷ bs) = go (eqb b 0) (trimmed-length bs)
  where
    go : (z : Bool) → length (trimmed bs) ≤ length bs → length (ifb z (λ _. []) (λ _. b ∷ trimmed bs)) ≤ suc (length bs)
    go true h = omega arith
    go false h = omega arith

pub name-length : (bs : List ℕ) (p : ℕ) → length (trimmed (eight bs p)) ≤ 8
name-length bs p = trimmed-length (eight bs p)

-- ---- coordinates

-- the k-th coordinate after a space, and then the others
pub spaced-more : (k : ℕ) (z : List ℤ) → k < length z →
    spaced (drop k z) ≡ (32 ∷ []) ++ (int_text (get_or z k (pos 0)) ++ spaced (drop (k + 1) z))
spaced-more k z h = rw (drop-cons z k (pos 0) h, add-one)

pub spaced-length : (z : Point) → ((i : ℕ) → nat_abs (get_or z i (pos 0)) ≤ 32768) → length (spaced z) ≤ 7 * length z
spaced-length [] h = omega arith
spaced-length (x ∷ z) h =
    omega
    (arith, length-append (32 ∷ int_text x) (spaced z), int_text-length x 4 (omega (arith, h 0)), spaced-length z (λ i. h (suc i)))
