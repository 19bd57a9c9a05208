-- Names where they stand: the bytes of a field, the rest of a name, and names at the places of a table. Assumes nothing.
use mathlib.Core.Path.{◌≡◌, refl, sym, ap, ◌∙◌}
use mathlib.Core.Bool.{Bool, true, false, cond, not, ◌&&◌, ◌||◌}
use mathlib.Core.List.{List, [], ◌∷◌}
use Prim.Native.Nat.{ℕ, zero, suc, ◌+◌, ◌-◌, ◌≤◌, ◌<◌}
use native.Mathlib.Omega.{arith}
use borrow.Author.Tests.{ne_eqb, ltb-false}
use lib.Dec.{eqb, ltb}
use Rattle.std.proofs.Math.Numerals.{one-add}
use lib.ListN.{length, take, drop, length-drop}
use lib.Seq.{drop-cons, take-length}
use Rattle.std.specs.Prelude.{Option, Some, None}
use Rattle.std.specs.Option.{unwrap_or}
use lib.Pointwise.{pointwise}
use Rattle.std.specs.List.{list_all, list_any, position_or_len}
use Rattle.std.proofs.lemmas.List.Sums.{prefix_len-le-length}
use Rattle.alpha.specs.Field.{byte, eight, letter, zeros, name_tail, name_form, same_bytes}
use Rattle.sheet.specs.Name.{bytes_at, in_name, taken_at}

-- ---- bytes from a place on

module _ (bs : List ℕ) (p n : ℕ) where
  pub bytes-none : n ≡ 0 → bytes_at bs p n ≡ []
  unfolding bytes_at
  bytes-none e = rw e

  pub bytes-more : 0 < n → bytes_at bs p n ≡ byte bs p ∷ bytes_at bs (p + 1) (n - 1)
  unfolding bytes_at
  bytes-more h = go n h
    where
      go : (k : ℕ) → 0 < k → bytes_at bs p k ≡ byte bs p ∷ bytes_at bs (p + 1) (k - 1)
      go zero g = absurd (omega arith)
      go (suc k) g = let e : suc k - 1 ≡ k = omega arith in rw e

-- they are those of a slice
slice-bytes : (bs : List ℕ) (p n : ℕ) → p + n ≤ length bs → take n (drop p bs) ≡ bytes_at bs p n
unfolding bytes_at
slice-bytes bs p zero h = refl
slice-bytes bs p (suc n) h =
    let e : suc p ≡ p + 1 = omega arith in
    ap (take (suc n)) (drop-cons bs p 0 (omega arith))
    ∙ ap (λ (k : ℕ). byte bs p ∷ take n (drop k bs)) e
    ∙ ap (λ (l : List ℕ). byte bs p ∷ l) (slice-bytes bs (p + 1) n (omega arith))

-- a field's eight bytes
pub eight-first : (bs : List ℕ) (p : ℕ) → eight bs p ≡ byte bs p ∷ bytes_at bs (p + 1) 7
unfolding bytes_at
eight-first bs p =
    let a2 : p + 1 + 1 ≡ p + 2 = omega arith in
    let a3 : p + 2 + 1 ≡ p + 3 = omega arith in
    let a4 : p + 3 + 1 ≡ p + 4 = omega arith in
    let a5 : p + 4 + 1 ≡ p + 5 = omega arith in
    let a6 : p + 5 + 1 ≡ p + 6 = omega arith in
    let a7 : p + 6 + 1 ≡ p + 7 = omega arith in
    rw (a2, a3, a4, a5, a6, a7)

pub eight-bytes : (bs : List ℕ) (p : ℕ) → eight bs p ≡ bytes_at bs p 8
unfolding bytes_at
eight-bytes bs p = eight-first bs p

pub name-no-letter : (bs : List ℕ) (p : ℕ) → letter (byte bs p) ≡ false → name_form (eight bs p) ≡ false
name-no-letter bs p f = rw f

pub name-letter-bytes : (bs : List ℕ) (p : ℕ) → letter (byte bs p) ≡ true → name_form (eight bs p) ≡ name_tail (bytes_at bs (p + 1) 7)
name-letter-bytes bs p t = ap name_form (eight-first bs p) ∙ rw t

module _ (bs : List ℕ) (p : ℕ) (h : p + 8 ≤ length bs) where
  pub eight-slice : take (p + 8 - p) (drop p bs) ≡ eight bs p
  eight-slice = let e : p + 8 - p ≡ 8 = omega arith in rw e (slice-bytes bs p 8 h ∙ sym (eight-bytes bs p))

  pub name-letter : true ≡ letter (byte bs p) → name_form (eight bs p) ≡ name_tail (take (p + 8 - (p + 1)) (drop (p + 1) bs))
  name-letter t =
      let e : p + 8 - (p + 1) ≡ 7 = omega arith in
      ap name_form (eight-first bs p) ∙ rw (← t, e) (ap name_tail (sym (slice-bytes bs (p + 1) 7 (omega arith))))

-- ---- the rest of a name

zeros_all : (xs : List ℕ) → list_all (λ b. eqb b 0) xs ≡ zeros xs
zeros_all [] = refl
zeros_all (x ∷ xs) = ap (λ (b : Bool). eqb x 0 && b) (zeros_all xs)

or-false : (b : Bool) → b || false ≡ b
or-false true = refl
or-false false = refl

not-zero : (b : ℕ) → in_name b ≡ true → b ≡ 0 → ⊥
not-zero b t e = let z : ◌≡◌ {A = Bool} false true = rw e at t in let y : ◌≡◌ {A = ℕ} 0 1 = cc in omega arith

-- the place of the first byte that may not stand in a name
abbrev pub name_end : List ℕ → ℕ
name_end = position_or_len (λ b. not (in_name b))

-- from there on all bytes are zero
tail-zeros : (xs : List ℕ) → zeros (drop (name_end xs) xs) ≡ name_tail xs
tail-zeros [] = refl
tail-zeros (x ∷ xs) = go (in_name x) refl (tail-zeros xs)
  where
    go : (b : Bool) → in_name x ≡ b → zeros (drop (name_end xs) xs) ≡ name_tail xs → zeros (drop (name_end (x ∷ xs)) (x ∷ xs)) ≡ name_tail (x ∷ xs)
    go true t rest = rw (t, one-add, ne_eqb x 0 (not-zero x t)) (rest ∙ sym (or-false (name_tail xs)))
    go false f rest = rw f

pub tail-all : (xs : List ℕ) → list_all (λ b. eqb b 0) (take (length xs - name_end xs) (drop (name_end xs) xs)) ≡ name_tail xs
tail-all xs =
    let e = name_end xs in
    rw (← length-drop e xs, take-length (drop e xs)) (zeros_all (drop e xs) ∙ tail-zeros xs)

-- the place that the code goes on from
pub found-end : (xs : List ℕ) {o : Option ℕ} {k : ℕ} →
    o ≡ cond (ltb (name_end xs) (length xs)) (Some (name_end xs)) None → k ≡ unwrap_or o (length xs) → k ≡ name_end xs
found-end xs e u = rw (u, e) (go (ltb (name_end xs) (length xs)) refl)
  where
    go : (b : Bool) → ltb (name_end xs) (length xs) ≡ b → unwrap_or (cond b (Some (name_end xs)) None) (length xs) ≡ name_end xs
    go true t = refl
    go false f =
        let most = prefix_len-le-length (λ b. not (not (in_name b))) xs in
        let least = ltb-false (name_end xs) (length xs) f in
        omega arith

-- ---- the same name

pub same-pointwise : (xs ys : List ℕ) → pointwise eqb xs ys ≡ same_bytes xs ys
same-pointwise [] [] = refl
same-pointwise [] (y ∷ ys) = refl
same-pointwise (x ∷ xs) [] = refl
same-pointwise (x ∷ xs) (y ∷ ys) = ap (λ (b : Bool). eqb x y && b) (same-pointwise xs ys)

-- ---- names that stand at the places of a table

pub taken-any : (bs qs : List ℕ) (p : ℕ) → list_any (λ q. same_bytes (eight bs p) (eight bs q)) qs ≡ taken_at bs p qs
taken-any bs [] p = refl
taken-any bs (q ∷ qs) p = ap (λ (b : Bool). same_bytes (eight bs p) (eight bs q) || b) (taken-any bs qs p)
