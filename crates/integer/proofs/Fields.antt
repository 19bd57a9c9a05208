-- A field is read and stored whole: std's bytes of a number are those of the definitions, and what is copied over a part of a list is
-- stored there. A word depends on its eight bytes only. Assumes nothing.
use Prim.Native.Nat.{ℕ, zero, suc, ◌+◌, ◌-◌, ◌/◌, ◌%◌, ◌≤◌, ◌<◌}
use mathlib.Core.Path.{◌≡◌, refl, sym, ap, ◌∙◌}
use mathlib.Core.List.{List, ◌++◌}
use native.Mathlib.Omega.{arith}
use lib.IntN.{ℤ, pos, negsuc}
use lib.ListN.{length, get_or, set, take, drop}
use lib.Seq.{sets, sets-eq}
use mir.Syntax.{w64}
use mir.Val.{of_z}
use Rattle.std.specs.Int.{to_le_bytes}
use Rattle.std.proofs.Common.{append_assoc, drop-drop}
use Rattle.std.proofs.lemmas.Nat.{shr-shr}
use borrow.Rule.Slice.PartMut.{put_mid}
use Rattle.laws.proofs.Written.{length-bytes_of}
use Rattle.alpha.specs.Field.{word_at, bytes_of, word_of}

-- std's eight bytes of a word are the definition's
pub le_bytes-bytes_of : (n : ℕ) → to_le_bytes w64 n ≡ bytes_of 8 n
unfolding bytes_of
le_bytes-bytes_of n =
    let e2 = shr-shr n 8 8 in
    let e3 = shr-shr n 16 8 in
    let e4 = shr-shr n 24 8 in
    let e5 = shr-shr n 32 8 in
    let e6 = shr-shr n 40 8 in
    let e7 = shr-shr n 48 8 in
    rw (e2, e3, e4, e5, e6, e7)

-- the machine's word of a number is the definition's
pub of_z-word_of : (x : ℤ) → of_z w64 x ≡ word_of x
of_z-word_of (pos n) = refl
of_z-word_of (negsuc n) = omega arith

-- what is copied over k elements is stored from the first of them on
pub put_mid-sets : (a k : ℕ) (xs ys : List ℕ) → length ys ≡ k → a + k ≤ length xs → put_mid a k xs ys ≡ sets xs a ys
put_mid-sets a k xs ys e h =
    let stored = sets-eq ys xs a (rw e h) in
    ap (λ l. take a xs ++ (ys ++ l)) (drop-drop k a xs ∙ ap (λ n. drop (a + n) xs) (sym e)) ∙ sym (append_assoc (take a xs) ys _) ∙ sym stored

-- one byte stored, and the rest to store
pub sets-bytes_of :
    (b : List ℕ) (p left n : ℕ) → 0 < left →
    sets b p (bytes_of left n) ≡ sets (set b p (n % 256)) (p + 1) (bytes_of (left - 1) (n / 256))
unfolding bytes_of
sets-bytes_of b p zero n h = absurd (omega arith)
sets-bytes_of b p (suc k) n h =
    let e : suc k - 1 ≡ k = omega arith in
    let q : p + 1 ≡ suc p = omega arith in rw (e, q)

-- the eight bytes of a word, copied over a field
pub put_field :
    (b : List ℕ) (at n : ℕ) (copied : List ℕ) → copied ≡ to_le_bytes w64 n → at + 8 ≤ length b →
    put_mid at (at + 8 - at) b copied ≡ sets b at (bytes_of 8 n)
put_field b at n copied e h =
    let k : at + 8 - at ≡ 8 = omega arith in
    let same = e ∙ le_bytes-bytes_of n in
    rw (k, same) (put_mid-sets at 8 b (bytes_of 8 n) (length-bytes_of 8 n) h)

-- a word depends on its eight bytes only
pub word_at-same :
    (bs cs : List ℕ) (q p : ℕ) → ((k : ℕ) → k < 8 → get_or bs (q + k) 0 ≡ get_or cs (p + k) 0) → word_at bs q ≡ word_at cs p
word_at-same bs cs q p e =
    let z : q + 0 ≡ q = omega arith in
    let y : p + 0 ≡ p = omega arith in
    let e0 : get_or bs q 0 ≡ get_or cs p 0 = rw (z, y) at (e 0 (omega arith)) in
    let e1 = e 1 (omega arith) in
    let e2 = e 2 (omega arith) in
    let e3 = e 3 (omega arith) in
    let e4 = e 4 (omega arith) in
    let e5 = e 5 (omega arith) in
    let e6 = e 6 (omega arith) in
    let e7 = e 7 (omega arith) in
    rw (e0, e1, e2, e3, e4, e5, e6, e7)
