-- The records at some places: how many there are, what dimension each has, where it stands. Assumes nothing.
use mathlib.Core.Path.{◌≡◌, refl, ap, ◌∙◌}
use mathlib.Core.List.{List, [], ◌∷◌, ◌++◌}
use Prim.Native.Nat.{ℕ, zero, suc, ◌+◌, ◌-◌, ◌≤◌, ◌<◌}
use native.Mathlib.Omega.{arith}
use borrow.Author.Count.{below_more}
use lib.ListN.{length, get_or, get_or-append, length-map, length-append}
use lib.Seq.{get_or-append_seam}
use lib.IntN.{nat_abs}
use Rattle.std.proofs.lemmas.List.{get_or_read}
use Rattle.alpha.specs.Answer.{next}
use Rattle.alpha.specs.Field.{field}
use Rattle.alpha.specs.Sheet.{Head}
use Rattle.alpha.specs.Read.{no_head, dimension, choice, constraint, declared}
use Rattle.sheet.specs.Place.{place_after}
use Rattle.sheet.specs.Record.{box_at, dimension_at, head_at, heads_at, Recorded, Known}
use Rattle.sheet.proofs.Readers.{declared-place}

pub box-length : (bs : List ℕ) (p n : ℕ) → length (box_at bs p n) ≡ n
unfolding box_at
box-length bs p zero = refl
box-length bs p (suc n) = ap suc (box-length bs (p + 16) n)

pub heads-length : (bs ps : List ℕ) → length (heads_at bs ps) ≡ length ps
heads-length bs ps = length-map ps (head_at bs)

pub heads-at : (bs ps : List ℕ) (v : ℕ) → v < length ps → get_or (heads_at bs ps) v no_head ≡ head_at bs (get_or ps v 0)
heads-at bs [] v h = absurd (omega arith)
heads-at bs (p ∷ ps) zero h = refl
heads-at bs (p ∷ ps) (suc v) h = heads-at bs ps v (omega arith)

pub heads-dimension : (bs ps : List ℕ) (v : ℕ) → v < length ps → dimension (heads_at bs ps) v ≡ dimension_at bs (get_or ps v 0)
unfolding head_at
heads-dimension bs ps v h = ap (λ (x : Head). length x.box) (heads-at bs ps v h) ∙ box-length bs (get_or ps v 0 + 32) (dimension_at bs (get_or ps v 0))

pub declared-known : (bs ps : List ℕ) (p : ℕ) → place_after (declared (heads_at bs ps) bs p) ≡
    next (place_after (choice (length ps - 1) bs p)) (λ q. place_after (constraint (dimension (heads_at bs ps) (nat_abs (field bs p))) bs q))
declared-known bs ps p =
    declared-place bs p (heads_at bs ps)
    ∙ ap (λ (k : ℕ). next (place_after (choice (k - 1) bs p))
    (λ q. place_after (constraint (dimension (heads_at bs ps) (nat_abs (field bs p))) bs q))) (heads-length bs ps)

-- the places of records are those of fields of eight bytes
pub known-place : {bs ps : List ℕ} → Known bs ps → (x i : ℕ) → i < length ps → x ≡ get_or ps i x → x + 8 ≤ length bs
known-place {bs} {ps} known x i h e =
    let is = get_or_read ps i x h e 0 in
    let r = (known.recorded i h).fields in
    omega arith

-- and a record more
pub known-more : {bs ps : List ℕ} {p : ℕ} → Known bs ps → length ps < 32 → Recorded bs p → Known bs (ps ++ (p ∷ []))
known-more {bs} {ps} {p} known room one =
    let longer : length (ps ++ (p ∷ [])) ≡ length ps + 1 = simp length-append in
    record { few = omega arith; recorded = λ i h. all i (omega arith) }
  where
    all : (i : ℕ) → i < length ps + 1 → Recorded bs (get_or (ps ++ (p ∷ [])) i 0)
    all = below_more (λ i. Recorded bs (get_or (ps ++ (p ∷ [])) i 0)) (length ps)
        (λ i h. rw (get_or-append ps (p ∷ []) 0 i h) (known.recorded i h))
        (rw (get_or-append_seam ps p [] 0) one)
