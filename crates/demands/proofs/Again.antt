-- Rewriting the normal form of an accepted sheet writes the same bytes again. Assumes nothing.
use mathlib.Core.Path.{◌≡◌, refl, ap, ◌∙◌, subst, fun_ext}
use Prim.Native.Nat.{ℕ, suc, ◌+◌, ◌≤◌, ◌<◌}
use native.Mathlib.Nat.{zero-add}
use native.Mathlib.Omega.{arith}
use mathlib.Core.Bool.{Bool, true, false}
use mathlib.Core.List.{List, [], ◌∷◌, ◌++◌, append_assoc}
use lib.ListN.{length, take}
use lib.Seq.{take_at}
use Rattle.alpha.specs.Pick.{ifb}
use Rattle.alpha.specs.Answer.{accepted, refused, next, WIDE}
use Rattle.alpha.specs.Field.{nat}
use Rattle.alpha.specs.Sheet.{Raw, Sheet, Expr.kase, Exprs.none}
use Rattle.alpha.specs.Read.{got, read, dimension}
use Rattle.alpha.specs.Holds.{variable, is_input}
use Rattle.alpha.specs.Check.{checked, after_read, check}
use Rattle.alpha.specs.Run.{room}
use Rattle.alpha.specs.Written.{bytes, node_count}
use Rattle.alpha.specs.Normal.{norm}
use Rattle.alpha.specs.Normalise.{dims, branches_of, normal_body, Body, written, keeps_limits, write_bodies, normal_form, normal_after, normalise}
use Rattle.laws.specs.Accepted.{Accepted}
use Rattle.laws.specs.Normal.{body_bytes, body_nodes, placed, rewritten}
use Rattle.laws.proofs.Checked.{Found, accepted-dimension, accepted-body}
use Rattle.laws.proofs.Widths.{at_wide}
use Rattle.laws.proofs.NormalAgain.{normal-again}
use Rattle.laws.proofs.Rewritten.{Wrote, write-wrote}
use Rattle.demands.proofs.Steps.{next-accepted, room-enough, room-there}
use Rattle.laws.proofs.NormalAccepted.{place_of, front, again, read_out, written-accepted}

-- ---- the bodies

-- the normal forms of xs, bodies of the sheet t, have their own branches again
abbrev AllAgain : Sheet → Sheet → Sheet → Type 0
AllAgain s t [] = Unit {0}
AllAgain s t (x ∷ xs) = (is_input x ≡ false → norm (normal_body s x) (dims t) ≡ branches_of s x) × AllAgain s t xs

all-by-index : (s t xs : Sheet) →
    ((v : ℕ) → v < length xs → is_input (variable xs v) ≡ false → norm (normal_body s (variable xs v)) (dims t) ≡ branches_of s (variable xs v)) → AllAgain s t xs
all-by-index s t [] f = tt
all-by-index s t (x ∷ xs) f = (f 0 (omega arith), all-by-index s t xs (λ v lt i. f (suc v) (omega arith) i))

-- the writer does with the normal forms what it does with the bodies
write_again : (s t : Sheet) (front : ℕ) (xs : Sheet) (v q : ℕ) (w : Body) → AllAgain s t xs →
    write_bodies t front v (rewritten s xs q) w ≡ write_bodies s front v xs w
unfolding write_bodies
write_again s t front [] v q w h = refl
write_again s t front (x ∷ xs) v q w h = go (is_input x) refl (λ m u. write_again s t front xs (suc v) m u h.1)
  where
    go : (b : Bool) → is_input x ≡ b → ((m : ℕ) (u : Body) → write_bodies t front (suc v) (rewritten s xs m) u ≡ write_bodies s front (suc v) xs u) →
        write_bodies t front v (ifb b (λ _. placed x (kase none) q q ∷ rewritten s xs q)
        (λ _. placed x (normal_body s x) q (q + length (bytes (normal_body s x))) ∷ rewritten s xs (q + length (bytes (normal_body s x))))) w
        ≡ ifb b (λ _. write_bodies s front (suc v) xs w) (λ _.
        ifb (keeps_limits (branches_of s x) (normal_body s x) (w.nodes + node_count (normal_body s x)) (front + length (w.out ++ bytes (normal_body s x))))
        (λ _. write_bodies s front (suc v) xs (written w (normal_body s x))) (λ _. refused WIDE v))
    go true i k = rw (i, k q w)
    go false i k = rw (i, h.0 i, k (q + length (bytes (normal_body s x))) (written w (normal_body s x)))

module _ {bs : List ℕ} {r : Raw} {s : Sheet} (a : Accepted bs r s) (p : ℕ) where
  branches-again : (v : ℕ) → v < length s → is_input (variable s v) ≡ false →
      norm (normal_body s (variable s v)) (dims (rewritten s s p)) ≡ branches_of s (variable s v)
  branches-again v lt i =
      let x = variable s v in
      let b = accepted-body a v lt i in
      let old : dims s ≡ dimension r.heads = fun_ext (accepted-dimension a) in
      let new : dims (rewritten s s p) ≡ dimension r.heads = fun_ext (λ w.
      ap (λ y. length y.head.box) (place_of a p w).is ∙ accepted-dimension a w) in
      rw (new, old) (normal-again r.heads (length x.head.box) x.body (at_wide (length s) bs x.body x.start x.end b.at) b.fitting)

  pub bodies-again : (front : ℕ) (w : Body) → write_bodies (rewritten s s p) front 0 (rewritten s s p) w ≡ write_bodies s front 0 s w
  bodies-again front w = write_again s (rewritten s s p) front s 0 p w (all-by-index s (rewritten s s p) s branches-again)

-- ---- the bytes

-- what the bytes o are, where they are the normal form of the sheet s that the bytes bs are
pub record NormalOf (bs : List ℕ) (r : Raw) (s : Sheet) (o : List ℕ) : Type 0 where
  pub bytes_are : o ≡ take r.third bs ++ nat (body_nodes s s) ++ body_bytes s s
  pub sections-copied : take r.third o ≡ take r.third bs
  pub nodes : ℕ
  pub read_is : read o ≡ got (record { heads = r.heads; decls = r.decls; second = r.second; third = r.third; first = r.third + 8; nodes = nodes }) (length o)
  pub accepts : check o ≡ accepted (rewritten s s (r.third + 8))
  pub again : normal_after o (read o) ≡ accepted o

module _ {bs : List ℕ} {r : Raw} {s : Sheet} (a : Accepted bs r s) where
  module _ (w : Body) (k : write_bodies s (r.third + 8) 0 s (record { nodes = 0; out = [] }) ≡ accepted w) where
    wrote : Wrote s (r.third + 8) s (record { nodes = 0; out = [] }) w
    wrote = write-wrote s (r.third + 8) 0 k

    copied : take r.third (take r.third bs ++ nat w.nodes ++ w.out) ≡ take r.third bs
    copied = rw append_assoc (take_at (take r.third bs) (nat w.nodes ++ w.out) r.third (front a w wrote))

    form-again : normal_form (take r.third bs ++ nat w.nodes ++ w.out) (again a w wrote) (rewritten s s (r.third + 8))
        ≡ accepted (take r.third bs ++ nat w.nodes ++ w.out)
    unfolding normal_form
    form-again = rw (bodies-again a (r.third + 8) (r.third + 8) (record { nodes = 0; out = [] }), k, copied)

    checked-out : checked (take r.third bs ++ nat w.nodes ++ w.out) (again a w wrote) ≡ accepted (rewritten s s (r.third + 8))
    unfolding check after_read
    checked-out = rw (read_out a w wrote) at (written-accepted a w wrote)

    normal-of-written : NormalOf bs r s (take r.third bs ++ nat w.nodes ++ w.out)
    normal-of-written = record {
      bytes_are = rw (wrote.out_is, wrote.nodes_are, zero-add (body_nodes s s));
      sections-copied = copied;
      nodes = w.nodes;
      read_is = read_out a w wrote;
      accepts = written-accepted a w wrote;
      again = unfold normal_after in rw (read_out a w wrote, checked-out, form-again);
    }

  pub normal-of : (o : List ℕ) → normal_form bs r s ≡ accepted o → NormalOf bs r s o
  unfolding normal_form
  normal-of o e =
      let a = next-accepted (write_bodies s (r.third + 8) 0 s (record { nodes = 0; out = [] })) _ o e in
      let w = a.0 in
      let same : take r.third bs ++ nat w.nodes ++ w.out ≡ o = let f = a.2 in cc in
      subst (NormalOf bs r s) same (normal-of-written w a.1)

-- ---- with the room lent

-- bytes that are their own normal form are written again wherever they have room
pub normalise-again : (o : List ℕ) → normal_after o (read o) ≡ accepted o → (lent : ℕ) → length o ≤ lent → normalise o lent ≡ accepted o
unfolding normalise
normalise-again o e lent h = rw (e, room-enough (length o) lent h)

-- the normal form of an accepted sheet
pub after-found : {bs : List ℕ} {s : Sheet} (f : Found bs s) → check bs ≡ accepted s → normal_after bs (read bs) ≡ normal_form bs f.raw s
unfolding normal_after check after_read
after-found {bs} f c = ap (normal_after bs) f.read_is ∙ ap (λ m. next m (λ s. normal_form bs f.raw s)) (rw f.read_is at c)

-- what was written is the normal form, and had room
pub record Normalised (bs : List ℕ) (r : Raw) (s : Sheet) (lent : ℕ) (o : List ℕ) : Type 0 where
  pub form : normal_form bs r s ≡ accepted o
  pub room-is : length o ≤ lent

pub normalise-form : {bs : List ℕ} {s : Sheet} (f : Found bs s) (lent : ℕ) (o : List ℕ) → check bs ≡ accepted s → normalise bs lent ≡ accepted o →
    Normalised bs f.raw s lent o
unfolding normalise
normalise-form {bs} {s} f lent o c e =
    let a = next-accepted (normal_form bs f.raw s) (λ out. next (room (length out) lent) (λ _. accepted out)) o (rw (after-found f c) at e) in
    let b = next-accepted (room (length a.0) lent) (λ _. accepted a.0) o a.2 in
    let same : a.0 ≡ o = let g = b.2 in cc in
    record { form = a.1 ∙ ap accepted same; room-is = subst (λ l. length l ≤ lent) same (room-there (length a.0) lent b.1) }
