-- The normaliser writes the normal form exactly where it keeps the limits: WIDE is refused for no other sheet. Assumes nothing.
use mathlib.Core.Path.{◌≡◌, refl, sym, ap, ◌∙◌}
use Prim.Native.Nat.{ℕ, zero, suc, ◌+◌, ◌≤◌, ◌<◌}
use native.Mathlib.Nat.{zero-add, add-zero}
use native.Mathlib.Omega.{arith}
use mathlib.Core.Bool.{Bool, true, false}
use mathlib.Core.List.{List, [], ◌∷◌, ◌++◌, append-nil, append_assoc}
use lib.ListN.{length, get_or, take, length-append}
use lib.Seq.{length-take-le}
use lib.Dec.{leb}
use borrow.Author.Tests.{le-leb, leb-true}
use Rattle.alpha.specs.Pick.{ifb}
use Rattle.alpha.specs.Answer.{Answer, accepted, refused, next, WIDE}
use Rattle.alpha.specs.Field.{nat}
use Rattle.alpha.specs.Sheet.{Raw, Variable, Sheet}
use Rattle.alpha.specs.Read.{got, read}
use Rattle.alpha.specs.Holds.{variable, is_input}
use Rattle.alpha.specs.Check.{check}
use Rattle.alpha.specs.Run.{room}
use Rattle.alpha.specs.Written.{bytes, node_count, depth}
use Rattle.alpha.specs.Normal.{Branch}
use Rattle.alpha.specs.Normalise.{branches_of, normal_body, narrow, keeps_limits, Body, written, write_bodies, normal_form, normalise}
use Rattle.laws.specs.Accepted.{Accepted}
use Rattle.laws.specs.Normal.{body_bytes, body_nodes}
use Rattle.laws.specs.Sheets.{got_raw}
use Rattle.laws.proofs.Tests.{&&-left, &&-right, &&-true}
use Rattle.laws.proofs.Checked.{check_accepts}
use Rattle.laws.proofs.Written.{length-bytes_of}
use Rattle.laws.proofs.Rewritten.{Kept, AllKept, write-wrote}
use Rattle.laws.proofs.NormalAccepted.{kept_at}
use Rattle.demands.proofs.Steps.{next-accepted, room-enough}
use Rattle.demands.proofs.Again.{after-found}
use Rattle.demands.specs.Demands.{sections, normal_bytes, BodyKeeps, KeepsLimits}

-- ---- a body

narrow-each : (bs : List Branch) → narrow bs ≡ true → (i : ℕ) (b : Branch) → i < length bs → length (get_or bs i b).given ≤ 64
narrow-each [] h i b lt = absurd (omega arith)
narrow-each (c ∷ bs) h zero b lt = leb-true (length c.given) 64 (&&-left (leb (length c.given) 64) (narrow bs) h)
narrow-each (c ∷ bs) h (suc i) b lt = narrow-each bs (&&-right (leb (length c.given) 64) (narrow bs) h) i b (omega arith)

each-narrow : (bs : List Branch) → ((i : ℕ) (b : Branch) → i < length bs → length (get_or bs i b).given ≤ 64) → narrow bs ≡ true
each-narrow [] f = refl
each-narrow (c ∷ bs) f = &&-true (le-leb (length c.given) 64 (f 0 c (omega arith))) (each-narrow bs (λ i b lt. f (suc i) b (omega arith)))

kept-keeps : (s : Sheet) (x : Variable) → Kept s x → BodyKeeps s x
kept-keeps s x k = record { branches = k.few-branches; constraints = narrow-each (branches_of s x) k.narrow-branches; deep = k.deep }

keeps-kept : (s : Sheet) (x : Variable) → BodyKeeps s x → Kept s x
keeps-kept s x k = record { few-branches = k.branches; narrow-branches = each-narrow (branches_of s x) k.constraints; deep = k.deep }

-- ---- the bodies

all-kept : (s xs : Sheet) → ((v : ℕ) → v < length xs → is_input (variable xs v) ≡ false → BodyKeeps s (variable xs v)) → AllKept s xs
all-kept s [] f = tt
all-kept s (x ∷ xs) f = (λ i. keeps-kept s x (f 0 (omega arith) i), all-kept s xs (λ v lt i. f (suc v) (omega arith) i))

limits-kept : (s : Sheet) (x : Variable) (nodes bytes : ℕ) → Kept s x → nodes ≤ 2048 → bytes ≤ 65536 →
    keeps_limits (branches_of s x) (normal_body s x) nodes bytes ≡ true
limits-kept s x nodes bytes k n b =
    &&-true (&&-true (&&-true (&&-true (le-leb nodes 2048 n) (le-leb (length (branches_of s x)) 64 k.few-branches)) k.narrow-branches)
    (le-leb (depth (normal_body s x)) 32 k.deep)) (le-leb bytes 65536 b)

-- after w, with the bodies of xs
abbrev with_all : Sheet → Sheet → Body → Body
with_all s xs w = record { nodes = w.nodes + body_nodes s xs; out = w.out ++ body_bytes s xs }

module _ (s : Sheet) (front : ℕ) where
  -- where all together keep the limits, each body does with those before it
  write-all : (v : ℕ) (xs : Sheet) (w : Body) → AllKept s xs → w.nodes + body_nodes s xs ≤ 2048 → front + length (w.out ++ body_bytes s xs) ≤ 65536 →
      write_bodies s front v xs w ≡ accepted (with_all s xs w)
  unfolding write_bodies
  write-all v [] w k n l = ap {B = Answer Body} (λ m. accepted (record { nodes = m; out = w.out })) (sym (add-zero w.nodes))
      ∙ ap {B = Answer Body} (λ o. accepted (record { nodes = w.nodes + 0; out = o })) (sym (append-nil w.out))
  write-all v (x ∷ xs) w k n l = go (is_input x) refl n l (write-all (suc v) xs)
    where
      go : (t : Bool) → is_input x ≡ t →
          w.nodes + ifb t (λ _. body_nodes s xs) (λ _. node_count (normal_body s x) + body_nodes s xs) ≤ 2048 →
          front + length (w.out ++ ifb t (λ _. body_bytes s xs) (λ _. bytes (normal_body s x) ++ body_bytes s xs)) ≤ 65536 →
          ((u : Body) → AllKept s xs → u.nodes + body_nodes s xs ≤ 2048 → front + length (u.out ++ body_bytes s xs) ≤ 65536 →
          write_bodies s front (suc v) xs u ≡ accepted (with_all s xs u)) →
          ifb t (λ _. write_bodies s front (suc v) xs w) (λ _.
          ifb (keeps_limits (branches_of s x) (normal_body s x) (w.nodes + node_count (normal_body s x)) (front + length (w.out ++ bytes (normal_body s x))))
          (λ _. write_bodies s front (suc v) xs (written w (normal_body s x))) (λ _. refused WIDE v))
          ≡ accepted (record {
            nodes = w.nodes + ifb t (λ _. body_nodes s xs) (λ _. node_count (normal_body s x) + body_nodes s xs);
            out = w.out ++ ifb t (λ _. body_bytes s xs) (λ _. bytes (normal_body s x) ++ body_bytes s xs);
          })
      go true i n l ih = ih w k.1 n l
      go false i n l ih =
          let e = normal_body s x in
          let kept = k.0 i in
          let long = length-append w.out (bytes e ++ body_bytes s xs) in
          let first = length-append w.out (bytes e) in
          let parts = length-append (bytes e) (body_bytes s xs) in
          let nodes_low : w.nodes + node_count e ≤ 2048 = omega arith in
          let bytes_low : front + length (w.out ++ bytes e) ≤ 65536 = omega arith in
          let out_is : (w.out ++ bytes e) ++ body_bytes s xs ≡ w.out ++ (bytes e ++ body_bytes s xs) = append_assoc w.out (bytes e) (body_bytes s xs) in
          let nodes_are : w.nodes + node_count e + body_nodes s xs ≡ w.nodes + (node_count e + body_nodes s xs) = omega arith in
          rw (limits-kept s x (w.nodes + node_count e) (front + length (w.out ++ bytes e)) kept nodes_low bytes_low)
          (ih (written w e) k.1 (omega arith) (rw out_is l)
          ∙ ap {B = Answer Body} (λ m. accepted (record { nodes = m; out = (w.out ++ bytes e) ++ body_bytes s xs })) nodes_are
          ∙ ap {B = Answer Body} (λ o. accepted (record { nodes = w.nodes + (node_count e + body_nodes s xs); out = o })) out_is)

-- ---- the normal form

module _ {bs : List ℕ} {r : Raw} {s : Sheet} {q : ℕ} (a : Accepted bs r s) (is : read bs ≡ got r q) where
  sections-are : sections bs ≡ take r.third bs
  sections-are = ap (λ g. take (got_raw g).third bs) is

  normal-length : length (normal_bytes bs s) ≡ r.third + 8 + length (body_bytes s s)
  normal-length =
      let t = take r.third bs in
      ap (λ l. length (l ++ nat (body_nodes s s) ++ body_bytes s s)) sections-are
      ∙ omega (
        arith,
        length-append (t ++ nat (body_nodes s s)) (body_bytes s s),
        length-append t (nat (body_nodes s s)),
        length-bytes_of 8 (body_nodes s s),
        length-take-le r.third bs (omega (arith, a.parts.first_is, a.parts.first_there)),
      )

  -- the normal form is written where it keeps the limits
  pub kept-form : KeepsLimits bs s → normal_form bs r s ≡ accepted (normal_bytes bs s)
  unfolding normal_form
  kept-form k =
      let w = write-all s (r.third + 8) 0 s (record { nodes = 0; out = [] }) (all-kept s s k.bodies) (omega (arith, k.nodes)) (omega (arith, k.long, normal-length)) in
      rw (w, zero-add (body_nodes s s), sections-are)

  -- and nowhere else
  pub form-kept : (o : List ℕ) → normal_form bs r s ≡ accepted o → KeepsLimits bs s
  unfolding normal_form
  form-kept o e =
      let w = next-accepted (write_bodies s (r.third + 8) 0 s (record { nodes = 0; out = [] })) _ o e in
      let h = write-wrote s (r.third + 8) 0 w.1 in
      record {
        bodies = λ v lt i. kept-keeps s (variable s v) (kept_at s s h.kept v lt i);
        nodes = omega (arith, h.nodes_are, h.few_nodes (omega arith));
        long = omega (arith, normal-length, ap length h.out_is, h.few_bytes (omega (arith, a.short, a.parts.first_is, a.parts.first_there)));
      }

-- with the room lent
pub kept-written : (bs : List ℕ) (s : Sheet) (lent : ℕ) → check bs ≡ accepted s → KeepsLimits bs s → length (normal_bytes bs s) ≤ lent →
    normalise bs lent ≡ accepted (normal_bytes bs s)
unfolding normalise
kept-written bs s lent c k l =
    let f = check_accepts c in
    let o = normal_bytes bs s in
    ap (λ m. next m (λ out. next (room (length out) lent) (λ _. accepted out))) (after-found f c ∙ kept-form f.holds-all f.read_is k)
    ∙ ap (λ m. next m (λ _. accepted o)) (room-enough (length o) lent l)
