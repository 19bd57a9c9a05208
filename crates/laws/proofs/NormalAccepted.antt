-- The bytes that the normaliser writes for an accepted sheet are accepted: they are read as the same variables with the normal forms as
-- bodies, and pass every check. Assumes nothing.
use mathlib.Core.Path.{◌≡◌, refl, sym, ap, ◌∙◌, subst, fun_ext}
use Prim.Native.Nat.{ℕ, zero, suc, ◌+◌, ◌^◌, ◌≤◌, ◌<◌}
use native.Mathlib.Nat.{zero-add}
use native.Mathlib.Omega.{arith}
use native.Mathlib.Decide.{dec_lt}
use mathlib.Core.Bool.{Bool, true, false, ◌||◌}
use mathlib.Core.List.{List, [], ◌∷◌, ◌++◌, map, append_assoc, append-nil}
use lib.ListN.{length, get_or, take, length-append, get_or-append, get_or-eq_default}
use lib.Seq.{length-take-le, get_or-append-add}
use lib.IntN.{ℤ}
use Rattle.alpha.specs.Pick.{ifb}
use Rattle.alpha.specs.Answer.{accepted, TYPE, REACH}
use Rattle.alpha.specs.Field.{nat}
use Rattle.alpha.specs.Sheet.{Head, Raw, Expr, Variable, Sheet, Point, Expr.kase, Exprs.none}
use Rattle.alpha.specs.Read.{got, read, dimension}
use Rattle.alpha.specs.Shape.{bodies}
use Rattle.alpha.specs.Typing.{type_of, is_sort}
use Rattle.alpha.specs.Reach.{top_reach, reach, all_reach}
use Rattle.alpha.specs.Holds.{no_variable, variable, is_input, in_domain}
use Rattle.alpha.specs.Box.{size}
use Rattle.alpha.specs.Outcome.{eval, inputs_before, outcome}
use Rattle.alpha.specs.Check.{Element, elements, typed, reached, tested, checked, after_read, check}
use Rattle.alpha.specs.Written.{bytes}
use Rattle.alpha.specs.Normalise.{dims, normal_body, Body}
use Rattle.laws.specs.Accepted.{BodiesAt, Accepted}
use Rattle.laws.specs.Normal.{body_bytes, body_nodes, placed, rewritten}
use Rattle.laws.specs.Stands.{Stands}
use Rattle.laws.specs.Writable.{Writable}
use Rattle.laws.proofs.Tests.{&&-left, &&-right}
use Rattle.laws.proofs.Checked.{first_passes, Faultless, tested-body, tested-inside, faults-pass, accepted-length, accepted-dimension, accepted-few, accepted-body}
use Rattle.laws.proofs.Widths.{at_wide}
use Rattle.laws.proofs.Written.{length-bytes_of}
use Rattle.laws.proofs.SameOutcome.{outcome-alike, normal-variable, body_same, known}
use Rattle.laws.proofs.NormalType.{norm-some}
use Rattle.laws.proofs.NormalSheet.{is_sort-is, body-fits, body_typed, body-reached, body-covered, body-clear}
use Rattle.laws.proofs.NormalWritable.{at-writable, normal-writable}
use Rattle.laws.proofs.Local.{agree-take}
use Rattle.laws.proofs.Rewritten.{Kept, AllKept, Wrote, Ready, AllReady, DeclaredAre, bodies-back, nodes-back}
use Rattle.laws.proofs.SectionsAgain.{read_again}

-- ---- the variables that are read back

-- what variable x has for a body
abbrev pub new_body : Sheet → Variable → Expr
new_body s x = ifb (is_input x) (λ _. kase none) (λ _. normal_body s x)

pub record Placed (s : Sheet) (x y : Variable) : Type 0 where
  pub from : ℕ
  pub to : ℕ
  pub is : y ≡ placed x (new_body s x) from to

rewritten-variable : (s xs : Sheet) (p v : ℕ) → Placed s (variable xs v) (variable (rewritten s xs p) v)
rewritten-variable s [] p v = record { from = 0; to = 0; is = refl }
rewritten-variable s (x ∷ xs) p v = go (is_input x) refl v (λ q w. rewritten-variable s xs q w)
  where
    here : (t : Bool) → is_input x ≡ t → (q : ℕ) → Placed s x (placed x (ifb t (λ _. kase none) (λ _. normal_body s x)) p q)
    here t i q = record { from = p; to = q; is = ap (λ b. placed x (ifb b (λ _. kase none) (λ _. normal_body s x)) p q) (sym i) }

    go : (t : Bool) → is_input x ≡ t → (v : ℕ) → ((q w : ℕ) → Placed s (variable xs w) (variable (rewritten s xs q) w)) →
        Placed s (variable (x ∷ xs) v)
        (variable (ifb t (λ _. placed x (kase none) p p ∷ rewritten s xs p)
        (λ _. placed x (normal_body s x) p (p + length (bytes (normal_body s x))) ∷ rewritten s xs (p + length (bytes (normal_body s x))))) v)
    go true i zero ih = here true i p
    go true i (suc w) ih = ih p w
    go false i zero ih = here false i _
    go false i (suc w) ih = ih _ w

-- ---- by index

pub kept_at : (s xs : Sheet) → AllKept s xs → (v : ℕ) → v < length xs → is_input (variable xs v) ≡ false → Kept s (variable xs v)
kept_at s [] k v lt i = absurd (omega arith)
kept_at s (x ∷ xs) k zero lt i = k.0 i
kept_at s (x ∷ xs) k (suc v) lt i = kept_at s xs k.1 v (omega arith) i

ready-by-index : (hs : List Head) (s xs : Sheet) → ((v : ℕ) → v < length xs → is_input (variable xs v) ≡ false → Ready hs s (variable xs v)) → AllReady hs s xs
ready-by-index hs s [] f = tt
ready-by-index hs s (x ∷ xs) f = (f 0 (omega arith), ready-by-index hs s xs (λ v lt i. f (suc v) (omega arith) i))

bodies_at-declared : (r : Raw) (bs : List ℕ) (s : Sheet) (v p m : ℕ) → BodiesAt s r bs v p m → DeclaredAre r.decls s v
unfolding BodiesAt
bodies_at-declared r bs [] v p m h = tt
bodies_at-declared r bs (x ∷ s) v p m h = (h.declared_is, bodies_at-declared r bs s (suc v) x.end h.left h.after)

-- ---- every body can be written and read back

module _ {bs : List ℕ} {r : Raw} {s : Sheet} (a : Accepted bs r s) where
  few-dimensions : (v : ℕ) → dimension r.heads v ≤ 4
  few-dimensions v = go (dec_lt v (length s))
    where
      go : Dec (v < length s) → dimension r.heads v ≤ 4
      go (yes lt) = omega (arith, accepted-few a v lt, accepted-dimension a v)
      go (no lt) =
          let e : length (variable s v).head.box ≡ 0 = ap (λ x. length x.head.box) (get_or-eq_default s no_variable {n = v} (omega arith)) in
          omega (arith, e, accepted-dimension a v)

  ready : AllKept s s → (v : ℕ) → v < length s → is_input (variable s v) ≡ false → Ready r.heads s (variable s v)
  ready kept v lt i =
      let x = variable s v in
      let n = length x.head.box in
      let b = accepted-body a v lt i in
      let k = kept_at s s kept v lt i in
      let ds : dims s ≡ dimension r.heads = fun_ext (accepted-dimension a) in
      let w : Writable x.body (length r.heads) = rw (accepted-length a) at (at-writable (length s) bs x.body x.start x.end b.at) in
      let wide = at_wide (length s) bs x.body x.start x.end b.at in
      let far : reach x.body top_reach ≡ true = rw i at (&&-right (all_reach top_reach x.declared) (is_input x || reach x.body top_reach) (a.reaches v lt)) in
      let sorted : is_sort x.head.sort (type_of x.body r.heads) ≡ true = rw i at (a.types v lt) in
      let some = norm-some r.heads x.body (dimension r.heads) x.head.sort (is_sort-is x.head.sort (type_of x.body r.heads) sorted) in
      record {
        numbers = rw ds (normal-writable r.heads (length r.heads) few-dimensions n top_reach (accepted-few a v lt) (omega arith) (omega arith)
            x.body w wide b.fitting far some
            (rw ds at k.few-branches) (rw ds at k.narrow-branches));
        shallow = k.deep;
        fitting = body-fits a v lt i;
      }

  -- ---- every check passes

  module _ (p : ℕ) where
    pub place_of : (v : ℕ) → Placed s (variable s v) (variable (rewritten s s p) v)
    place_of v = rewritten-variable s s p v

    same-domain : (v : ℕ) (z : Point) → in_domain (variable (rewritten s s p) v) z ≡ in_domain (variable s v) z
    same-domain v z = ap (λ y. in_domain y z) (place_of v).is

    pub same_kind : (v : ℕ) → is_input (variable (rewritten s s p) v) ≡ is_input (variable s v)
    same_kind v = ap is_input (place_of v).is

    pub body_new : (v : ℕ) → is_input (variable s v) ≡ false → (variable (rewritten s s p) v).body ≡ normal_body s (variable s v)
    body_new v i = ap (λ y. y.body) (place_of v).is ∙ ap (λ b. ifb b (λ _. kase none) (λ _. normal_body s (variable s v))) i

    -- a test of the records and the bodies
    passes : (test : Variable → Bool) → ((x : Variable) (e : Expr) (m n : ℕ) → is_input x ≡ true → test x ≡ true → test (placed x e m n) ≡ true) →
        ((v : ℕ) → v < length s → test (variable s v) ≡ true) →
        ((v : ℕ) (m n : ℕ) → v < length s → is_input (variable s v) ≡ false → test (placed (variable s v) (normal_body s (variable s v)) m n) ≡ true) →
        (v : ℕ) → v < length s → test (variable (rewritten s s p) v) ≡ true
    passes test inputs old new v lt = go (is_input (variable s v)) refl
      where
        go : (t : Bool) → is_input (variable s v) ≡ t → test (variable (rewritten s s p) v) ≡ true
        go true i = ap test (place_of v).is ∙ inputs (variable s v) (new_body s (variable s v)) (place_of v).from (place_of v).to i (old v lt)
        go false i =
            let e = ap (λ b. placed (variable s v) (ifb b (λ _. kase none) (λ _. normal_body s (variable s v))) (place_of v).from (place_of v).to) i in
            ap test ((place_of v).is ∙ e) ∙ new v (place_of v).from (place_of v).to lt i

    faultless : (e : Element) → Faultless (rewritten s s p) e
    faultless e = record {
      covered = λ t. let i = input-no t in
          rw (body_new e.who i) (body-covered a e.who (known a e.who i) i e.at (domain-yes t) (rewritten s s p) same-domain);
      clear = λ t. let i = input-no t in
          rw (body_new e.who i) (body-clear a e.who (known a e.who i) i e.at (domain-yes t) (rewritten s s p) same-domain);
    }
      where
        input-no : tested (rewritten s s p) e ≡ true → is_input (variable s e.who) ≡ false
        input-no t = sym (same_kind e.who) ∙ tested-body (rewritten s s p) e t

        domain-yes : tested (rewritten s s p) e ≡ true → in_domain (variable s e.who) e.at ≡ true
        domain-yes t = sym (same-domain e.who e.at) ∙ tested-inside (rewritten s s p) e t

    types-pass : (v : ℕ) → v < length s → typed r.heads (variable (rewritten s s p) v) ≡ true
    types-pass = passes (typed r.heads) (λ x e m n i h. rw i refl) a.types (λ v m n lt i. rw (normal-variable s v) at (body_typed a v lt i))

    reaches-pass : (v : ℕ) → v < length s → reached (variable (rewritten s s p) v) ≡ true
    reaches-pass =
        passes reached
        (λ x e m n i h. rw (&&-left (all_reach top_reach x.declared) (is_input x || reach x.body top_reach) h, i) refl)
        a.reaches (λ v m n lt i. rw (normal-variable s v) at (body-reached a v lt i))

-- ---- bytes in the middle of others

stands-middle : (xs l ys : List ℕ) (n : ℕ) → length xs ≡ n → Stands l (xs ++ (l ++ ys)) n
stands-middle xs l ys n e = record {
  there = omega (arith, length-append xs (l ++ ys), length-append l ys);
  byte_is = λ i lt. rw (← e) (get_or-append-add xs (l ++ ys) i 0 ∙ get_or-append l ys 0 i lt);
}

pub rewritten-length : (s xs : Sheet) (p : ℕ) → length (rewritten s xs p) ≡ length xs
rewritten-length s [] p = refl
rewritten-length s (x ∷ xs) p = go (is_input x) (rewritten-length s xs p) (λ q. rewritten-length s xs q)
  where
    go : (t : Bool) → length (rewritten s xs p) ≡ length xs → ((q : ℕ) → length (rewritten s xs q) ≡ length xs) →
        length (ifb t (λ _. placed x (kase none) p p ∷ rewritten s xs p)
        (λ _. placed x (normal_body s x) p (p + length (bytes (normal_body s x))) ∷ rewritten s xs (p + length (bytes (normal_body s x)))))
        ≡ suc (length xs)
    go true h k = ap suc h
    go false h k = ap suc (k _)

-- ---- the theorem

module _ {bs : List ℕ} {r : Raw} {s : Sheet} (a : Accepted bs r s) where
  -- the bytes written: the first two sections, the number of nodes, the bodies
  module _ (w : Body) (h : Wrote s (r.third + 8) s (record { nodes = 0; out = [] }) w) where
    -- what is read of them
    abbrev pub again : Raw
    again = record { heads = r.heads; decls = r.decls; second = r.second; third = r.third; first = r.third + 8; nodes = w.nodes }

    abbrev out : List ℕ
    out = take r.third bs ++ nat w.nodes ++ w.out

    third-there : r.third + 8 ≤ length bs
    third-there = omega (arith, a.parts.first_is, a.parts.first_there)

    pub front : length (take r.third bs) ≡ r.third
    front = length-take-le r.third bs (omega (arith, third-there))

    bodies-stand : Stands (body_bytes s s) (take r.third bs ++ nat w.nodes ++ w.out) (r.third + 8)
    bodies-stand =
        let xs = take r.third bs ++ nat w.nodes in
        let long : length xs ≡ r.third + 8 = length-append (take r.third bs) (nat w.nodes) ∙ omega (arith, front, length-bytes_of 8 w.nodes) in
        subst (λ l. Stands (body_bytes s s) (xs ++ l) (r.third + 8)) (append-nil (body_bytes s s) ∙ sym h.out_is) (stands-middle xs (body_bytes s s) [] (r.third + 8) long)

    count-stands : Stands (nat w.nodes) (take r.third bs ++ nat w.nodes ++ w.out) r.third
    count-stands = rw (append_assoc (take r.third bs) (nat w.nodes) w.out) (stands-middle (take r.third bs) (nat w.nodes) w.out r.third front)

    all-ready : AllReady r.heads s s
    all-ready = ready-by-index r.heads s s (ready a h.kept)

    few-heads : length r.heads ≤ 2 ^ 62
    few-heads = omega (arith, a.parts.few)

    nodes-is : w.nodes ≡ body_nodes s s
    nodes-is = h.nodes_are ∙ zero-add (body_nodes s s)

    out_length : r.third + 8 + length (body_bytes s s) ≡ length (take r.third bs ++ nat w.nodes ++ w.out)
    out_length =
        omega (
          arith,
          length-append (take r.third bs ++ nat w.nodes) w.out,
          length-append (take r.third bs) (nat w.nodes),
          front,
          length-bytes_of 8 w.nodes,
          ap length h.out_is,
        )

    pub read_out : read (take r.third bs ++ nat w.nodes ++ w.out) ≡ got again (length (take r.third bs ++ nat w.nodes ++ w.out))
    read_out =
        let b = nodes-back again out s few-heads s (r.third + 8) all-ready bodies-stand in
        read_again bs r a.parts out w.nodes b.listed
        (rw (append_assoc (take r.third bs) (nat w.nodes) w.out) (agree-take r.third bs (nat w.nodes ++ w.out) (omega (arith, third-there))))
        count-stands (h.few_nodes (omega arith)) (b.many ∙ sym nodes-is) (rw out_length at b.row)
        (omega (arith, out_length, ap length h.out_is, h.few_bytes (omega (arith, third-there, a.short))))

    bodies-out : bodies again (take r.third bs ++ nat w.nodes ++ w.out) r.heads 0 (r.third + 8) w.nodes ≡ accepted (rewritten s s (r.third + 8))
    bodies-out =
        let t = accepted (rewritten s s (r.third + 8)) in
        let are = bodies_at-declared r bs s 0 r.first r.nodes a.stand in
        subst (λ hs. bodies again out hs 0 (r.third + 8) w.nodes ≡ t) a.heads_are
        (subst (λ n. bodies again out (map (λ x. x.head) s) 0 (r.third + 8) n ≡ t) (sym nodes-is)
        (bodies-back again out s few-heads s 0 (r.third + 8) all-ready are bodies-stand))

    pub written-accepted : check (take r.third bs ++ nat w.nodes ++ w.out) ≡ accepted (rewritten s s (r.third + 8))
    unfolding check after_read checked
    written-accepted =
        let t = rewritten s s (r.third + 8) in
        let long = rewritten-length s s (r.third + 8) in
        rw (
          read_out,
          bodies-out,
          first_passes TYPE (typed r.heads) 0 t (λ v lt. types-pass a (r.third + 8) v (omega (arith, long))),
          first_passes REACH reached 0 t (λ v lt. reaches-pass a (r.third + 8) v (omega (arith, long))),
          faults-pass t 0 (elements t) (λ i lt d. faultless a (r.third + 8) (get_or (elements t) i d)),
        )

-- ---- the same outcomes

inputs_before-rewritten : (s xs : Sheet) (p v : ℕ) → inputs_before (rewritten s xs p) v ≡ inputs_before xs v
inputs_before-rewritten s xs p zero = refl
inputs_before-rewritten s [] p (suc v) = refl
inputs_before-rewritten s (x ∷ xs) p (suc v) = go (is_input x) refl (λ q. inputs_before-rewritten s xs q v)
  where
    go : (t : Bool) → is_input x ≡ t → ((q : ℕ) → inputs_before (rewritten s xs q) v ≡ inputs_before xs v) →
        inputs_before (ifb t (λ _. placed x (kase none) p p ∷ rewritten s xs p)
        (λ _. placed x (normal_body s x) p (p + length (bytes (normal_body s x))) ∷ rewritten s xs (p + length (bytes (normal_body s x))))) (suc v)
        ≡ ifb t (λ _. size x.head.box + inputs_before xs v) (λ _. inputs_before xs v)
    go true i h = rw (i, h p)
    go false i h = rw (i, h (p + length (bytes (normal_body s x))))

pub outcome-rewritten : {bs : List ℕ} {r : Raw} {s : Sheet} → Accepted bs r s → (p : ℕ) (ins : List ℤ) (k v : ℕ) (z : Point) →
    outcome k (rewritten s s p) ins v z ≡ outcome k s ins v z
outcome-rewritten {s = s} a p ins =
    outcome-alike s (rewritten s s p) ins (same-domain a p) (same_kind a p)
    (λ v z. rw (ap (λ x. x.head) (place_of a p v).is, inputs_before-rewritten s s p v))
    (λ v z look i d. ap (λ e. eval e s look z) (body_new a p v i) ∙ body_same a v z look (known a v i) i d)
