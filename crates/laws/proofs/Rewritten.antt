-- The normaliser's bodies: what was written keeps the limits, and is read back as the normal forms, one after another. Assumes nothing.
use mathlib.Core.Path.{◌≡◌, refl, sym, ap, ◌∙◌, subst}
use Prim.Native.Nat.{ℕ, suc, ◌+◌, ◌^◌, ◌≤◌}
use native.Mathlib.Nat.{add-zero}
use native.Mathlib.Omega.{arith}
use mathlib.Core.Bool.{Bool, true, false, ◌&&◌}
use mathlib.Core.List.{List, [], ◌∷◌, ◌++◌, map, append-nil, append_assoc}
use lib.ListN.{length, length-append}
use lib.Dec.{leb}
use borrow.Author.Tests.{leb-true}
use Rattle.alpha.specs.Pick.{ifb}
use Rattle.alpha.specs.Answer.{Answer, accepted, refused, WIDE}
use Rattle.alpha.specs.Sheet.{Kind, Kind.input, Kind.output, Kind.local, Head, Constraint, Declared, Node, Raw, Expr, Variable, Sheet, Expr.kase, Exprs.none}
use Rattle.alpha.specs.Read.{node}
use Rattle.alpha.specs.Shape.{tree, expr_at, fits, of_variable, shaped, body_of, bodies}
use Rattle.alpha.specs.Holds.{is_input_kind, is_input}
use Rattle.alpha.specs.Written.{bytes, node_count, depth}
use Rattle.alpha.specs.Normal.{Branch}
use Rattle.alpha.specs.Normalise.{branches_of, normal_body, narrow, keeps_limits, Body, written, write_bodies}
use Rattle.laws.specs.Heads.{InRow}
use Rattle.laws.specs.Normal.{body_bytes, body_nodes, placed, rewritten}
use Rattle.laws.specs.Stands.{Stands}
use Rattle.laws.specs.Writable.{Writable}
use Rattle.laws.proofs.Tests.{true-not-false, &&-left, &&-right}
use Rattle.laws.proofs.Trees.{at-expr_at}
use Rattle.laws.proofs.Bodies.{Tells}
use Rattle.laws.proofs.Prefix.{prefix, length-prefix, at_row, row-append}
use Rattle.laws.proofs.Written.{stands-left, stands-right, written_at}

-- ---- what was written

-- the body that is written for x keeps the limits
pub record Kept (s : Sheet) (x : Variable) : Type 0 where
  pub few-branches : length (branches_of s x) ≤ 64
  pub narrow-branches : narrow (branches_of s x) ≡ true
  pub deep : depth (normal_body s x) ≤ 32

abbrev pub AllKept : Sheet → Sheet → Type 0
AllKept s [] = Unit {0}
AllKept s (x ∷ xs) = (is_input x ≡ false → Kept s x) × AllKept s xs

-- after the variables xs, from w on
pub record Wrote (s : Sheet) (front : ℕ) (xs : Sheet) (w v : Body) : Type 0 where
  pub out_is : v.out ≡ w.out ++ body_bytes s xs
  pub nodes_are : v.nodes ≡ w.nodes + body_nodes s xs
  pub kept : AllKept s xs
  pub few_nodes : w.nodes ≤ 2048 → v.nodes ≤ 2048
  pub few_bytes : front + length w.out ≤ 65536 → front + length v.out ≤ 65536

-- the five limits, taken apart
pub record Limits (bs : List Branch) (e : Expr) (nodes bytes : ℕ) : Type 0 where
  pub nodes_low : nodes ≤ 2048
  pub branches-low : length bs ≤ 64
  pub tight : narrow bs ≡ true
  pub deep-low : depth e ≤ 32
  pub bytes_low : bytes ≤ 65536

pub limits : (bs : List Branch) (e : Expr) (nodes bytes : ℕ) → keeps_limits bs e nodes bytes ≡ true → Limits bs e nodes bytes
limits bs e nodes bytes h =
    let a = leb nodes 2048 in
    let b = leb (length bs) 64 in
    let c = narrow bs in
    let d = leb (depth e) 32 in
    let f = leb bytes 65536 in
    let abcd = &&-left (a && b && c && d) f h in
    let abc = &&-left (a && b && c) d abcd in
    let ab = &&-left (a && b) c abc in
    record {
      nodes_low = leb-true nodes 2048 (&&-left a b ab);
      branches-low = leb-true (length bs) 64 (&&-right a b ab);
      tight = &&-right (a && b) c abc;
      deep-low = leb-true (depth e) 32 (&&-right (a && b && c) d abcd);
      bytes_low = leb-true bytes 65536 (&&-right (a && b && c && d) f h);
    }

module _ (s : Sheet) (front : ℕ) where
  -- one more body
  one-body : (x : Variable) (xs : Sheet) (w v : Body) → is_input x ≡ false →
      Limits (branches_of s x) (normal_body s x) (w.nodes + node_count (normal_body s x)) (front + length (w.out ++ bytes (normal_body s x))) →
      Wrote s front xs (written w (normal_body s x)) v → Wrote s front (x ∷ xs) w v
  one-body x xs w v i l h = record {
    out_is = rw i (h.out_is ∙ append_assoc w.out (bytes (normal_body s x)) (body_bytes s xs));
    nodes_are = rw i (omega (arith, h.nodes_are));
    kept = (λ _. record { few-branches = l.branches-low; narrow-branches = l.tight; deep = l.deep-low }, h.kept);
    few_nodes = λ _. h.few_nodes l.nodes_low;
    few_bytes = λ _. h.few_bytes l.bytes_low;
  }

  no_body : (x : Variable) (xs : Sheet) (w v : Body) → is_input x ≡ true → Wrote s front xs w v → Wrote s front (x ∷ xs) w v
  no_body x xs w v i h = record {
    out_is = rw i h.out_is;
    nodes_are = rw i h.nodes_are;
    kept = (λ k. true-not-false i k, h.kept);
    few_nodes = h.few_nodes;
    few_bytes = h.few_bytes;
  }

  write-tells : (n : ℕ) (xs : Sheet) (w : Body) → Tells (Wrote s front xs w) (write_bodies s front n xs w)
  unfolding write_bodies
  write-tells n [] w = record { out_is = sym (append-nil w.out); nodes_are = sym (add-zero w.nodes); kept = tt; few_nodes = λ h. h; few_bytes = λ h. h }
  write-tells n (x ∷ xs) w = go (is_input x) refl (write-tells (suc n) xs w) (write-tells (suc n) xs (written w (normal_body s x)))
    where
      inner : (t : Bool) → keeps_limits (branches_of s x) (normal_body s x) (w.nodes + node_count (normal_body s x)) (front + length (w.out ++ bytes (normal_body s x))) ≡ t →
          is_input x ≡ false → (m : Answer Body) → Tells (Wrote s front xs (written w (normal_body s x))) m → Tells (Wrote s front (x ∷ xs) w) (ifb t (λ _. m) (λ _. refused WIDE n))
      inner true k i (accepted v) h =
          one-body x xs w v i
          (limits (branches_of s x) (normal_body s x) (w.nodes + node_count (normal_body s x)) (front + length (w.out ++ bytes (normal_body s x))) k) h
      inner true k i (refused a b) h = tt
      inner false k i m h = tt

      skip : (m : Answer Body) → is_input x ≡ true → Tells (Wrote s front xs w) m → Tells (Wrote s front (x ∷ xs) w) m
      skip (accepted v) i h = no_body x xs w v i h
      skip (refused a b) i h = tt

      go : (t : Bool) → is_input x ≡ t → Tells (Wrote s front xs w) (write_bodies s front (suc n) xs w) →
          Tells (Wrote s front xs (written w (normal_body s x))) (write_bodies s front (suc n) xs (written w (normal_body s x))) →
          Tells (Wrote s front (x ∷ xs) w) (ifb t (λ _. write_bodies s front (suc n) xs w) (λ _.
          ifb (keeps_limits (branches_of s x) (normal_body s x) (w.nodes + node_count (normal_body s x)) (front + length (w.out ++ bytes (normal_body s x))))
          (λ _. write_bodies s front (suc n) xs (written w (normal_body s x))) (λ _. refused WIDE n)))
      go true i h g = skip (write_bodies s front (suc n) xs w) i h
      go false i h g =
          inner (keeps_limits (branches_of s x) (normal_body s x) (w.nodes + node_count (normal_body s x)) (front + length (w.out ++ bytes (normal_body s x)))) refl i
          (write_bodies s front (suc n) xs (written w (normal_body s x))) g

  pub write-wrote : (n : ℕ) {xs : Sheet} {w v : Body} → write_bodies s front n xs w ≡ accepted v → Wrote s front xs w v
  write-wrote n {xs} {w} h = subst (Tells (Wrote s front xs w)) h (write-tells n xs w)

-- ---- what is read back

-- the body that is written for x can be read back: numbers, depth and dimension
pub record Ready (hs : List Head) (s : Sheet) (x : Variable) : Type 0 where
  pub numbers : Writable (normal_body s x) (length hs)
  pub shallow : depth (normal_body s x) ≤ 32
  pub fitting : fits (normal_body s x) hs (length x.head.box) ≡ true

abbrev pub AllReady : List Head → Sheet → Sheet → Type 0
AllReady hs s [] = Unit {0}
AllReady hs s (x ∷ xs) = (is_input x ≡ false → Ready hs s x) × AllReady hs s xs

-- the declared constraints are those of the second section
abbrev pub DeclaredAre : List Declared → Sheet → ℕ → Type 0
DeclaredAre ds [] v = Unit {0}
DeclaredAre ds (x ∷ xs) v = (x.declared ≡ of_variable v ds) × DeclaredAre ds xs (suc v)

module _ (r : Raw) (bs : List ℕ) (s : Sheet) (few : length r.heads ≤ 2 ^ 62) where
  -- a body is read back
  body_back : (k : Kind) (x : Variable) (v p n : ℕ) → is_input_kind k ≡ false → Ready r.heads s x → Stands (bytes (normal_body s x)) bs p →
      body_of k v x.head r.heads bs p (node_count (normal_body s x) + n)
      ≡ accepted (record { expr = normal_body s x; next = p + length (bytes (normal_body s x)); left = n })
  body_back k x v p n i d h = by_kind k i
    where
      parsed : expr_at 32 (length r.heads) bs p (node_count (normal_body s x) + n) ≡ tree (normal_body s x) (p + length (bytes (normal_body s x))) n
      parsed =
          at-expr_at (length r.heads) bs (normal_body s x) 32 p (p + length (bytes (normal_body s x))) n
          (written_at (length r.heads) bs few (normal_body s x) p d.numbers h) d.shallow

      shape : shaped v x.head r.heads (expr_at 32 (length r.heads) bs p (node_count (normal_body s x) + n))
          ≡ accepted (record { expr = normal_body s x; next = p + length (bytes (normal_body s x)); left = n })
      shape = unfold shaped in rw (parsed, d.fitting)

      by_kind : (k : Kind) → is_input_kind k ≡ false → body_of k v x.head r.heads bs p (node_count (normal_body s x) + n)
          ≡ accepted (record { expr = normal_body s x; next = p + length (bytes (normal_body s x)); left = n })
      by_kind input e = true-not-false {b = true} refl e
      by_kind output e = shape
      by_kind local e = shape

  no-body-back : (k : Kind) (x : Variable) (v p m : ℕ) → is_input_kind k ≡ true →
      body_of k v x.head r.heads bs p m ≡ accepted (record { expr = kase none; next = p; left = m })
  no-body-back input x v p m i = refl
  no-body-back output x v p m i = true-not-false {b = false} i refl
  no-body-back local x v p m i = true-not-false {b = false} i refl

  -- a variable whose declared constraints are those of the second section
  with-declared : (x : Variable) (ds : List Constraint) (e : Expr) (p q : ℕ) (xs : Sheet) → x.declared ≡ ds →
      ◌≡◌ {A = Answer Sheet} (accepted (record { head = x.head; declared = ds; body = e; start = p; end = q } ∷ xs)) (accepted (placed x e p q ∷ xs))
  with-declared x ds e p q xs h = ap (λ cs. accepted (record { head = x.head; declared = cs; body = e; start = p; end = q } ∷ xs)) (sym h)

  pub bodies-back : (xs : Sheet) (v p : ℕ) → AllReady r.heads s xs → DeclaredAre r.decls xs v → Stands (body_bytes s xs) bs p →
      bodies r bs (map (λ x. x.head) xs) v p (body_nodes s xs) ≡ accepted (rewritten s xs p)
  unfolding bodies
  bodies-back [] v p a d h = refl
  bodies-back (x ∷ xs) v p a d h = go (is_input x) refl h (λ q k. bodies-back xs (suc v) q a.1 d.1 k)
    where
      go : (t : Bool) → is_input x ≡ t → Stands (ifb t (λ _. body_bytes s xs) (λ _. bytes (normal_body s x) ++ body_bytes s xs)) bs p →
          ((q : ℕ) → Stands (body_bytes s xs) bs q → bodies r bs (map (λ y. y.head) xs) (suc v) q (body_nodes s xs) ≡ accepted (rewritten s xs q)) →
          bodies r bs (x.head ∷ map (λ y. y.head) xs) v p (ifb t (λ _. body_nodes s xs) (λ _. node_count (normal_body s x) + body_nodes s xs))
          ≡ accepted (ifb t (λ _. placed x (kase none) p p ∷ rewritten s xs p)
          (λ _. placed x (normal_body s x) p (p + length (bytes (normal_body s x))) ∷ rewritten s xs (p + length (bytes (normal_body s x)))))
      go true i k ih =
          rw (no-body-back x.head.kind x v p (body_nodes s xs) i, ih p k)
          (with-declared x (of_variable v r.decls) (kase none) p p (rewritten s xs p) d.0)
      go false i k ih =
          let q = p + length (bytes (normal_body s x)) in
          rw (
            body_back x.head.kind x v p (body_nodes s xs) i (a.0 i) (stands-left (bytes (normal_body s x)) (body_bytes s xs) bs p k),
            ih q (stands-right (bytes (normal_body s x)) (body_bytes s xs) bs p k),
          )
          (with-declared x (of_variable v r.decls) (normal_body s x) p q (rewritten s xs q) d.0)

  -- the nodes of the bodies stand in a row
  pub record NodesBack (xs : Sheet) (p : ℕ) : Type 0 where
    pub listed : List Node
    pub many : length listed ≡ body_nodes s xs
    pub row : InRow listed (node (length r.heads)) bs p (p + length (body_bytes s xs))

  pub nodes-back : (xs : Sheet) (p : ℕ) → AllReady r.heads s xs → Stands (body_bytes s xs) bs p → NodesBack xs p
  unfolding InRow
  nodes-back [] p a h = record { listed = []; many = refl; row = sym (add-zero p) }
  nodes-back (x ∷ xs) p a h = go (is_input x) refl h (λ q k. nodes-back xs q a.1 k)
    where
      go : (t : Bool) → is_input x ≡ t → Stands (ifb t (λ _. body_bytes s xs) (λ _. bytes (normal_body s x) ++ body_bytes s xs)) bs p →
          ((q : ℕ) → Stands (body_bytes s xs) bs q → NodesBack xs q) → NodesBack (x ∷ xs) p
      go true i k ih = let m = ih p k in record { listed = m.listed; many = rw i m.many; row = rw i m.row }
      go false i k ih =
          let e = normal_body s x in
          let q = p + length (bytes e) in
          let m = ih q (stands-right (bytes e) (body_bytes s xs) bs p k) in
          let first = at_row (length r.heads) bs e p q
          (written_at (length r.heads) bs few e p (a.0 i).numbers (stands-left (bytes e) (body_bytes s xs) bs p k)) in
          let end : q + length (body_bytes s xs) ≡ p + length (bytes e ++ body_bytes s xs) = omega (arith, length-append (bytes e) (body_bytes s xs)) in
          record {
            listed = prefix e ++ m.listed;
            many = rw i (length-append (prefix e) m.listed ∙ omega (arith, length-prefix e, m.many));
            row = rw (i, ← end) (row-append (node (length r.heads)) bs (prefix e) m.listed p q (q + length (body_bytes s xs)) first m.row);
          }
