-- What is read at a node's place: its code, its fields, and the place after it. One law, `node-reads`, by the node's cases. Assumes nothing.
use mathlib.Core.Path.{◌≡◌, refl, ap, ◌∙◌, subst}
use Prim.Native.Nat.{ℕ, zero, suc, ◌+◌, ◌*◌, ◌-◌, ◌≤◌, ◌<◌}
use native.Mathlib.Omega.{arith}
use mathlib.Core.List.{List, [], ◌∷◌}
use lib.ListN.{length, get_or}
use lib.IntN.{pos, neg_ℤ}
use Rattle.alpha.specs.Answer.{NUMBER}
use Rattle.alpha.specs.Field.{field}
use Rattle.alpha.specs.Sheet.{Row, Constraint, Map, Node}
use Rattle.alpha.specs.Sheet.{Node.n_var, Node.n_int, Node.n_bool, Node.n_unary, Node.n_binary, Node.n_if, Node.n_case, Node.n_restr, Node.n_dep}
use Rattle.alpha.specs.Box.{within}
use Rattle.alpha.specs.Read.{Got, got, bad, Reader, after, pure, unary_of, binary_of, repeat, count, choice, number, row_of, constraint, restriction, dependence, nodes, node}
use Rattle.laws.specs.At.{code_of, node_size, read_node, read_end, node_read, node_end}
use Rattle.laws.proofs.Readers.{Upto, Gives, given, Passed, passing-gives, Counted, count_gives, choice-gives, Items, repeat-gives}
use Rattle.laws.proofs.Rows.{Chosen, chosen, RowAt, row_gives, row-takes, ConstraintAt, constraint-gives, constraint-takes}

-- ---- what the fields say

-- the fields of a restriction: its dimension, how many constraints, and each of them
pub record Restricts (bs : List ℕ) (p : ℕ) (d : ℕ) (cs : List Constraint) : Type 0 where
  pub dim : Counted 0 4 bs (p + 8) d
  pub many : Counted 0 64 bs (p + 16) (length cs)
  pub item : (i : ℕ) → i < length cs → (c : Constraint) →
      constraint d bs (p + 24 + i * (16 + 8 * d)) ≡ got (get_or cs i c) (p + 24 + i * (16 + 8 * d) + (16 + 8 * d))

-- the fields of a dependence: its columns, how many rows, and each of them; and what reads them
pub record Depends (bs : List ℕ) (p : ℕ) (f : Map) : Type 0 where
  pub width : Counted 0 4 bs (p + 8) f.cols
  pub many : Counted 0 4 bs (p + 16) (length f.rows)
  pub item : (i : ℕ) → i < length f.rows → (w : Row) →
      row_of f.cols bs (p + 24 + i * (8 + 8 * f.cols)) ≡ got (get_or f.rows i w) (p + 24 + i * (8 + 8 * f.cols) + (8 + 8 * f.cols))
  pub next : ℕ
  pub read : dependence bs (p + 8) ≡ got (n_dep f) next

-- what the fields after the code of the node at p say
abbrev pub Fields : ℕ → List ℕ → ℕ → Node → Type 0
Fields vars bs p (n_var v) = Counted 0 (vars - 1) bs (p + 8) v
Fields vars bs p (n_int c) = Passed (within (neg_ℤ (pos 2147483648)) (pos 2147483647)) bs (p + 8) c
Fields vars bs p (n_bool b) = Counted 0 1 bs (p + 8) b
Fields vars bs p (n_unary o) = Chosen unary_of 1 bs (p + 8) o
Fields vars bs p (n_binary o) = Chosen binary_of 15 bs (p + 8) o
Fields vars bs p n_if = Unit {0}
Fields vars bs p (n_case n) = Counted 1 64 bs (p + 8) n
Fields vars bs p (n_restr d cs) = Restricts bs p d cs
Fields vars bs p (n_dep f) = Depends bs p f

-- the node nd stands at p
pub record NodeAt (vars : ℕ) (bs : List ℕ) (p : ℕ) (nd : Node) : Type 0 where
  pub code : field bs p ≡ pos (code_of nd)
  pub long : 8 ≤ node_size nd
  pub there : p + node_size nd ≤ length bs
  pub fields : Fields vars bs p nd

-- ---- each reader of the table, after a code

module _ (vars : ℕ) (bs : List ℕ) (p : ℕ) where
  -- what the reader of a node's fields must give: the node, and the place after its bytes
  abbrev Reads : Got Node → Type 0
  Reads (got nd q) = Upto (NodeAt vars bs p) (p + node_size nd) nd q
  Reads (bad n q) = Unit {0}

  -- after some fields
  then-reads : {A : Type 0} (P : A → Type 0) (q : ℕ) (m : Got A) (k : A → ℕ → Got Node) →
      Gives P q m → ((a : A) → m ≡ got a q → P a → Reads (k a q)) → Reads (after m k)
  then-reads P q (got a r) k g h = rw g.next (h a (ap (got a) g.next) g.what)
  then-reads P q (bad n r) k g h = tt

  -- k places on, the next place is k + 8 on
  on : (k : ℕ) → p + k + 8 ≡ p + (k + 8)
  on k = omega arith

  counts : (lo hi k : ℕ) → Gives (Counted lo hi bs (p + k)) (p + (k + 8)) (count lo hi bs (p + k))
  counts lo hi k = rw (on k) at (count_gives lo hi bs (p + k))

  chooses : (hi k : ℕ) → Gives (Counted 0 hi bs (p + k)) (p + (k + 8)) (choice hi bs (p + k))
  chooses hi k = rw (on k) at (choice-gives hi bs (p + k))

  ints : Gives (Passed (within (neg_ℤ (pos 2147483648)) (pos 2147483647)) bs (p + 8)) (p + 16) (number (neg_ℤ (pos 2147483648)) (pos 2147483647) bs (p + 8))
  ints = rw (on 8) at (passing-gives NUMBER (within (neg_ℤ (pos 2147483648)) (pos 2147483647)) bs (p + 8))

  -- a node with one field after its code
  short : {A : Type 0} (P : A → Type 0) (make : A → Node) (m : Got A) (code : ℕ) → ((a : A) → code_of (make a) ≡ code) → ((a : A) → node_size (make a) ≡ 16) →
      ((a : A) → P a → (p + 8 + 8 ≤ length bs) × Fields vars bs p (make a)) → field bs p ≡ pos code → Gives P (p + 16) m → Reads (after m (λ a q. got (make a) q))
  short P make m code is size says c g =
      then-reads P (p + 16) m (λ a q. got (make a) q) g (λ a e h. record {
        what = record { code = rw is c; long = omega (arith, size a); there = omega (arith, size a, (says a h).0); fields = (says a h).1 };
        next = omega (arith, size a);
      })

  var-reads : field bs p ≡ pos 0 → Reads (after (choice (vars - 1) bs (p + 8)) (λ v q. got (n_var v) q))
  var-reads c =
      short (Counted 0 (vars - 1) bs (p + 8)) n_var (choice (vars - 1) bs (p + 8)) 0
      (λ a. refl) (λ a. refl) (λ v h. (h.there, h)) c (chooses (vars - 1) 8)

  int-reads : field bs p ≡ pos 1 → Reads (after (number (neg_ℤ (pos 2147483648)) (pos 2147483647) bs (p + 8)) (λ x q. got (n_int x) q))
  int-reads c =
      short (Passed (within (neg_ℤ (pos 2147483648)) (pos 2147483647)) bs (p + 8)) n_int (number (neg_ℤ (pos 2147483648)) (pos 2147483647) bs (p + 8)) 1
      (λ a. refl) (λ a. refl) (λ x h. (h.there, h)) c ints

  bool-reads : field bs p ≡ pos 2 → Reads (after (choice 1 bs (p + 8)) (λ b q. got (n_bool b) q))
  bool-reads c = short (Counted 0 1 bs (p + 8)) n_bool (choice 1 bs (p + 8)) 2 (λ a. refl) (λ a. refl) (λ b h. (h.there, h)) c (chooses 1 8)

  unary-reads : field bs p ≡ pos 3 → Reads (after (choice 1 bs (p + 8)) (λ o q. got (n_unary (unary_of o)) q))
  unary-reads c =
      short (Counted 0 1 bs (p + 8)) (λ o. n_unary (unary_of o)) (choice 1 bs (p + 8)) 3
      (λ a. refl) (λ a. refl) (λ o h. (h.there, chosen unary_of 1 bs (p + 8) o h)) c (chooses 1 8)

  binary-reads : field bs p ≡ pos 4 → Reads (after (choice 15 bs (p + 8)) (λ o q. got (n_binary (binary_of o)) q))
  binary-reads c =
      short (Counted 0 15 bs (p + 8)) (λ o. n_binary (binary_of o)) (choice 15 bs (p + 8)) 4
      (λ a. refl) (λ a. refl) (λ o h. (h.there, chosen binary_of 15 bs (p + 8) o h)) c (chooses 15 8)

  if-reads : field bs p ≡ pos 5 → p + 8 ≤ length bs → Reads (got n_if (p + 8))
  if-reads c t = record { what = record { code = c; long = omega arith; there = omega arith; fields = tt }; next = refl }

  case-reads : field bs p ≡ pos 6 → Reads (after (count 1 64 bs (p + 8)) (λ n q. got (n_case n) q))
  case-reads c = short (Counted 1 64 bs (p + 8)) n_case (count 1 64 bs (p + 8)) 6 (λ a. refl) (λ a. refl) (λ n h. (h.there, h)) c (counts 1 64 8)

  restr-reads : field bs p ≡ pos 7 → Reads (restriction bs (p + 8))
  unfolding restriction
  restr-reads c =
      then-reads (Counted 0 4 bs (p + 8)) (p + 16) (count 0 4 bs (p + 8)) _ (counts 0 4 8) (λ d _ h.
      then-reads (Counted 0 64 bs (p + 16)) (p + 24) (count 0 64 bs (p + 16)) _ (counts 0 64 16) (λ n _ k.
      then-reads (Items (constraint d) (16 + 8 * d) n bs (p + 24)) (p + 24 + n * (16 + 8 * d)) (repeat n (constraint d) bs (p + 24)) _
      (repeat-gives (constraint d) (16 + 8 * d) bs (constraint-takes d bs) n (p + 24)) (λ cs _ l.
      let m = l.many in
      let end : p + 24 + n * (16 + 8 * d) ≡ p + node_size (n_restr d cs) = rw m (omega arith) in
      record {
        what = record {
          code = c;
          long = omega arith;
          there = omega (arith, end, l.there (omega (arith, k.there)));
          fields = record { dim = h; many = rw m k; item = rw m l.item };
        };
        next = end;
      })))

  dep-reads : field bs p ≡ pos 8 → Reads (dependence bs (p + 8))
  unfolding dependence
  dep-reads c =
      then-reads (Counted 0 4 bs (p + 8)) (p + 16) (count 0 4 bs (p + 8)) _ (counts 0 4 8) (λ d e₁ h.
      then-reads (Counted 0 4 bs (p + 16)) (p + 24) (count 0 4 bs (p + 16)) _ (counts 0 4 16) (λ n e₂ k.
      then-reads (Items (row_of d) (8 + 8 * d) n bs (p + 24)) (p + 24 + n * (8 + 8 * d)) (repeat n (row_of d) bs (p + 24)) _
      (repeat-gives (row_of d) (8 + 8 * d) bs (row-takes d bs) n (p + 24)) (λ rs e₃ l.
      let m = l.many in
      let end : p + 24 + n * (8 + 8 * d) ≡ p + node_size (n_dep (record { cols = d; rows = rs })) = rw m (omega arith) in
      record {
        what = record {
          code = c;
          long = omega arith;
          there = omega (arith, end, l.there (omega (arith, k.there)));
          fields = record { width = h; many = rw m k; item = rw m l.item; next = p + 24 + n * (8 + 8 * d); read = rw (e₁, e₂, e₃) refl };
        };
        next = end;
      })))

  -- ---- the table

  -- each reader of a list does so after its code
  abbrev EachReads : ℕ → List (Reader Node) → Type 0
  EachReads c [] = Unit {0}
  EachReads c (r ∷ rs) = (field bs p ≡ pos c → p + 8 ≤ length bs → Reads (r bs (p + 8))) × EachReads (suc c) rs

  reads_at : (rs : List (Reader Node)) (c i : ℕ) → EachReads c rs → i < length rs → field bs p ≡ pos (c + i) → p + 8 ≤ length bs →
      Reads (get_or rs i (pure n_if) bs (p + 8))
  reads_at [] c i all lt h t = absurd (omega arith)
  reads_at (r ∷ rs) c zero all lt h t = all.0 (h ∙ ap pos (omega arith)) t
  reads_at (r ∷ rs) c (suc i) all lt h t = reads_at rs (suc c) i all.1 (omega arith) (h ∙ ap pos (omega arith)) t

  all_read : EachReads 0 (nodes vars)
  unfolding nodes
  all_read = (
    λ c _. var-reads c,
    (
      λ c _. int-reads c,
      (
        λ c _. bool-reads c,
        (
          λ c _. unary-reads c,
          (
            λ c _. binary-reads c,
            (if-reads, (λ c _. case-reads c, (λ c _. restr-reads c, (λ c _. dep-reads c, tt)))),
          ),
        ),
      ),
    ),
  )

  table-length : length (nodes vars) ≡ 9
  unfolding nodes
  table-length = refl

  node-reads : Reads (node vars bs p)
  unfolding node
  node-reads =
      then-reads (Counted 0 8 bs p) (p + 8) (choice 8 bs p) _ (choice-gives 8 bs p) (λ c e h.
      reads_at (nodes vars) 0 c all_read (omega (arith, table-length, h.high)) (h.field_is ∙ ap pos (omega arith)) h.there)

-- ---- taken out

module _ (vars : ℕ) (bs : List ℕ) (p : ℕ) (nd : Node) (q : ℕ) (e : node vars bs p ≡ got nd q) where
  reads : Upto (NodeAt vars bs p) (p + node_size nd) nd q
  reads = subst (Reads vars bs p) e (node-reads vars bs p)

  pub node_at : NodeAt vars bs p nd
  node_at = reads.what

  -- its bytes lie between p and the next place
  pub node-size : q ≡ p + node_size nd
  node-size = reads.next

  -- the node and the next place are those that are read there
  pub node-read : node_read vars bs p ≡ nd
  unfolding node_read
  node-read = ap read_node e

  pub node_end_lem : node_end vars bs p ≡ q
  unfolding node_end
  node_end_lem = ap read_end e

pub restr-constraint : {bs : List ℕ} {p d : ℕ} {cs : List Constraint} → Restricts bs p d cs → (i : ℕ) → i < length cs → (c : Constraint) →
    ConstraintAt d bs (p + 24 + i * (16 + 8 * d)) (get_or cs i c)
restr-constraint {bs} {p} {d} r i lt c =
    let at = p + 24 + i * (16 + 8 * d) in
    (given (ConstraintAt d bs at) (at + (16 + 8 * d)) (constraint-gives d bs at) (r.item i lt c)).what

pub dep-row : {bs : List ℕ} {p : ℕ} {f : Map} → Depends bs p f → (i : ℕ) → i < length f.rows → (w : Row) →
    RowAt f.cols bs (p + 24 + i * (8 + 8 * f.cols)) (get_or f.rows i w)
dep-row {bs} {p} {f} r i lt w =
    let at = p + 24 + i * (8 + 8 * f.cols) in
    (given (RowAt f.cols bs at) (at + (8 + 8 * f.cols)) (row_gives f.cols bs at) (r.item i lt w)).what
