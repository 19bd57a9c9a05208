-- What is written is read back: a field, a row, a constraint, a node and a tree whose bytes stand at a place; and bytes stored one part
-- after another are the parts stored as one. Assumes nothing.
use mathlib.Core.Path.{◌≡◌, refl, sym, ap, ◌∙◌, subst}
use Prim.Native.Nat.{ℕ, zero, suc, ◌+◌, ◌*◌, ◌-◌, ◌/◌, ◌%◌, ◌^◌, ◌≤◌, ◌<◌}
use native.Mathlib.Nat.{add-zero, mod-eq_of_lt}
use native.Mathlib.Omega.{arith}
use mathlib.Core.Bool.{Bool, true}
use mathlib.Core.List.{List, [], ◌∷◌, ◌++◌, map}
use lib.ListN.{length, get_or, set, length-append, get_or-append}
use lib.Seq.{sets, get_or-append-add}
use lib.IntN.{ℤ, pos, negsuc, neg_ℤ, nat_abs}
use lib.Dec.{leb}
use borrow.Author.Tests.{leb-true, le-leb, lt-ltb, le-ltb}
use Rattle.alpha.specs.Field.{byte, word_at, signed_of, field, bytes_of, word_of, num, nat}
use Rattle.alpha.specs.Answer.{COUNT, NUMBER}
use Rattle.alpha.specs.Sheet.{Relation, Relation.at_least, Relation.equal, Unary, Binary, Row, Constraint, Map, Expr, Exprs}
use Rattle.alpha.specs.Sheet.{Node.n_var, Node.n_int, Node.n_bool, Node.n_unary, Node.n_binary, Node.n_if, Node.n_case, Node.n_restr, Node.n_dep}
use Rattle.alpha.specs.Sheet.{Expr.var, Expr.int, Expr.boo, Expr.un, Expr.bin, Expr.ite, Expr.kase, Expr.restr, Expr.dep, Exprs.none, Exprs.more}
use Rattle.alpha.specs.Sheet.{Unary.negate, Unary.complement, Binary.plus, Binary.minus, Binary.times, Binary.quot, Binary.rem, Binary.least, Binary.most, Binary.same, Binary.differ, Binary.under, Binary.up_to, Binary.over, Binary.from, Binary.both, Binary.either, Binary.one}
use Rattle.alpha.specs.Box.{within}
use Rattle.alpha.specs.Read.{got, Reader, repeat, passing, count, choice, free, pure, relation_of, unary_of, binary_of, row_of, constraint, restriction, dependence, nodes, node}
use Rattle.alpha.specs.Written.{flat, relation_code, unary_code, binary_code, row_bytes, constraint_bytes, branch_count, bytes, all_bytes}
use Rattle.laws.specs.At.{At, AllAt}
use Rattle.laws.specs.Stands.{Stands}
use Rattle.laws.specs.Writable.{All, RowOk, Writable, AllWritable}
use Rattle.laws.proofs.Tests.{&&-left, pos-within, size-within}

-- ---- parts

module _ (l m bs : List ℕ) (p : ℕ) (h : Stands (l ++ m) bs p) where
  pub stands-left : Stands l bs p
  stands-left = record {
    there = omega (arith, h.there, length-append l m);
    byte_is = λ i lt. h.byte_is i (omega (arith, length-append l m)) ∙ get_or-append l m 0 i lt;
  }

  pub stands-right : Stands m bs (p + length l)
  stands-right = record {
    there = omega (arith, h.there, length-append l m);
    byte_is = λ i lt.
        let on : p + length l + i ≡ p + (length l + i) = omega arith in
        rw on (h.byte_is (length l + i) (omega (arith, length-append l m)) ∙ get_or-append-add l m i 0);
  }

-- stored one after another
pub sets-append : (l : List ℕ) (i : ℕ) (xs ys : List ℕ) → sets l i (xs ++ ys) ≡ sets (sets l i xs) (i + length xs) ys
sets-append l i [] ys = ap (λ k. sets l k ys) (sym (add-zero i))
sets-append l i (x ∷ xs) ys =
    let e : suc i + length xs ≡ i + suc (length xs) = omega arith in
    sets-append (set l i x) (suc i) xs ys ∙ ap (λ k. sets (sets (set l i x) (suc i) xs) k ys) e

-- ---- fields

-- a digit and what stands above it
digit : (w b r : ℕ) → b ≡ w % 256 → r ≡ w / 256 → b + 256 * r ≡ w
digit w b r p q = omega arith

pub length-bytes_of : (k w : ℕ) → length (bytes_of k w) ≡ k
unfolding bytes_of
length-bytes_of zero w = refl
length-bytes_of (suc k) w = ap suc (length-bytes_of k (w / 256))

module _ (w : ℕ) (bs : List ℕ) (p : ℕ) (lt : w < 18446744073709551616) (h : Stands (bytes_of 8 w) bs p) where
  word_read : word_at bs p ≡ w
  unfolding bytes_of
  word_read =
      let w₁ = w / 256 in
      let w₂ = w₁ / 256 in
      let w₃ = w₂ / 256 in
      let w₄ = w₃ / 256 in
      let w₅ = w₄ / 256 in
      let w₆ = w₅ / 256 in
      let w₇ = w₆ / 256 in
      let b₀ : byte bs p ≡ w % 256 = ap (byte bs) (sym (add-zero p)) ∙ h.byte_is 0 (omega arith) in
      let last : byte bs (p + 7) ≡ w₇ = h.byte_is 7 (omega arith) ∙ mod-eq_of_lt (small w lt) in
      digit w _ _ b₀
      (digit w₁ _ _ (h.byte_is 1 (omega arith))
      (digit w₂ _ _ (h.byte_is 2 (omega arith))
      (digit w₃ _ _ (h.byte_is 3 (omega arith))
      (digit w₄ _ _ (h.byte_is 4 (omega arith))
      (digit w₅ _ _ (h.byte_is 5 (omega arith))
      (digit w₆ _ _ (h.byte_is 6 (omega arith)) last))))))
    where
      small : (w : ℕ) → w < 18446744073709551616 → w / 256 / 256 / 256 / 256 / 256 / 256 / 256 < 256
      small w lt = omega arith

-- the numbers that a field holds: from -2^62 to 2^62 is enough here
pub field-num : (x : ℤ) (bs : List ℕ) (p : ℕ) → nat_abs x ≤ 2 ^ 62 → Stands (num x) bs p → field bs p ≡ x
field-num (pos n) bs p l h =
    ap signed_of (word_read n bs p (omega arith) h) ∙ rw (lt-ltb n 9223372036854775808 (omega arith)) refl
field-num (negsuc n) bs p l h =
    let w = 18446744073709551615 - n in
    let high : 9223372036854775808 ≤ w = omega arith in
    let back : 18446744073709551615 - w ≡ n = omega arith in
    ap signed_of (word_read w bs p (omega arith) h) ∙ rw (le-ltb w 9223372036854775808 high, back) refl

-- ---- readers of fields

pub passing-got : (n : ℕ) (test : ℤ → Bool) (bs : List ℕ) (p : ℕ) → p + 8 ≤ length bs → test (field bs p) ≡ true → passing n test bs p ≡ got (field bs p) (p + 8)
unfolding passing
passing-got n test bs p t h = rw (le-leb (p + 8) (length bs) t, h)

number-got : (n : ℕ) (test : ℤ → Bool) (x : ℤ) (bs : List ℕ) (p : ℕ) → nat_abs x ≤ 2 ^ 62 → test x ≡ true → Stands (num x) bs p → passing n test bs p ≡ got x (p + 8)
number-got n test x bs p l t h =
    let e = field-num x bs p l h in
    passing-got n test bs p (omega (arith, h.there, length-bytes_of 8 (word_of x))) (ap test e ∙ t) ∙ ap (λ y. got y (p + 8)) e

pub count-got : (lo hi n : ℕ) (bs : List ℕ) (p : ℕ) → lo ≤ n → n ≤ hi → n ≤ 2 ^ 62 → Stands (nat n) bs p → count lo hi bs p ≡ got n (p + 8)
count-got lo hi n bs p l u s h = rw (number-got COUNT (within (pos lo) (pos hi)) (pos n) bs p s (pos-within lo hi n l u) h)

pub choice-got : (hi n : ℕ) (bs : List ℕ) (p : ℕ) → n ≤ hi → n ≤ 2 ^ 62 → Stands (nat n) bs p → choice hi bs p ≡ got n (p + 8)
choice-got hi n bs p u s h = rw (number-got NUMBER (within (pos 0) (pos hi)) (pos n) bs p s (pos-within 0 hi n (omega arith) u) h)

pub free-got : (x : ℤ) (bs : List ℕ) (p : ℕ) → nat_abs x ≤ 2 ^ 40 → Stands (num x) bs p → free bs p ≡ got x (p + 8)
free-got x bs p l h = number-got NUMBER (within (neg_ℤ (pos (2 ^ 40))) (pos (2 ^ 40))) x bs p (omega arith) (size-within (2 ^ 40) x l) h

-- ---- lists: each item is read back from its own bytes

module _ {A : Type 0} (P : A → Type 0) (write : A → List ℕ) (r : Reader A) (bs : List ℕ)
    (reads : (a : A) (p : ℕ) → P a → Stands (write a) bs p → r bs p ≡ got a (p + length (write a))) where
  pub repeat-got : (l : List A) (p : ℕ) → All P l → Stands (flat (map write l)) bs p → repeat (length l) r bs p ≡ got l (p + length (flat (map write l)))
  repeat-got [] p k h = ap (got []) (sym (add-zero p))
  repeat-got (a ∷ l) p k h =
      let first = reads a p k.0 (stands-left (write a) (flat (map write l)) bs p h) in
      let rest = repeat-got l (p + length (write a)) k.1 (stands-right (write a) (flat (map write l)) bs p h) in
      let end : p + length (write a) + length (flat (map write l)) ≡ p + length (write a ++ flat (map write l)) = omega (arith, length-append (write a) (flat (map write l))) in
      rw (first, rest, end)

-- ---- rows and constraints

pub length-num : (x : ℤ) → length (num x) ≡ 8
length-num x = length-bytes_of 8 (word_of x)

pub row-got : (n : ℕ) (w : Row) (bs : List ℕ) (p : ℕ) → RowOk n w → Stands (row_bytes w) bs p → row_of n bs p ≡ got w (p + length (row_bytes w))
unfolding row_of
row-got n w bs p k h =
    let front = flat (map num w.coefs) in
    let one : (x : ℤ) (q : ℕ) → nat_abs x ≤ 2 ^ 40 → Stands (num x) bs q → free bs q ≡ got x (q + length (num x)) =
    λ x q l t. free-got x bs q l t ∙ ap (λ m. got x (q + m)) (sym (length-num x)) in
    let coefs = subst (λ m. repeat m free bs p ≡ got w.coefs (p + length front)) k.width
    (repeat-got (λ x. nat_abs x ≤ 2 ^ 40) num free bs one w.coefs p k.coefs_small (stands-left front (num w.const) bs p h)) in
    let const = free-got w.const bs (p + length front) k.const_small (stands-right front (num w.const) bs p h) in
    let end : p + length front + 8 ≡ p + length (row_bytes w) = omega (arith, length-append front (num w.const), length-num w.const) in
    rw (coefs, const, end)

relation-back : (k : Relation) → relation_of (relation_code k) ≡ k
relation-back at_least = refl
relation-back equal = refl

relation-low : (k : Relation) → relation_code k ≤ 1
relation-low at_least = omega arith
relation-low equal = omega arith

pub constraint-got : (n : ℕ) (c : Constraint) (bs : List ℕ) (p : ℕ) → RowOk n c.row → Stands (constraint_bytes c) bs p →
    constraint n bs p ≡ got c (p + length (constraint_bytes c))
unfolding constraint
constraint-got n c bs p k h =
    let code = nat (relation_code c.rel) in
    let low = relation-low c.rel in
    let eight : length code ≡ 8 = length-bytes_of 8 (relation_code c.rel) in
    let first = choice-got 1 (relation_code c.rel) bs p low (omega arith) (stands-left code (row_bytes c.row) bs p h) in
    let row = row-got n c.row bs (p + 8) k (rw eight at (stands-right code (row_bytes c.row) bs p h)) in
    let end : p + 8 + length (row_bytes c.row) ≡ p + length (constraint_bytes c) = omega (arith, eight, length-append code (row_bytes c.row)) in
    rw (first, row, relation-back c.rel, end)

-- ---- operators

unary-back : (o : Unary) → unary_of (unary_code o) ≡ o
unary-back negate = refl
unary-back complement = refl

unary-low : (o : Unary) → unary_code o ≤ 1
unary-low negate = omega arith
unary-low complement = omega arith

binary-back : (o : Binary) → binary_of (binary_code o) ≡ o
binary-back plus = refl
binary-back minus = refl
binary-back times = refl
binary-back quot = refl
binary-back rem = refl
binary-back least = refl
binary-back most = refl
binary-back same = refl
binary-back differ = refl
binary-back under = refl
binary-back up_to = refl
binary-back over = refl
binary-back from = refl
binary-back both = refl
binary-back either = refl
binary-back one = refl

binary-low : (o : Binary) → binary_code o ≤ 15
binary-low plus = omega arith
binary-low minus = omega arith
binary-low times = omega arith
binary-low quot = omega arith
binary-low rem = omega arith
binary-low least = omega arith
binary-low most = omega arith
binary-low same = omega arith
binary-low differ = omega arith
binary-low under = omega arith
binary-low up_to = omega arith
binary-low over = omega arith
binary-low from = omega arith
binary-low both = omega arith
binary-low either = omega arith
binary-low one = omega arith

int_small : (c : ℤ) → within (neg_ℤ (pos 2147483648)) (pos 2147483647) c ≡ true → nat_abs c ≤ 2 ^ 62
int_small (pos n) h = omega (arith, leb-true n 2147483647 h)
int_small (negsuc n) h = omega (arith, leb-true n 2147483647 (&&-left (leb n 2147483647) true h))

-- ---- nodes

module _ (vars : ℕ) (bs : List ℕ) where
  code_got : (code p : ℕ) → code ≤ 8 → Stands (nat code) bs p → node vars bs p ≡ get_or (nodes vars) code (pure n_if) bs (p + 8)
  unfolding node
  code_got code p l h = rw (choice-got 8 code bs p l (omega arith) h)

  module _ (p : ℕ) where
    on : (k : ℕ) → p + k + 8 ≡ p + (k + 8)
    on k = omega arith

    var-got : (v : ℕ) → v ≤ vars - 1 → v ≤ 2 ^ 62 → Stands (nat 0 ++ nat v) bs p → node vars bs p ≡ got (n_var v) (p + 16)
    unfolding nodes bytes_of
    var-got v l u h =
        code_got 0 p (omega arith) (stands-left (nat 0) (nat v) bs p h)
        ∙ rw (choice-got (vars - 1) v bs (p + 8) l u (stands-right (nat 0) (nat v) bs p h), on 8)

    int_got : (c : ℤ) → within (neg_ℤ (pos 2147483648)) (pos 2147483647) c ≡ true → Stands (nat 1 ++ num c) bs p → node vars bs p ≡ got (n_int c) (p + 16)
    unfolding nodes bytes_of
    int_got c l h =
        code_got 1 p (omega arith) (stands-left (nat 1) (num c) bs p h)
        ∙ rw (number-got NUMBER (within (neg_ℤ (pos 2147483648)) (pos 2147483647)) c bs (p + 8) (int_small c l) l (stands-right (nat 1) (num c) bs p h), on 8)

    boo-got : (b : ℕ) → b ≤ 1 → Stands (nat 2 ++ nat b) bs p → node vars bs p ≡ got (n_bool b) (p + 16)
    unfolding nodes bytes_of
    boo-got b l h =
        code_got 2 p (omega arith) (stands-left (nat 2) (nat b) bs p h)
        ∙ rw (choice-got 1 b bs (p + 8) l (omega arith) (stands-right (nat 2) (nat b) bs p h), on 8)

    un-got : (o : Unary) → Stands (nat 3 ++ nat (unary_code o)) bs p → node vars bs p ≡ got (n_unary o) (p + 16)
    unfolding nodes bytes_of
    un-got o h =
        let l = unary-low o in
        code_got 3 p (omega arith) (stands-left (nat 3) (nat (unary_code o)) bs p h)
        ∙ rw (choice-got 1 (unary_code o) bs (p + 8) l (omega arith) (stands-right (nat 3) (nat (unary_code o)) bs p h), unary-back o, on 8)

    bin-got : (o : Binary) → Stands (nat 4 ++ nat (binary_code o)) bs p → node vars bs p ≡ got (n_binary o) (p + 16)
    unfolding nodes bytes_of
    bin-got o h =
        let l = binary-low o in
        code_got 4 p (omega arith) (stands-left (nat 4) (nat (binary_code o)) bs p h)
        ∙ rw (choice-got 15 (binary_code o) bs (p + 8) l (omega arith) (stands-right (nat 4) (nat (binary_code o)) bs p h), binary-back o, on 8)

    if-got : Stands (nat 5) bs p → node vars bs p ≡ got n_if (p + 8)
    unfolding nodes
    if-got h = code_got 5 p (omega arith) h

    case-got : (n : ℕ) → 1 ≤ n → n ≤ 64 → Stands (nat 6 ++ nat n) bs p → node vars bs p ≡ got (n_case n) (p + 16)
    unfolding nodes bytes_of
    case-got n l u h =
        code_got 6 p (omega arith) (stands-left (nat 6) (nat n) bs p h)
        ∙ rw (count-got 1 64 n bs (p + 8) l u (omega arith) (stands-right (nat 6) (nat n) bs p h), on 8)

    restr-got : (d : ℕ) (cs : List Constraint) → d ≤ 4 → length cs ≤ 64 → All (λ c. RowOk d c.row) cs →
        Stands (nat 7 ++ nat d ++ nat (length cs) ++ flat (map constraint_bytes cs)) bs p →
        node vars bs p ≡ got (n_restr d cs) (p + 24 + length (flat (map constraint_bytes cs)))
    unfolding nodes restriction bytes_of
    restr-got d cs l u k h =
        let rest = flat (map constraint_bytes cs) in
        let fields = stands-left (nat 7 ++ nat d ++ nat (length cs)) rest bs p h in
        let two = stands-left (nat 7 ++ nat d) (nat (length cs)) bs p fields in
        code_got 7 p (omega arith) (stands-left (nat 7) (nat d) bs p two)
        ∙ rw (
          count-got 0 4 d bs (p + 8) (omega arith) l (omega arith) (stands-right (nat 7) (nat d) bs p two),
          on 8,
          count-got 0 64 (length cs) bs (p + 16) (omega arith) u (omega arith) (stands-right (nat 7 ++ nat d) (nat (length cs)) bs p fields),
          on 16,
          repeat-got (λ c. RowOk d c.row) constraint_bytes (constraint d) bs (λ c q r t. constraint-got d c bs q r t) cs (p + 24) k
              (stands-right (nat 7 ++ nat d ++ nat (length cs)) rest bs p h),
        )

    dep-got : (f : Map) → f.cols ≤ 4 → length f.rows ≤ 4 → All (RowOk f.cols) f.rows →
        Stands (nat 8 ++ nat f.cols ++ nat (length f.rows) ++ flat (map row_bytes f.rows)) bs p →
        node vars bs p ≡ got (n_dep f) (p + 24 + length (flat (map row_bytes f.rows)))
    unfolding nodes dependence bytes_of
    dep-got f l u k h =
        let rest = flat (map row_bytes f.rows) in
        let fields = stands-left (nat 8 ++ nat f.cols ++ nat (length f.rows)) rest bs p h in
        let two = stands-left (nat 8 ++ nat f.cols) (nat (length f.rows)) bs p fields in
        code_got 8 p (omega arith) (stands-left (nat 8) (nat f.cols) bs p two)
        ∙ rw (
          count-got 0 4 f.cols bs (p + 8) (omega arith) l (omega arith) (stands-right (nat 8) (nat f.cols) bs p two),
          on 8,
          count-got 0 4 (length f.rows) bs (p + 16) (omega arith) u (omega arith) (stands-right (nat 8 ++ nat f.cols) (nat (length f.rows)) bs p fields),
          on 16,
          repeat-got (RowOk f.cols) row_bytes (row_of f.cols) bs (λ w q r t. row-got f.cols w bs q r t) f.rows (p + 24) k
              (stands-right (nat 8 ++ nat f.cols ++ nat (length f.rows)) rest bs p h),
        )

-- ---- trees

module _ (vars : ℕ) (bs : List ℕ) (few : vars ≤ 2 ^ 62) where
  -- the same place, written otherwise
  from-there : (l : List ℕ) (p q : ℕ) → p ≡ q → Stands l bs p → Stands l bs q
  from-there l p q e h = subst (Stands l bs) e h

  up-to : (e : Expr) (p q r : ℕ) → q ≡ r → At e vars bs p q → At e vars bs p r
  up-to e p q r k h = subst (λ o. At e vars bs p o) k h

  all-up-to : (es : Exprs) (p q r : ℕ) → q ≡ r → AllAt es vars bs p q → AllAt es vars bs p r
  all-up-to es p q r k h = subst (λ o. AllAt es vars bs p o) k h

  mutual
    unfolding At bytes Writable bytes_of

    pub written_at : (e : Expr) (p : ℕ) → Writable e vars → Stands (bytes e) bs p → At e vars bs p (p + length (bytes e))
    written_at (var v) p w h = var-got vars bs p v w (omega arith) h
    written_at (int c) p w h = int_got vars bs p c w h
    written_at (boo b) p w h = boo-got vars bs p b w h
    written_at (un o a) p w h =
        let front = nat 3 ++ nat (unary_code o) in
        record {
          next = p + 16;
          here = un-got vars bs p o (stands-left front (bytes a) bs p h);
          below = up-to a (p + 16) _ _ (omega arith) (written_at a (p + 16) w (stands-right front (bytes a) bs p h));
        }
    written_at (bin o a b) p w h =
        let front = nat 4 ++ nat (binary_code o) in
        let left = stands-left (front ++ bytes a) (bytes b) bs p h in
        let right = stands-right (front ++ bytes a) (bytes b) bs p h in
        let m = p + 16 + length (bytes a) in
        record {
          next = p + 16;
          here = bin-got vars bs p o (stands-left front (bytes a) bs p left);
          below = record {
            middle = m;
            before = written_at a (p + 16) w.0 (stands-right front (bytes a) bs p left);
            after = up-to b m _ _ (omega (arith, length-append (bytes a) (bytes b))) (written_at b m w.1 (from-there (bytes b) _ m (omega arith) right));
          };
        }
    written_at (ite a b c) p w h =
        let two = stands-left (nat 5 ++ bytes a ++ bytes b) (bytes c) bs p h in
        let one = stands-left (nat 5 ++ bytes a) (bytes b) bs p two in
        let second = stands-right (nat 5 ++ bytes a) (bytes b) bs p two in
        let third = stands-right (nat 5 ++ bytes a ++ bytes b) (bytes c) bs p h in
        let m = p + 8 + length (bytes a) in
        let n = m + length (bytes b) in
        record {
          next = p + 8;
          here = if-got vars bs p (stands-left (nat 5) (bytes a) bs p one);
          below = record {
            middle = m;
            before = written_at a (p + 8) w.0 (stands-right (nat 5) (bytes a) bs p one);
            after = record {
              middle = n;
              before = written_at b m w.1 (from-there (bytes b) _ m (omega arith) second);
              after = up-to c n _ _ (omega (arith, length-append (bytes a ++ bytes b) (bytes c), length-append (bytes a) (bytes b)))
                  (written_at c n w.2 (from-there (bytes c) _ n (omega (arith, length-append (bytes a) (bytes b))) third));
            };
          };
        }
    written_at (kase es) p w h =
        let front = nat 6 ++ nat (branch_count es) in
        record {
          next = p + 16;
          here = case-got vars bs p (branch_count es) w.0 w.1 (stands-left front (all_bytes es) bs p h);
          below = all-up-to es (p + 16) _ _ (omega arith) (written_all es (p + 16) w.2 (stands-right front (all_bytes es) bs p h));
        }
    written_at (restr d cs a) p w h =
        let rows = flat (map constraint_bytes cs) in
        let front = nat 7 ++ nat d ++ nat (length cs) ++ rows in
        let n = p + 24 + length rows in
        record {
          next = n;
          here = restr-got vars bs p d cs w.0 w.1 w.2 (stands-left front (bytes a) bs p h);
          below = up-to a n _ _ (omega (arith, length-append rows (bytes a)))
              (written_at a n w.3 (from-there (bytes a) _ n (omega arith) (stands-right front (bytes a) bs p h)));
        }
    written_at (dep f a) p w h =
        let rows = flat (map row_bytes f.rows) in
        let front = nat 8 ++ nat f.cols ++ nat (length f.rows) ++ rows in
        let n = p + 24 + length rows in
        record {
          next = n;
          here = dep-got vars bs p f w.0 w.1 w.2 (stands-left front (bytes a) bs p h);
          below = up-to a n _ _ (omega (arith, length-append rows (bytes a)))
              (written_at a n w.3 (from-there (bytes a) _ n (omega arith) (stands-right front (bytes a) bs p h)));
        }

    pub written_all : (es : Exprs) (p : ℕ) → AllWritable es vars → Stands (all_bytes es) bs p → AllAt es vars bs p (p + length (all_bytes es))
    written_all none p w h = omega arith
    written_all (more e es) p w h =
        let m = p + length (bytes e) in
        record {
          middle = m;
          before = written_at e p w.0 (stands-left (bytes e) (all_bytes es) bs p h);
          after = all-up-to es m _ _ (omega (arith, length-append (bytes e) (all_bytes es))) (written_all es m w.1 (stands-right (bytes e) (all_bytes es) bs p h));
        }
