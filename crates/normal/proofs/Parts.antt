-- A branch's parts by the node and its children: the children's combinations, the child that a case picks, and lengths. Assumes nothing.
use mathlib.Core.Path.{◌≡◌, refl, sym, ap, ◌∙◌}
use Prim.Native.Nat.{ℕ, ◌+◌, ◌*◌, ◌-◌, ◌/◌, ◌%◌, ◌≤◌, ◌<◌, max}
use native.Mathlib.Nat.{mul-one, div-one}
use native.Mathlib.Omega.{arith}
use mathlib.Core.Logic.{⊎_elim}
use mathlib.Core.Bool.{Bool, true, false}
use mathlib.Core.List.{List, ◌++◌, append-nil}
use lib.ListN.{length, length-append}
use lib.Dec.{ltb}
use borrow.Author.Tests.{lt-ltb, le-ltb}
use Rattle.alpha.specs.Pick.{ifb}
use Rattle.alpha.specs.Sheet.{Head, Map, Expr, Exprs, Node.n_unary, Node.n_binary, Node.n_if}
use Rattle.alpha.specs.Sheet.{Expr.var, Expr.int, Expr.boo, Expr.un, Expr.bin, Expr.ite, Expr.kase, Expr.restr, Expr.dep, Exprs.none, Exprs.more}
use Rattle.alpha.specs.Affine.{map_after}
use Rattle.alpha.specs.Shape.{fits, all_fit}
use Rattle.alpha.specs.Reach.{reach, reach_all}
use Rattle.alpha.specs.Written.{node_count, node_counts}
use Rattle.laws.specs.At.{node_of}
use Rattle.laws.specs.Children.{children_of}
use Rattle.laws.proofs.Tests.{&&-left, &&-right}
use Rattle.affine.proofs.Several.{lt-or-le}
use Rattle.tree.specs.declared.Class.TheVariants.{Leaf, Operator}
use Rattle.tree.specs.Classes.{class_of}
use Rattle.tree.proofs.Classes.{leaf-tree, operator-tree}
use Rattle.normal.specs.declared.Half.{Half}
use Rattle.normal.specs.declared.Mode.{Mode}
use Rattle.normal.specs.declared.Pen.{Pen}
use Rattle.normal.specs.Count.{count_of, sum_of, product_of, Picked, pick}
use Rattle.normal.specs.Part.{Part, nothing, beside, own, part_of, chosen_of, parts_of}
use Rattle.normal.specs.Followed.{advance, laid, room_of, Wrote}
use Rattle.normal.proofs.Branched.{part_same}
use Rattle.normal.proofs.Laid.{laid-after, laid_room}
use Rattle.normal.proofs.Spots.{own-things}

-- ---- nothing more

pub beside_nothing : (p : Part) → p ≡ beside p nothing
beside_nothing p = part_same (sym (append-nil p.out)) (omega arith) (omega arith)

-- ---- by the children

one-part : (t : Half) (a : Expr) (m : Map) (l b : ℕ) → part_of t a m l b ≡ parts_of t (more a none) m l b
unfolding parts_of product_of
one-part t a m l b = ap (part_of t a m l) (sym (div-one b)) ∙ beside_nothing (part_of t a m l (b / 1))

two-parts : (t : Half) (x y : Expr) (m : Map) (l b : ℕ) →
    beside (part_of t x m l (b / count_of y)) (part_of t y m l (b % count_of y)) ≡ parts_of t (more x (more y none)) m l b
unfolding parts_of product_of
two-parts t x y m l b =
    ap (λ n. beside (part_of t x m l (b / n)) (part_of t y m l (b % n))) (sym (mul-one (count_of y)))
    ∙ ap (beside (part_of t x m l (b / (count_of y * 1)))) (one-part t y m l (b % (count_of y * 1)))

three-parts : (t : Half) (x y z : Expr) (m : Map) (l b : ℕ) → let n = count_of y * count_of z in
    beside (part_of t x m l (b / n)) (beside (part_of t y m l (b % n / count_of z)) (part_of t z m l (b % n % count_of z)))
    ≡ parts_of t (more x (more y (more z none))) m l b
unfolding parts_of product_of
three-parts t x y z m l b =
    let n = count_of y * count_of z in
    ap (beside (part_of t x m l (b / n))) (two-parts t y z m l (b % n))
    ∙ ap (λ k. beside (part_of t x m l (b / (count_of y * k))) (parts_of t (more y (more z none)) m l (b % (count_of y * k)))) (sym (mul-one (count_of z)))

-- a leaf: its own part; an operator: its own part, and then its operands'
pub leaf-part : (t : Half) (m : Map) (l b : ℕ) (e : Expr) → class_of (node_of e) ≡ Leaf → part_of t e m l b ≡ own t (node_of e) m l
unfolding part_of
leaf-part t m l b = leaf-tree (λ e. part_of t e m l b ≡ own t (node_of e) m l) (λ v. refl) (λ c. refl) (λ c. refl)

pub operator-part : (t : Half) (m : Map) (l b : ℕ) (e : Expr) → class_of (node_of e) ≡ Operator →
    part_of t e m l b ≡ beside (own t (node_of e) m l) (parts_of t (children_of e) m (l + 1) b)
unfolding part_of
operator-part t m l b =
    operator-tree (λ e. part_of t e m l b ≡ beside (own t (node_of e) m l) (parts_of t (children_of e) m (l + 1) b))
    (λ o a. ap (beside (own t (n_unary o) m l)) (one-part t a m (l + 1) b))
    (λ o x y. ap (beside (own t (n_binary o) m l)) (two-parts t x y m (l + 1) b))
    (λ x y z. ap (beside (own t n_if m l)) (three-parts t x y z m (l + 1) b))

-- ---- the child that a case picks

pub record PickKept (es : Exprs) (b : ℕ) : Type 0 where
  pub fits-too : (hs : List Head) (n : ℕ) → all_fit es hs n ≡ true → fits (pick es b).child hs n ≡ true
  pub reaches-too : (r : ℕ) → reach_all es r ≡ true → reach (pick es b).child r ≡ true
  pub few : node_count (pick es b).child ≤ node_counts es
  pub no_more : count_of (pick es b).child ≤ sum_of es
  pub some : (pick es b).branch < count_of (pick es b).child
  pub part-is : (t : Half) (m : Map) (l : ℕ) → chosen_of t es m l b ≡ part_of t (pick es b).child m l (pick es b).branch

first-kept : (e : Expr) (es : Exprs) (b : ℕ) → b < count_of e → PickKept (more e es) b
unfolding pick fits reach node_counts count_of part_of
first-kept e es b h =
    let is : pick (more e es) b ≡ record { child = e; branch = b } =
    ap {B = Picked} (λ t. ifb t (λ _. record { child = e; branch = b }) (λ _. pick es (b - count_of e))) (lt-ltb b (count_of e) h) in
    record {
      fits-too = λ hs n f. rw (lt-ltb b (count_of e) h) (&&-left (fits e hs n) (all_fit es hs n) f);
      reaches-too = λ r f. rw (lt-ltb b (count_of e) h) (&&-left (reach e r) (reach_all es r) f);
      few = rw (lt-ltb b (count_of e) h) (omega arith);
      no_more = rw (lt-ltb b (count_of e) h) (omega arith);
      some = rw (lt-ltb b (count_of e) h) h;
      part-is = λ t m l. rw (lt-ltb b (count_of e) h) refl;
    }

later-kept : (e : Expr) (es : Exprs) (b : ℕ) → count_of e ≤ b → PickKept es (b - count_of e) → PickKept (more e es) b
unfolding pick fits reach node_counts count_of part_of
later-kept e es b h k = record {
  fits-too = λ hs n f. rw (le-ltb b (count_of e) h) (k.fits-too hs n (&&-right (fits e hs n) (all_fit es hs n) f));
  reaches-too = λ r f. rw (le-ltb b (count_of e) h) (k.reaches-too r (&&-right (reach e r) (reach_all es r) f));
  few = rw (le-ltb b (count_of e) h) (omega (arith, k.few));
  no_more = rw (le-ltb b (count_of e) h) (omega (arith, k.no_more));
  some = rw (le-ltb b (count_of e) h) k.some;
  part-is = λ t m l. rw (le-ltb b (count_of e) h) (k.part-is t m l);
}

pub pick-kept : (es : Exprs) (b : ℕ) → b < sum_of es → PickKept es b
unfolding count_of
pick-kept none b h = absurd (omega arith)
pick-kept (more e es) b h =
    ⊎_elim (λ lt. first-kept e es b lt) (λ le. later-kept e es b le (pick-kept es (b - count_of e) (omega arith))) (lt-or-le b (count_of e))

-- ---- the pen, part after part

pub wrote_then : (mode : Mode) (pen : Pen) (out : List ℕ) {a b : List ℕ} {y z : Pen} (p q : Part) → Wrote mode pen out a y p → Wrote mode y a b z q →
    Wrote mode pen out b z (beside p q)
wrote_then mode pen out {a} {b} {y} {z} p q h g = record {
  pen_is =
      g.pen_is ∙ ap (λ x. advance x q) h.pen_is
      ∙ (λ i. record {
        to = sum_is i;
        things = add_assoc pen.things p.things q.things i;
        deep = max_assoc pen.deep p.deep q.deep i;
      });
  out_is = laid-after mode out pen.to (length p.out) p.out q.out refl h.out_is (g.out_is ∙ ap (λ x. laid mode a x.to q.out) h.pen_is);
}
  where
    add_assoc : (i j k : ℕ) → i + j + k ≡ i + (j + k)
    add_assoc i j k = omega arith

    max_assoc : (i j k : ℕ) → max (max i j) k ≡ max i (max j k)
    max_assoc i j k = omega arith

    sum_is : pen.to + length p.out + length q.out ≡ pen.to + length (p.out ++ q.out)
    sum_is = omega (arith, length-append p.out q.out)

-- the room stays, whatever was stored
pub room-same : (mode : Mode) (pen : Pen) (out : List ℕ) {a : List ℕ} {y : Pen} (p : Part) → Wrote mode pen out a y p → room_of mode a ≡ room_of mode out
room-same mode pen out p h = laid_room mode out pen.to p.out h.out_is

-- ---- a part is at least as long as it has things

both-things : (p q : Part) → p.things ≤ length p.out → q.things ≤ length q.out → (beside p q).things ≤ length (beside p q).out
both-things p q h g = omega (arith, length-append p.out q.out)

mutual
  unfolding part_of

  pub part-things : (t : Half) (e : Expr) (m : Map) (l b : ℕ) → (part_of t e m l b).things ≤ length (part_of t e m l b).out
  part-things t (var v) m l b = own-things t (node_of (var v)) m l
  part-things t (int c) m l b = own-things t (node_of (int c)) m l
  part-things t (boo c) m l b = own-things t (node_of (boo c)) m l
  part-things t (un o a) m l b = both-things (own t (node_of (un o a)) m l) (part_of t a m (l + 1) b) (own-things t (node_of (un o a)) m l)
      (part-things t a m (l + 1) b)
  part-things t (bin o x y) m l b =
      let i = b / count_of y in
      let j = b % count_of y in
      both-things (own t (node_of (bin o x y)) m l) (beside (part_of t x m (l + 1) i) (part_of t y m (l + 1) j)) (own-things t (node_of (bin o x y)) m l)
      (both-things (part_of t x m (l + 1) i) (part_of t y m (l + 1) j) (part-things t x m (l + 1) i) (part-things t y m (l + 1) j))
  part-things t (ite x y z) m l b =
      let n = count_of y * count_of z in
      let i = b / n in
      let j = b % n / count_of z in
      let k = b % n % count_of z in
      both-things (own t (node_of (ite x y z)) m l) (beside (part_of t x m (l + 1) i) (beside (part_of t y m (l + 1) j) (part_of t z m (l + 1) k)))
      (own-things t (node_of (ite x y z)) m l)
      (both-things (part_of t x m (l + 1) i) (beside (part_of t y m (l + 1) j) (part_of t z m (l + 1) k)) (part-things t x m (l + 1) i)
      (both-things (part_of t y m (l + 1) j) (part_of t z m (l + 1) k) (part-things t y m (l + 1) j) (part-things t z m (l + 1) k)))
  part-things t (kase es) m l b = chosen-things t es m l b
  part-things t (restr d cs a) m l b = both-things (own t (node_of (restr d cs a)) m l) (part_of t a m l b) (own-things t (node_of (restr d cs a)) m l)
      (part-things t a m l b)
  part-things t (dep f a) m l b = part-things t a (map_after m f) l b

  chosen-things : (t : Half) (es : Exprs) (m : Map) (l b : ℕ) → (chosen_of t es m l b).things ≤ length (chosen_of t es m l b).out
  chosen-things t none m l b = omega arith
  chosen-things t (more e es) m l b = go (ltb b (count_of e)) (part-things t e m l b) (chosen-things t es m l (b - count_of e))
    where
      go : (d : Bool) → (part_of t e m l b).things ≤ length (part_of t e m l b).out →
          (chosen_of t es m l (b - count_of e)).things ≤ length (chosen_of t es m l (b - count_of e)).out →
          (ifb d (λ _. part_of t e m l b) (λ _. chosen_of t es m l (b - count_of e))).things
          ≤ length (ifb d (λ _. part_of t e m l b) (λ _. chosen_of t es m l (b - count_of e))).out
      go true h g = h
      go false h g = g

pub things_low : (mode : Mode) (pen : Pen) (out : List ℕ) {a : List ℕ} {y : Pen} (p : Part) → Wrote mode pen out a y p → pen.things ≤ pen.to →
    p.things ≤ length p.out → y.things ≤ y.to
things_low mode pen out {y = y} p h low few =
    let to_is = ap (λ z. z.to) h.pen_is in
    let things-are = ap (λ z. z.things) h.pen_is in
    omega (arith)
