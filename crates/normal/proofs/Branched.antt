-- What is written for branch b of an expression, from the top down with the map m so far, is branch b of its normal form pushed through m:
-- its tree's bytes, nodes and depth, and its constraints. Assumes only that the expression fits its dimension and its rows are as wide as
-- they should be.
use mathlib.Core.Path.{◌≡◌, refl, sym, ap, ap₂, ◌∙◌, subst}
use Prim.Native.Nat.{ℕ, zero, suc, ◌+◌, ◌*◌, ◌-◌, ◌/◌, ◌%◌, ◌≤◌, ◌<◌, max}
use native.Mathlib.Nat.{mod-lt, div-lt_iff_lt-mul}
use native.Mathlib.Omega.{arith}
use mathlib.Core.Logic.{⊎_elim}
use mathlib.Core.Bool.{true, ◌&&◌}
use mathlib.Core.List.{List, [], ◌∷◌, ◌++◌, map, append_assoc, map-append}
use lib.ListN.{length, length-append, length-map}
use lib.Dec.{eqb}
use borrow.Author.Tests.{eqb-true, lt-ltb, le-ltb}
use Rattle.alpha.specs.Pick.{ifb}
use Rattle.alpha.specs.Field.{nat}
use Rattle.alpha.specs.Sheet.{Unary, Binary, Head, Constraint, Map, Expr, Exprs}
use Rattle.alpha.specs.Sheet.{Expr.var, Expr.int, Expr.boo, Expr.un, Expr.bin, Expr.ite, Expr.kase, Expr.restr, Expr.dep, Exprs.none, Exprs.more}
use Rattle.alpha.specs.Affine.{row_after, constraint_after, map_after, identity}
use Rattle.alpha.specs.Read.{dimension}
use Rattle.alpha.specs.Shape.{fits, all_fit}
use Rattle.alpha.specs.Written.{flat, unary_code, binary_code, constraint_bytes, bytes, node_count, depth}
use Rattle.alpha.specs.Normal.{Branch, push, push_branch, restrict, under1, norm, norms}
use Rattle.laws.specs.Wide.{RowsWide, Wide, AllWide}
use Rattle.laws.proofs.Tests.{&&-left, &&-right}
use Rattle.laws.proofs.Branches.{joined, joined3}
use Rattle.laws.proofs.NormalAgain.{map-again, rows-after-wide}
use Rattle.affine.proofs.Several.{lt-or-le}
use Rattle.normal.specs.Count.{count_of, sum_of}
use Rattle.normal.specs.declared.Half.TheVariants.{Constraints, Tree}
use Rattle.normal.specs.Part.{Part, nothing, beside, tree_part, given_part, leaf, operator, of_given, part_of, chosen_of}
use Rattle.normal.proofs.Composing.{given-twice, push-twice}
use Rattle.normal.proofs.Numbered.{branch_at, map_at, positive, count-is, bin_at, ite-at, first-at, rest_at}

-- ---- a tree and constraints as parts

pub part_same : {p q : Part} → p.out ≡ q.out → p.things ≡ q.things → p.deep ≡ q.deep → p ≡ q
part_same a b c = λ i. record { out = a i; things = b i; deep = c i }

leaf-tree : (m : Map) (e : Expr) (l : ℕ) → node_count e ≡ 1 → depth e ≡ 1 → leaf m e l ≡ tree_part (dep m e) l
unfolding node_count depth
leaf-tree m e l n d = part_same refl (omega arith) (omega arith)

unary-tree : (head : List ℕ) (x y : Expr) (l : ℕ) → bytes y ≡ head ++ bytes x → node_count y ≡ suc (node_count x) → depth y ≡ suc (depth x) →
    beside (operator head) (tree_part x (l + 1)) ≡ tree_part y l
unary-tree head x y l a b c = part_same (sym a) (omega arith) (omega arith)

binary-tree : (head : List ℕ) (x y z : Expr) (l : ℕ) → bytes z ≡ head ++ bytes x ++ bytes y → node_count z ≡ suc (node_count x + node_count y) →
    depth z ≡ suc (max (depth x) (depth y)) → beside (operator head) (beside (tree_part x (l + 1)) (tree_part y (l + 1))) ≡ tree_part z l
binary-tree head x y z l a b c = part_same (sym (append_assoc head (bytes x) (bytes y)) ∙ sym a) (omega arith) (omega arith)

if-tree : (head : List ℕ) (w x y z : Expr) (l : ℕ) → bytes z ≡ head ++ bytes w ++ bytes x ++ bytes y →
    node_count z ≡ suc (node_count w + node_count x + node_count y) →
    depth z ≡ suc (max (depth w) (max (depth x) (depth y))) →
    beside (operator head) (beside (tree_part w (l + 1)) (beside (tree_part x (l + 1)) (tree_part y (l + 1)))) ≡ tree_part z l
if-tree head w x y z l a b c =
    part_same
    (ap (λ t. head ++ t) (sym (append_assoc (bytes w) (bytes x) (bytes y))) ∙ sym (append_assoc head (bytes w ++ bytes x) (bytes y))
    ∙ ap (λ t. t ++ bytes y) (sym (append_assoc head (bytes w) (bytes x))) ∙ sym a)
    (omega arith) (omega arith)

flat_append : (xs ys : List (List ℕ)) → flat (xs ++ ys) ≡ flat xs ++ flat ys
flat_append [] ys = refl
flat_append (x ∷ xs) ys = ap (λ t. x ++ t) (flat_append xs ys) ∙ sym (append_assoc x (flat xs) (flat ys))

pub given-beside : (xs ys : List Constraint) → beside (given_part xs) (given_part ys) ≡ given_part (xs ++ ys)
given-beside xs ys =
    part_same (sym (ap flat (map-append constraint_bytes xs ys) ∙ flat_append (map constraint_bytes xs) (map constraint_bytes ys)))
    (sym (length-append xs ys)) (omega arith)

-- no constraints of its own
none-given : (p : Part) → beside (given_part []) p ≡ p
none-given p = part_same refl (omega arith) (omega arith)

nothing-beside : (p : Part) → beside nothing p ≡ p
nothing-beside p = part_same refl (omega arith) (omega arith)

-- ---- the branch

-- both parts of branch b are those of the branch x pushed through m
pub record Branched (e : Expr) (m : Map) (l b : ℕ) (x : Branch) : Type 0 where
  pub tree_is : part_of Tree e m l b ≡ tree_part (push x.term m) l
  pub given_is : part_of Constraints e m l b ≡ given_part (map (constraint_after m) x.given)

record Chosen (es : Exprs) (m : Map) (l b : ℕ) (x : Branch) : Type 0 where
  tree_is : chosen_of Tree es m l b ≡ tree_part (push x.term m) l
  given_is : chosen_of Constraints es m l b ≡ given_part (map (constraint_after m) x.given)

-- a leaf, whose identity after m is m
leaf-branched : (e : Expr) (m : Map) (l b d : ℕ) → d ≡ length m.rows → RowsWide m.cols m.rows → part_of Tree e m l b ≡ leaf m e l →
    part_of Constraints e m l b ≡ given_part [] →
    node_count e ≡ 1 → depth e ≡ 1 → Branched e m l b (record { given = []; term = dep (identity d) e })
unfolding push
leaf-branched e m l b d is wide p q n k = record {
  tree_is = p ∙ leaf-tree m e l n k ∙ ap (λ f. tree_part (dep f e) l) (sym (map-again m d is wide));
  given_is = q;
}

module _ (m : Map) (l b : ℕ) where
  un-branched : (o : Unary) (a : Expr) (x : Branch) → Branched a m (l + 1) b x → Branched (un o a) m l b (under1 (un o) x)
  unfolding part_of push bytes node_count depth
  un-branched o a x h =
      let t = push x.term m in
      let head = nat 3 ++ nat (unary_code o) in
      record {
        tree_is = ap (beside (operator head)) h.tree_is ∙ unary-tree head t (un o t) l refl refl refl;
        given_is = ap (beside (given_part [])) h.given_is ∙ none-given (given_part (map (constraint_after m) x.given));
      }

  bin-branched : (o : Binary) (p q : Expr) (x y : Branch) → Branched p m (l + 1) (b / count_of q) x → Branched q m (l + 1) (b % count_of q) y →
      Branched (bin o p q) m l b (joined (bin o) x y)
  unfolding part_of push bytes node_count depth
  bin-branched o p q x y h g =
      let t = push x.term m in
      let u = push y.term m in
      let cs = map (constraint_after m) x.given in
      let ds = map (constraint_after m) y.given in
      let head = nat 4 ++ nat (binary_code o) in
      record {
        tree_is = ap₂ (λ v w. beside (operator head) (beside v w)) h.tree_is g.tree_is ∙ binary-tree head t u (bin o t u) l refl refl refl;
        given_is = ap₂ (λ v w. beside (given_part []) (beside v w)) h.given_is g.given_is ∙ none-given (beside (given_part cs) (given_part ds))
            ∙ given-beside cs ds ∙ ap given_part (sym (map-append (constraint_after m) x.given y.given));
      }

  ite-branched : (p q r : Expr) (x y z : Branch) → let n = count_of q * count_of r in
      Branched p m (l + 1) (b / n) x → Branched q m (l + 1) (b % n / count_of r) y → Branched r m (l + 1) (b % n % count_of r) z →
      Branched (ite p q r) m l b (joined3 ite x y z)
  unfolding part_of push bytes node_count depth
  ite-branched p q r x y z h g k =
      let t = push x.term m in
      let u = push y.term m in
      let v = push z.term m in
      let cs = map (constraint_after m) x.given in
      let ds = map (constraint_after m) y.given in
      let es = map (constraint_after m) z.given in
      record {
        tree_is =
            ap₂ (λ a c. beside (operator (nat 5)) (beside a c)) h.tree_is (ap₂ beside g.tree_is k.tree_is)
            ∙ if-tree (nat 5) t u v (ite t u v) l refl refl refl;
        given_is = ap₂ (λ a c. beside (given_part []) (beside a c)) h.given_is (ap₂ beside g.given_is k.given_is)
            ∙ none-given (beside (given_part cs) (beside (given_part ds) (given_part es)))
            ∙ ap (beside (given_part cs)) (given-beside ds es ∙ ap given_part (sym (map-append (constraint_after m) y.given z.given)))
            ∙ given-beside cs (map (constraint_after m) (y.given ++ z.given))
            ∙ ap given_part (sym (map-append (constraint_after m) x.given (y.given ++ z.given)));
      }

  restr-branched : (d : ℕ) (cs : List Constraint) (a : Expr) (x : Branch) → Branched a m l b x → Branched (restr d cs a) m l b (restrict cs x)
  unfolding part_of
  restr-branched d cs a x h =
      let own_is : of_given cs m ≡ given_part (map (constraint_after m) cs) = part_same refl (sym (length-map cs (constraint_after m))) refl in
      record {
        tree_is = ap (beside nothing) h.tree_is ∙ nothing-beside (tree_part (push x.term m) l);
        given_is = ap₂ beside own_is h.given_is ∙ given-beside (map (constraint_after m) cs) (map (constraint_after m) x.given)
            ∙ ap given_part (sym (map-append (constraint_after m) cs x.given));
      }

  dep-branched : (g : Map) (a : Expr) (x : Branch) → RowsWide m.cols m.rows → RowsWide g.cols g.rows → Branched a (map_after m g) l b x →
      Branched (dep g a) m l b (push_branch g x)
  unfolding part_of
  dep-branched g a x r w h = record {
    tree_is = h.tree_is ∙ ap (λ t. tree_part t l) (push-twice m r g w x.term);
    given_is = h.given_is ∙ ap given_part (given-twice m r g w x.given);
  }

  first-chosen : (e : Expr) (es : Exprs) (x : Branch) → b < count_of e → Branched e m l b x → Chosen (more e es) m l b x
  unfolding part_of
  first-chosen e es x lt h =
      let pick = lt-ltb b (count_of e) lt in
      record {
        tree_is = ap (λ t. ifb t (λ _. part_of Tree e m l b) (λ _. chosen_of Tree es m l (b - count_of e))) pick ∙ h.tree_is;
        given_is = ap (λ t. ifb t (λ _. part_of Constraints e m l b) (λ _. chosen_of Constraints es m l (b - count_of e))) pick ∙ h.given_is;
      }

  rest-chosen : (e : Expr) (es : Exprs) (x : Branch) → count_of e ≤ b → Chosen es m l (b - count_of e) x → Chosen (more e es) m l b x
  unfolding part_of
  rest-chosen e es x le h =
      let pick = le-ltb b (count_of e) le in
      record {
        tree_is = ap (λ t. ifb t (λ _. part_of Tree e m l b) (λ _. chosen_of Tree es m l (b - count_of e))) pick ∙ h.tree_is;
        given_is = ap (λ t. ifb t (λ _. part_of Constraints e m l b) (λ _. chosen_of Constraints es m l (b - count_of e))) pick ∙ h.given_is;
      }

-- the branches of two operands
operand_low : (x n b : ℕ) → b < x * n → (b / n < x) × (b % n < n)
operand_low x n b h = let some = positive x n h in ((div-lt_iff_lt-mul some).1 h, mod-lt b some)

module _ (hs : List Head) where
  abbrev dims : ℕ → ℕ
  dims v = dimension hs v

  -- what is known at the children: the map is as wide as its rows, and they have its dimension
  mutual
    unfolding part_of norm fits Wide count_of push bytes node_count depth

    pub branched : (e : Expr) (m : Map) (l b : ℕ) → Wide e → RowsWide m.cols m.rows → fits e hs (length m.rows) ≡ true → b < count_of e →
        Branched e m l b (branch_at (norm e dims) b)
    branched (var v) m l zero w r f h = leaf-branched (var v) m l 0 (dims v) (eqb-true (dims v) (length m.rows) f) r refl refl refl refl
    branched (var v) m l (suc b) w r f h = absurd (omega arith)
    branched (int c) m l zero w r f h = leaf-branched (int c) m l 0 0 (eqb-true 0 (length m.rows) f) r refl refl refl refl
    branched (int c) m l (suc b) w r f h = absurd (omega arith)
    branched (boo c) m l zero w r f h = leaf-branched (boo c) m l 0 0 (eqb-true 0 (length m.rows) f) r refl refl refl refl
    branched (boo c) m l (suc b) w r f h = absurd (omega arith)
    branched (un o a) m l b w r f h =
        subst (Branched (un o a) m l b) (sym (map_at (under1 (un o)) (norm a dims) b (omega (arith, count-is dims a))))
        (un-branched m l b o a (branch_at (norm a dims) b) (branched a m (l + 1) b w r f h))
    branched (bin o x y) m l b w r f h =
        let n = length m.rows in
        let low = operand_low (count_of x) (count_of y) b h in
        subst (Branched (bin o x y) m l b) (sym (bin_at dims o x y b h))
        (bin-branched m l b o x y (branch_at (norm x dims) (b / count_of y)) (branch_at (norm y dims) (b % count_of y))
        (branched x m (l + 1) (b / count_of y) w.0 r (&&-left (fits x hs n) (fits y hs n) f) low.0)
        (branched y m (l + 1) (b % count_of y) w.1 r (&&-right (fits x hs n) (fits y hs n) f) low.1))
    branched (ite x y z) m l b w r f h =
        let n = length m.rows in
        let k = count_of y * count_of z in
        let low = operand_low (count_of x) k b h in
        let low2 = operand_low (count_of y) (count_of z) (b % k) low.1 in
        let g = &&-left (fits x hs n && fits y hs n) (fits z hs n) f in
        subst (Branched (ite x y z) m l b) (sym (ite-at dims x y z b h))
        (ite-branched m l b x y z (branch_at (norm x dims) (b / k)) (branch_at (norm y dims) (b % k / count_of z))
        (branch_at (norm z dims) (b % k % count_of z))
        (branched x m (l + 1) (b / k) w.0 r (&&-left (fits x hs n) (fits y hs n) g) low.0)
        (branched y m (l + 1) (b % k / count_of z) w.1 r (&&-right (fits x hs n) (fits y hs n) g) low2.0)
        (branched z m (l + 1) (b % k % count_of z) w.2 r (&&-right (fits x hs n && fits y hs n) (fits z hs n) f) low2.1))
    branched (kase es) m l b w r f h = let c = chosen es m l b w r f h in record { tree_is = c.tree_is; given_is = c.given_is }
    branched (restr d cs a) m l b w r f h =
        subst (Branched (restr d cs a) m l b) (sym (map_at (restrict cs) (norm a dims) b (omega (arith, count-is dims a))))
        (restr-branched m l b d cs a (branch_at (norm a dims) b)
        (branched a m l b w.1 r (&&-right (eqb d (length m.rows)) (fits a hs (length m.rows)) f) h))
    branched (dep g a) m l b w r f h =
        let below = &&-right (eqb g.cols (length m.rows)) (fits a hs (length g.rows)) f in
        subst (Branched (dep g a) m l b) (sym (map_at (push_branch g) (norm a dims) b (omega (arith, count-is dims a))))
        (dep-branched m l b g a (branch_at (norm a dims) b) r w.0
        (branched a (map_after m g) l b w.1 (rows-after-wide m g.rows r) (rw (length-map g.rows (row_after m)) below) h))

    chosen : (es : Exprs) (m : Map) (l b : ℕ) → AllWide es → RowsWide m.cols m.rows → all_fit es hs (length m.rows) ≡ true → b < sum_of es →
        Chosen es m l b (branch_at (norms es dims) b)
    chosen none m l b w r f h = absurd (omega arith)
    chosen (more e es) m l b w r f h =
        let n = length m.rows in
        ⊎_elim
        (λ lt. subst (Chosen (more e es) m l b) (sym (first-at dims e es b lt))
        (first-chosen m l b e es (branch_at (norm e dims) b) lt (branched e m l b w.0 r (&&-left (fits e hs n) (all_fit es hs n) f) lt)))
        (λ le. subst (Chosen (more e es) m l b) (sym (rest_at dims e es b le))
        (rest-chosen m l b e es (branch_at (norms es dims) (b - count_of e)) le
        (chosen es m l (b - count_of e) w.1 r (&&-right (fits e hs n) (all_fit es hs n) f) (omega arith))))
        (lt-or-le b (count_of e))
