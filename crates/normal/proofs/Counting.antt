-- Counting branches: a tree's count by its children's, counts that stop at 65, and the ways through what counts, chooses and splits.
-- Assumes nothing.
use mathlib.Core.Path.{◌≡◌, refl, sym, ap, ◌∙◌, subst}
use Prim.Native.Nat.{ℕ, zero, suc, ◌+◌, ◌*◌, ◌-◌, ◌/◌, ◌%◌, ◌≤◌, ◌<◌, min}
use native.Mathlib.Nat.{mul-one, one-mul, mul-zero, mul_assoc, mul_comm, mul-suc, div-one, mod-one, le-mul_of_pos_right, mul-div_cancel_left}
use native.Mathlib.Omega.{arith}
use mathlib.Core.List.{List}
use mathlib.Core.Logic.{⊎_elim}
use borrow.Author.Tests.{lt-ltb, le-ltb}
use Rattle.alpha.specs.Pick.{ifb}
use Rattle.alpha.specs.Sheet.{Expr, Expr.kase, Exprs, Exprs.none, Exprs.more}
use Rattle.alpha.specs.Written.{branch_count, node_count, node_counts}
use Rattle.laws.specs.At.{node_of, node_read, node_end, At, AllAt}
use Rattle.laws.specs.Children.{children_of, arity}
use Rattle.laws.specs.Sheets.{vars_of}
use Rattle.laws.proofs.Shapes.{all_at-none, MoreAt}
use Rattle.affine.proofs.Several.{lt-or-le}
use Rattle.tree.specs.declared.Class.TheVariants.{Leaf, Operator, Case, Restriction, Dependence}
use Rattle.tree.specs.Classes.{class_of, class_at}
use Rattle.tree.specs.Standing.{Standing, StandingAll}
use Rattle.tree.proofs.Classes.{leaf-tree, operator-tree, leaf-at, operator-at, case_at, restriction-at, dependence-at}
use Rattle.tree.proofs.Standings.{standing-children, first-standing, children-at, children-counted, one_more}
use Rattle.normal.specs.declared.Chosen.{Chosen}
use Rattle.normal.specs.declared.Group.{Group}
use Rattle.normal.specs.declared.Group.TheVariants.{Children, Operands}
use Rattle.normal.specs.Count.{count_of, sum_of, product_of, joined, counts_of, capped, Picked, pick}
use Rattle.tree.specs.Ends.{EndsAt}
use Rattle.normal.specs.Counted.{Counts, CountsAll, ChildrenAt, PicksOf, Picks, OperandAt, SplitsOf, Splits}
use Rattle.normal.proofs.Numbered.{positive}

-- ---- by the class

leaf-count : (e : Expr) → class_of (node_of e) ≡ Leaf → count_of e ≡ 1
unfolding count_of
leaf-count = leaf-tree (λ e. count_of e ≡ 1) (λ v. refl) (λ c. refl) (λ b. refl)

pub operator-count : (e : Expr) → class_of (node_of e) ≡ Operator → count_of e ≡ product_of (children_of e)
unfolding count_of product_of
operator-count =
    operator-tree (λ e. count_of e ≡ product_of (children_of e)) (λ o a. sym (mul-one (count_of a)))
    (λ o a b. ap (λ n. count_of a * n) (sym (mul-one (count_of b)))) (λ a b c. ap (λ n. count_of a * (count_of b * n)) (sym (mul-one (count_of c))))

pub case_count : (e : Expr) (es : Exprs) → e ≡ kase es → count_of e ≡ sum_of es
unfolding count_of
case_count e es is = ap count_of is

-- ---- up to 65

cap-left : (a b : ℕ) → capped (capped a * b) ≡ capped (a * b)
cap-left a zero = rw (mul-zero (min 65 a), mul-zero a) refl
cap-left a (suc b) = ⊎_elim small large (lt-or-le a 65)
  where
    small : a < 65 → capped (capped a * suc b) ≡ capped (a * suc b)
    small h = let e : min 65 a ≡ a = omega arith in rw e refl

    large : 65 ≤ a → capped (capped a * suc b) ≡ capped (a * suc b)
    large h = let e : min 65 a ≡ 65 = omega arith in rw (e, mul-suc a b, mul-suc 65 b) (omega arith)

cap-right : (a b : ℕ) → capped (a * capped b) ≡ capped (a * b)
cap-right a b = ap capped (mul_comm a (capped b)) ∙ cap-left b a ∙ ap capped (mul_comm b a)

cap-joined : (t : Group) (s x y : ℕ) → capped (joined t (capped (joined t s (capped x))) y) ≡ capped (joined t s (joined t x y))
cap-joined Children s x y = omega arith
cap-joined Operands s x y = ap (λ n. capped (n * y)) (cap-right s x) ∙ cap-left (s * x) y ∙ ap capped (mul_assoc s x y)

-- ---- the ways through the count

joined-none : (t : Group) (x : ℕ) → joined t x (counts_of t none) ≡ x
unfolding count_of product_of
joined-none Children x = omega arith
joined-none Operands x = mul-one x

product-none : product_of none ≡ 1
unfolding product_of
product-none = refl

counts-more : (t : Group) (e : Expr) (es : Exprs) → counts_of t (more e es) ≡ joined t (count_of e) (counts_of t es)
unfolding count_of product_of
counts-more Children e es = refl
counts-more Operands e es = refl

module _ (bs : List ℕ) (p : ℕ) where
  pub leaf-way : class_at bs p ≡ Leaf → Counts bs p 1
  leaf-way class_is = (omega arith, λ e q at. omega (arith, leaf-count e (leaf-at bs e p q at class_is).class_is))

  -- the next place is k
  module _ (k : ℕ) (next : k ≡ node_end (vars_of bs) bs p) where
    pub leaf-ends : class_at bs p ≡ Leaf → EndsAt (vars_of bs) bs p k
    leaf-ends class_is e q at = next ∙ (leaf-at bs e p q at class_is).end

    -- so many children stand there
    module _ (n r : ℕ) (many : n ≡ arity (node_read (vars_of bs) bs p)) where
      pub operator-way : class_at bs p ≡ Operator → CountsAll bs k n Operands 1 r → Counts bs p r
      operator-way class_is h = (
        h.0,
        λ e q at.
            let all = h.1 (children_of e) q (children-at (vars_of bs) bs p k n next many e q at) (children-counted (vars_of bs) bs p k n next many e q at) in
            all ∙ ap capped (one-mul (product_of (children_of e)) ∙ sym (operator-count e (operator-at bs e p q at class_is).class_is)),
      )

      pub case-way : class_at bs p ≡ Case → CountsAll bs k n Children 0 r → Counts bs p r
      case-way class_is h = (
        h.0,
        λ e q at.
            let x = case_at bs e p q at class_is in
            let count : branch_count x.branches ≡ n =
            ap (λ f. branch_count (children_of f)) (sym x.is) ∙ children-counted (vars_of bs) bs p k n next many e q at in
            omega (arith, h.1 x.branches q (rw next x.below) count, case_count e x.branches x.is),
      )

    -- or one child, with as many branches
    pub record Below (e : Expr) (q : ℕ) : Type 0 where
      pub child : Expr
      pub at : At child (vars_of bs) bs k q
      pub count : count_of e ≡ count_of child

    abbrev pub OneBelow : Type 0
    OneBelow = (e : Expr) (q : ℕ) → At e (vars_of bs) bs p q → Below e q

    pub restriction-below : class_at bs p ≡ Restriction → OneBelow
    unfolding count_of
    restriction-below class_is e q at =
        let x = restriction-at bs e p q at class_is in
        record { child = x.child; at = rw next x.below; count = ap count_of x.is }

    pub dependence-below : class_at bs p ≡ Dependence → OneBelow
    unfolding count_of
    dependence-below class_is e q at =
        let x = dependence-at bs e p q at class_is in
        record { child = x.child; at = rw next x.below; count = ap count_of x.is }

    pub below-standing : (left : ℕ) → Standing (vars_of bs) bs p left → 1 ≡ arity (node_read (vars_of bs) bs p) → Standing (vars_of bs) bs k (left - 1)
    below-standing left h one = first-standing (vars_of bs) bs k (left - 1) 1 (omega arith) (standing-children (vars_of bs) bs p left h k 1 next one)

    module _ (below : OneBelow) where
      pub below-way : (r : ℕ) → Counts bs k r → Counts bs p r
      below-way r h = (
        h.0,
        λ e q at.
            let x = below e q at in
            h.1 x.child q x.at ∙ ap capped (sym x.count),
      )

      pub below-ends : (r : ℕ) → EndsAt (vars_of bs) bs k r → EndsAt (vars_of bs) bs p r
      below-ends r h e q at =
          let x = below e q at in
          h x.child q x.at

  pub none-way : (many : ℕ) (t : Group) (sofar : ℕ) → many < 1 → sofar ≤ 65 → CountsAll bs p many t sofar sofar
  none-way many t sofar l low = (
    low,
    λ es q h m.
        let x = all_at-none (vars_of bs) bs es p q h (omega arith) in
        let cap : sofar ≡ capped sofar = omega arith in
        cap ∙ ap capped (sym (joined-none t sofar) ∙ ap (λ l. joined t sofar (counts_of t l)) (sym x.is)),
  )

  pub more-way : (many : ℕ) (t : Group) (sofar first next both r : ℕ) → 1 ≤ many → Counts bs p first →
      EndsAt (vars_of bs) bs p next → both ≡ capped (joined t sofar first) → CountsAll bs next (many - 1) t both r →
      CountsAll bs p many t sofar r
  more-way many t sofar first next both r some one ends sum rest = (
    rest.0,
    λ es q h m.
        let x = one_more (vars_of bs) bs es p q many some h m in
        let here = ends x.first x.middle x.before in
        rest.1 x.rest q (subst (λ i. AllAt x.rest (vars_of bs) bs i q) (sym here) x.after) x.many
        ∙ ap (λ n. capped (joined t n (counts_of t x.rest))) (sum ∙ ap (λ n. capped (joined t sofar n)) (one.1 x.first x.middle x.before))
        ∙ cap-joined t sofar (count_of x.first) (counts_of t x.rest)
        ∙ ap (λ n. capped (joined t sofar n)) (sym (counts-more t x.first x.rest))
        ∙ ap (λ l. capped (joined t sofar (counts_of t l))) (sym x.is),
  )

-- ---- the ways through the choice

module _ (e : Expr) (es : Exprs) (b : ℕ) where
  pick_first : b < count_of e → pick (more e es) b ≡ record { child = e; branch = b }
  unfolding pick
  pick_first l = ap {B = Picked} (λ t. ifb t (λ _. record { child = e; branch = b }) (λ _. pick es (b - count_of e))) (lt-ltb b (count_of e) l)

  pick-later : count_of e ≤ b → pick (more e es) b ≡ pick es (b - count_of e)
  unfolding pick
  pick-later l = ap {B = Picked} (λ t. ifb t (λ _. record { child = e; branch = b }) (λ _. pick es (b - count_of e))) (le-ltb b (count_of e) l)

pub sum-none : (es : Exprs) → es ≡ none → sum_of es ≡ 0
unfolding count_of
sum-none es e = ap sum_of e

pub sum_more : (es : Exprs) (f : Expr) (fs : Exprs) → es ≡ more f fs → sum_of es ≡ count_of f + sum_of fs
unfolding count_of
sum_more es f fs e = ap sum_of e

module _ (bs : List ℕ) (p left many b of : ℕ) (h : ChildrenAt bs p left many b of) where
  pub children-some : 1 ≤ many
  children-some = go h.trees h.sum h.count
    where
      go : (es : Exprs) → sum_of es ≡ of → branch_count es ≡ many → 1 ≤ many
      go none s e = absurd (omega (arith, h.some, sum-none none refl))
      go (more f fs) s e = omega arith

  pub children-standing : StandingAll (vars_of bs) bs p left many
  children-standing = record { trees = h.trees; end = h.end; at = h.at; few = h.few; most = h.left_low; many = h.count }

  -- a branch of the first child
  picks_first : (es : Exprs) (q k : ℕ) (x : MoreAt es (vars_of bs) bs p q (many - 1)) → count_of x.first ≡ k → b < k →
      PicksOf bs es b (record { at = p; choice = record { number = b; of = k } })
  picks_first es q k x count low =
      let is = ap (λ t. pick t b) x.is ∙ pick_first x.first x.rest b (omega arith) in
      record {
        end = x.middle;
        at = subst (λ t. At t.child (vars_of bs) bs p x.middle) (sym is) x.before;
        branch = ap (λ t. t.branch) (sym is);
        count = ap (λ t. count_of t.child) is ∙ count;
      }

  -- the last child has all the branches that are left
  pub last-way : many < 2 → Picks bs p many b of (record { at = p; choice = record { number = b; of = of } })
  last-way few es q at m sum =
      let x = one_more (vars_of bs) bs es p q many children-some at m in
      let last = all_at-none (vars_of bs) bs x.rest x.middle q x.after (omega (arith, x.many)) in
      let count : count_of x.first ≡ of = omega (arith, sum_more es x.first x.rest x.is, sum-none x.rest last.is) in
      picks_first es q of x count h.some

  module _ (n : ℕ) (counted : Counts bs p n) where
    split : MoreAt h.trees (vars_of bs) bs p h.end (many - 1)
    split = one_more (vars_of bs) bs h.trees p h.end many children-some h.at h.count

    nodes : node_counts h.trees ≡ node_count split.first + node_counts split.rest
    unfolding node_counts
    nodes = ap node_counts split.is

    -- the count did not stop at 65
    exact : (e : Expr) (q : ℕ) → At e (vars_of bs) bs p q → n ≡ count_of e
    exact e q at =
        let sum = sum_more h.trees split.first split.rest split.is in
        omega (arith, counted.1 e q at, counted.1 split.first split.middle split.before, sum, h.sum, h.low)

    -- the first child's branches come first
    pub first_way : b < n → Picks bs p many b of (record { at = p; choice = record { number = b; of = n } })
    first_way l es q at m sum =
        let x = one_more (vars_of bs) bs es p q many children-some at m in
        picks_first es q n x (sym (exact x.first x.middle x.before)) l

    module _ (past : n ≤ b) where
      -- the others, from where the first ends
      pub children-rest : (next : ℕ) → EndsAt (vars_of bs) bs p next → ChildrenAt bs next left (many - 1) (b - n) (of - n)
      children-rest next ends =
          let sum = sum_more h.trees split.first split.rest split.is in
          record {
            trees = split.rest;
            end = h.end;
            at = rw (ends split.first split.middle split.before) split.after;
            few = omega (arith, nodes, h.few);
            left_low = h.left_low;
            count = split.many;
            sum = omega (arith, sum, h.sum, exact split.first split.middle split.before);
            low = omega (arith, h.low);
            some = omega (arith, h.some);
          }

      pub later-way : (next : ℕ) (r : Chosen) → EndsAt (vars_of bs) bs p next → Picks bs next (many - 1) (b - n) (of - n) r → Picks bs p many b of r
      later-way next r ends rest es q at m sum =
          let x = one_more (vars_of bs) bs es p q many children-some at m in
          let same = exact x.first x.middle x.before in
          let others : sum_of x.rest ≡ of - n = omega (arith, sum_more es x.first x.rest x.is) in
          let after = subst (λ i. AllAt x.rest (vars_of bs) bs i q) (sym (ends x.first x.middle x.before)) x.after in
          let found = rest x.rest q after x.many others in
          let is = ap (λ t. pick t b) x.is ∙ pick-later x.first x.rest b (omega arith) ∙ ap (λ i. pick x.rest (b - i)) (sym same) in
          record {
            end = found.end;
            at = subst (λ t. At t.child (vars_of bs) bs r.at found.end) (sym is) found.at;
            branch = found.branch ∙ ap (λ t. t.branch) (sym is);
            count = ap (λ t. count_of t.child) is ∙ found.count;
          }

-- ---- the ways through the split

-- two numbers with a product are no larger than it
pub record Factors (x y z : ℕ) : Type 0 where
  pub left-some : 0 < x
  pub right-some : 0 < y
  pub left_low : x ≤ z
  pub right-low : y ≤ z

pub factors : (x y z : ℕ) → x * y ≡ z → 0 < z → Factors x y z
factors x y z e some =
    let right = positive {b = 0} x y (subst (λ i. 0 < i) (sym e) some) in
    let left = positive {b = 0} y x (subst (λ i. 0 < i) (sym e ∙ mul_comm x y) some) in
    record {
      left-some = left;
      right-some = right;
      left_low = subst (λ i. x ≤ i) e (le-mul_of_pos_right x right);
      right-low = subst (λ i. y ≤ i) (mul_comm y x ∙ e) (le-mul_of_pos_right y left);
    }

-- an operand alone: its branch of the combination's number
pub only-split : (e : Expr) (others : Exprs) (q b of : ℕ) → others ≡ none → count_of e * product_of others ≡ of →
    SplitsOf e others q b (record { first = record { number = b; of = of }; next = q; rest = record { number = 0; of = 1 } })
only-split e others q b of none-are product =
    let one = ap product_of none-are ∙ product-none in
    record {
      ends = refl;
      first_count = sym (mul-one (count_of e)) ∙ ap (λ n. count_of e * n) (sym one) ∙ product;
      rest_count = one;
      first_branch = sym (ap (λ n. b / n) one ∙ div-one b);
      rest_branch = sym (ap (λ n. b % n) one ∙ mod-one b);
    }

module _ (bs : List ℕ) (p left b of : ℕ) (h : OperandAt bs p left b of) where
  pub operand-standing : Standing (vars_of bs) bs p left
  operand-standing = record { tree = h.tree; end = h.end; at = h.at; few = h.few; most = h.left_low }

  some : 0 < of
  some = omega (arith, h.some)

  -- where there is one combination, each operand has one branch
  pub one_split : of < 2 → (next : ℕ) → EndsAt (vars_of bs) bs p next →
      Splits bs p b of (record { first = record { number = b; of = of }; next = next; rest = record { number = b; of = of } })
  one_split few next ends e others q at product =
      let f = factors (count_of e) (product_of others) of product some in
      let one : product_of others ≡ 1 = omega (arith, f.right-some, f.right-low) in
      let first : b ≡ 0 = omega (arith, h.some) in
      record {
        ends = ends e q at;
        first_count = omega (arith, f.left-some, f.left_low);
        rest_count = omega (arith, f.right-some, f.right-low);
        first_branch = sym (ap (λ n. b / n) one ∙ div-one b);
        rest_branch = first ∙ sym (ap (λ n. b % n) one ∙ mod-one b);
      }

  module _ (n : ℕ) (counted : Counts bs p n) where
    -- the count did not stop at 65
    operand-exact : (e : Expr) (q : ℕ) → At e (vars_of bs) bs p q → n ≡ count_of e
    operand-exact e q at =
        let f = factors (count_of h.tree) (product_of h.others) of h.product some in
        omega (arith, counted.1 e q at, counted.1 h.tree h.end h.at, f.left_low, h.low)

    rest-is : (e : Expr) (others : Exprs) (q : ℕ) → At e (vars_of bs) bs p q → count_of e * product_of others ≡ of → of / n ≡ product_of others
    rest-is e others q at product =
        let f = factors (count_of e) (product_of others) of product some in
        ap (λ i. i / n) (sym product) ∙ ap (λ i. count_of e * product_of others / i) (operand-exact e q at)
        ∙ mul-div_cancel_left (product_of others) f.left-some

    pub first_some : 0 < n
    first_some =
        let f = factors (count_of h.tree) (product_of h.others) of h.product some in
        omega (arith, f.left-some, operand-exact h.tree h.end h.at)

    pub rest_some : 0 < of / n
    rest_some =
        let f = factors (count_of h.tree) (product_of h.others) of h.product some in
        omega (arith, f.right-some, rest-is h.tree h.others h.end h.at h.product)

    pub counted-split : (next : ℕ) → EndsAt (vars_of bs) bs p next →
        Splits bs p b of (record { first = record { number = b / (of / n); of = n }; next = next; rest = record { number = b % (of / n); of = of / n } })
    counted-split next ends e others q at product =
        let rest = rest-is e others q at product in
        record {
          ends = ends e q at;
          first_count = sym (operand-exact e q at);
          rest_count = sym rest;
          first_branch = ap (λ i. b / i) rest;
          rest_branch = ap (λ i. b % i) rest;
        }
