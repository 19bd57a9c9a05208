-- Where an expression holds and no case of it clashes, one branch of its normal form holds, and so no case of the normal form clashes.
-- Assumes only that the expression fits the dimension of the point.
use mathlib.Core.Path.{◌≡◌, refl, sym, ◌∙◌}
use Prim.Native.Nat.{ℕ, ◌+◌, ◌*◌, ◌≤◌}
use native.Mathlib.Nat.{zero-mul, mul-zero, one-mul, mul_assoc, mul-add, add-mul, zero-add, add_assoc}
use native.Mathlib.Omega.{arith}
use mathlib.Core.Bool.{Bool, true, false, ◌&&◌, ◌||◌, and_assoc}
use mathlib.Core.List.{List, [], ◌∷◌, ◌++◌, map}
use lib.ListN.{length}
use lib.Dec.{eqb, eqb-zero-suc}
use borrow.Author.Tests.{eqb-true}
use Rattle.alpha.specs.Sheet.{Constraint, Map, Point, Sheet, Head, Expr, Exprs}
use Rattle.alpha.specs.Sheet.{Expr.var, Expr.int, Expr.boo, Expr.un, Expr.bin, Expr.ite, Expr.kase, Expr.restr, Expr.dep, Exprs.none, Exprs.more}
use Rattle.alpha.specs.Affine.{meets_all, image, id_rows}
use Rattle.alpha.specs.Read.{dimension}
use Rattle.alpha.specs.Shape.{fits, all_fit}
use Rattle.alpha.specs.Holds.{variable, in_domain, holds, some_holds, two_hold, clashes, in_branches}
use Rattle.alpha.specs.Normal.{Branch, push_branch, restrict, under1, pairs, triples, norm, norms, as_exprs, body_case}
use Rattle.laws.specs.Normal.{is_leaf, tree_form}
use Rattle.laws.proofs.Tests.{true-not-false, &&-left, &&-right}
use Rattle.laws.proofs.Composed.{image-identity, length-image, meets_all-after}
use Rattle.laws.proofs.Branches.{AllBranches, norm-all}
use Rattle.laws.proofs.NormalForm.{branch_holds, restrict-holds, push-holds}
use Rattle.laws.proofs.NormalChecks.{HasForm, form-rules}

-- ---- how many branches hold at a point

abbrev one : Bool → ℕ
one true = 1
one false = 0

one-and : (a b : Bool) → one (a && b) ≡ one a * one b
one-and true b = sym (one-mul (one b))
one-and false b = sym (zero-mul (one b))

abbrev pub holding : List Branch → Sheet → Point → ℕ
holding [] s z = 0
holding (b ∷ bs) s z = one (branch_holds b s z) + holding bs s z

module _ (s : Sheet) where
  holding-append : (xs ys : List Branch) (z : Point) → holding (xs ++ ys) s z ≡ holding xs s z + holding ys s z
  holding-append [] ys z = sym (zero-add (holding ys s z))
  holding-append (x ∷ xs) ys z = rw (holding-append xs ys z) (sym (add_assoc (one (branch_holds x s z)) (holding xs s z) (holding ys s z)))

  -- a change of every branch that keeps its test up to a fixed condition q
  module _ (F : Branch → Branch) (q : Bool) (z z' : Point) (test : (b : Branch) → branch_holds (F b) s z ≡ q && branch_holds b s z') where
    holding-map : (bs : List Branch) → holding (map F bs) s z ≡ one q * holding bs s z'
    holding-map [] = sym (mul-zero (one q))
    holding-map (b ∷ bs) = rw (test b, one-and q (branch_holds b s z'), holding-map bs) (sym (mul-add (one q) (one (branch_holds b s z')) (holding bs s z')))

  holding-restrict : (cs : List Constraint) (bs : List Branch) (z : Point) → holding (map (restrict cs) bs) s z ≡ one (meets_all cs z) * holding bs s z
  holding-restrict cs bs z = holding-map (restrict cs) (meets_all cs z) z z (λ b. restrict-holds s cs b z) bs

  -- an operator k of two operands, which holds where both hold and q does
  module _ (k : Expr → Expr → Expr) (q : Bool) (z : Point) (hk : (x y : Expr) → holds (k x y) s z ≡ q && (holds x s z && holds y s z)) where
    shuffle : (g q a b : Bool) → g && (q && (a && b)) ≡ q && a && (g && b)
    shuffle true true true b = refl
    shuffle true true false b = refl
    shuffle true false a b = refl
    shuffle false true true b = refl
    shuffle false true false b = refl
    shuffle false false a b = refl

    holding-one : (a : Expr) (bs : List Branch) → holding (map (under1 (k a)) bs) s z ≡ one (q && holds a s z) * holding bs s z
    holding-one a bs =
        holding-map (under1 (k a)) (q && holds a s z) z z
        (λ b. rw (hk a b.term) (shuffle (meets_all b.given z) q (holds a s z) (holds b.term s z))) bs

    holding-pairs : (xs bs : List Branch) → holding (pairs k xs bs) s z ≡ one q * (holding xs s z * holding bs s z)
    holding-pairs [] bs = rw (zero-mul (holding bs s z)) (sym (mul-zero (one q)))
    holding-pairs (a ∷ xs) bs =
        let g = meets_all a.given z in
        let h = holds a.term s z in
        let n = holding bs s z in
        holding-append (map (restrict a.given) (map (under1 (k a.term)) bs)) (pairs k xs bs) z
        ∙ rw (holding-restrict a.given (map (under1 (k a.term)) bs) z, holding-one a.term bs, holding-pairs xs bs)
        (go q g h n (holding xs s z))
      where
        go : (q g h : Bool) (n m : ℕ) → one g * (one (q && h) * n) + one q * (m * n) ≡ one q * ((one (g && h) + m) * n)
        go true true true n m = omega (arith, add-mul 1 m n)
        go true true false n m = omega (arith, add-mul 0 m n)
        go true false h n m = omega (arith, add-mul 0 m n)
        go false true h n m = omega arith
        go false false h n m = omega arith

  holding-triples : (xs bs cs : List Branch) (z : Point) → holding (triples ite xs bs cs) s z ≡ holding xs s z * (holding bs s z * holding cs s z)
  unfolding holds
  holding-triples [] bs cs z = sym (zero-mul (holding bs s z * holding cs s z))
  holding-triples (a ∷ xs) bs cs z =
      let h = holds a.term s z in
      holding-append (map (restrict a.given) (pairs (ite a.term) bs cs)) (triples ite xs bs cs) z
      ∙ rw (
        holding-restrict a.given (pairs (ite a.term) bs cs) z,
        holding-pairs (ite a.term) h z (λ x y. and_assoc h (holds x s z) (holds y s z)) bs cs,
        holding-triples xs bs cs z,
      )
      (go (meets_all a.given z) h (holding xs s z) (holding bs s z * holding cs s z))
    where
      go : (g h : Bool) (m n : ℕ) → one g * (one h * n) + m * n ≡ (one (g && h) + m) * n
      go true true m n = omega (arith, add-mul 1 m n)
      go true false m n = omega (arith, add-mul 0 m n)
      go false h m n = omega (arith, add-mul 0 m n)

  holding-push : (f : Map) (bs : List Branch) (z : Point) → holding (map (push_branch f) bs) s z ≡ holding bs s (image f.rows z)
  holding-push f bs z =
      holding-map (push_branch f) true z (image f.rows z) (λ b. rw (meets_all-after f b.given z, push-holds s b.term f z)) bs
      ∙ one-mul (holding bs s (image f.rows z))

-- ---- none where the expression does not hold, and one where it holds and does not clash

record Ways (h c : Bool) (n : ℕ) : Type 0 where
  no_way : h ≡ false → n ≡ 0
  one_way : h ≡ true → c ≡ false → n ≡ 1

ways-leaf : (h c : Bool) → Ways h c (one h + 0)
ways-leaf true c = record { no_way = λ e. true-not-false {b = true} refl e; one_way = λ _ _. refl }
ways-leaf false c = record { no_way = λ _. refl; one_way = λ e _. true-not-false {b = false} e refl }

-- all operands
ways-and : (h k c d : Bool) (m n : ℕ) → Ways h c m → Ways k d n → Ways (h && k) (c || d) (m * n)
ways-and true k false d m n x y = let e = x.one_way refl refl in rw (e, one-mul n) y
ways-and true true true d m n x y = record { no_way = λ e. true-not-false {b = true} refl e; one_way = λ _ e. true-not-false {b = true} refl e }
ways-and true false true d m n x y = record { no_way = λ _. rw (y.no_way refl) (mul-zero m); one_way = λ e _. true-not-false {b = false} e refl }
ways-and false k c d m n x y = record { no_way = λ _. rw (x.no_way refl) (zero-mul n); one_way = λ e _. true-not-false {b = false} e refl }

ways-when : (t h c : Bool) (n : ℕ) → Ways h c n → Ways (t && h) c (one t * n)
ways-when true h c n x = rw (one-mul n) x
ways-when false h c n x = record { no_way = λ _. zero-mul n; one_way = λ e _. true-not-false {b = false} e refl }

-- one more branch of a case: t is whether two of the rest hold, i whether one of those that hold clashes
ways-or : (h k c t i : Bool) (m n : ℕ) → Ways h c m → Ways k (t || i) n → Ways (h || k) (h && k || t || (h && c || i)) (m + n)
ways-or true true c t i m n x y = record { no_way = λ e. true-not-false {b = true} refl e; one_way = λ _ e. true-not-false {b = true} refl e }
ways-or true false c true i m n x y = record { no_way = λ e. true-not-false {b = true} refl e; one_way = λ _ e. true-not-false {b = true} refl e }
ways-or true false true false i m n x y = record { no_way = λ e. true-not-false {b = true} refl e; one_way = λ _ e. true-not-false {b = true} refl e }
ways-or true false false false i m n x y = record {
  no_way = λ e. true-not-false {b = true} refl e;
  one_way = λ _ _. omega (arith, x.one_way refl refl, y.no_way refl);
}
ways-or false k c t i m n x y = let e = x.no_way refl in rw (e, zero-add n) y

module _ (s : Sheet) (hs : List Head) where
  no-point : (z : Point) → eqb 0 (length z) ≡ true → eqb (length z) 0 ≡ true
  no-point [] h = refl
  no-point (x ∷ z) h = true-not-false h (eqb-zero-suc (length z))

  mutual
    unfolding holds clashes two_hold norm fits

    norm-ways : (e : Expr) (z : Point) → fits e hs (length z) ≡ true → Ways (holds e s z) (clashes e s z) (holding (norm e (dimension hs)) s z)
    norm-ways (var v) z h =
        let i : image (id_rows (dimension hs v)) z ≡ z = rw (eqb-true (dimension hs v) (length z) h) (image-identity z) in
        rw i (ways-leaf (in_domain (variable s v) z) false)
    norm-ways (int c) z h = rw (no-point z h) (ways-leaf true false)
    norm-ways (boo b) z h = rw (no-point z h) (ways-leaf true false)
    norm-ways (un o a) z h =
        let n = norm a (dimension hs) in
        rw (holding-map s (under1 (un o)) true z z (λ b. refl) n, one-mul (holding n s z)) (norm-ways a z h)
    norm-ways (bin o a b) z h =
        let m = norm a (dimension hs) in
        let n = norm b (dimension hs) in
        let k = &&-left (fits a hs (length z)) (fits b hs (length z)) h in
        let l = &&-right (fits a hs (length z)) (fits b hs (length z)) h in
        rw (holding-pairs s (bin o) true z (λ x y. refl) m n, one-mul (holding m s z * holding n s z)) (ways-and _ _ _ _ _ _ (norm-ways a z k) (norm-ways b z l))
    norm-ways (ite a b c) z h =
        let x = norm a (dimension hs) in
        let y = norm b (dimension hs) in
        let w = norm c (dimension hs) in
        let k = &&-left (fits a hs (length z) && fits b hs (length z)) (fits c hs (length z)) h in
        let l = &&-right (fits a hs (length z) && fits b hs (length z)) (fits c hs (length z)) h in
        let m = &&-left (fits a hs (length z)) (fits b hs (length z)) k in
        let n = &&-right (fits a hs (length z)) (fits b hs (length z)) k in
        rw (holding-triples s x y w z, ← mul_assoc (holding x s z) (holding y s z) (holding w s z))
        (ways-and _ _ _ _ _ _ (ways-and _ _ _ _ _ _ (norm-ways a z m) (norm-ways b z n)) (norm-ways c z l))
    norm-ways (kase es) z h = norms-ways es z h
    norm-ways (restr d cs a) z h =
        rw (holding-restrict s cs (norm a (dimension hs)) z)
        (ways-when (meets_all cs z) _ _ _ (norm-ways a z (&&-right (eqb d (length z)) (fits a hs (length z)) h)))
    norm-ways (dep f a) z h =
        rw (holding-push s f (norm a (dimension hs)) z)
        (norm-ways a (image f.rows z) (rw (length-image f.rows z) (&&-right (eqb f.cols (length z)) (fits a hs (length f.rows)) h)))

    norms-ways : (es : Exprs) (z : Point) → all_fit es hs (length z) ≡ true →
        Ways (some_holds es s z) (two_hold es s z || in_branches es s z) (holding (norms es (dimension hs)) s z)
    norms-ways none z h = record { no_way = λ _. refl; one_way = λ e _. true-not-false {b = false} e refl }
    norms-ways (more e es) z h =
        let k = &&-left (fits e hs (length z)) (all_fit es hs (length z)) h in
        let l = &&-right (fits e hs (length z)) (all_fit es hs (length z)) h in
        rw (holding-append s (norm e (dimension hs)) (norms es (dimension hs)) z)
        (ways-or (holds e s z) (some_holds es s z) (clashes e s z) (two_hold es s z) (in_branches es s z) _ _ (norm-ways e z k) (norms-ways es z l))

-- ---- no case of the body clashes

-- a tree of operators and ifs over leaves has no case
leaf-clear : (e : Expr) (s : Sheet) (z : Point) → is_leaf e ≡ true → clashes e s z ≡ false
unfolding clashes
leaf-clear (var v) s z h = refl
leaf-clear (int c) s z h = refl
leaf-clear (boo b) s z h = refl
leaf-clear (un o a) s z h = true-not-false {b = false} h refl
leaf-clear (bin o a b) s z h = true-not-false {b = false} h refl
leaf-clear (ite a b c) s z h = true-not-false {b = false} h refl
leaf-clear (kase es) s z h = true-not-false {b = false} h refl
leaf-clear (restr d cs a) s z h = true-not-false {b = false} h refl
leaf-clear (dep f a) s z h = true-not-false {b = false} h refl

tree-clear : (e : Expr) (s : Sheet) (z : Point) → tree_form e ≡ true → clashes e s z ≡ false
unfolding tree_form clashes
tree-clear (var v) s z h = refl
tree-clear (int c) s z h = refl
tree-clear (boo b) s z h = refl
tree-clear (un o a) s z h = tree-clear a s z h
tree-clear (bin o a b) s z h =
    rw (tree-clear a s z (&&-left (tree_form a) (tree_form b) h), tree-clear b s z (&&-right (tree_form a) (tree_form b) h))
tree-clear (ite a b c) s z h =
    let k = &&-left (tree_form a && tree_form b) (tree_form c) h in
    rw (
      tree-clear a s z (&&-left (tree_form a) (tree_form b) k),
      tree-clear b s z (&&-right (tree_form a) (tree_form b) k),
      tree-clear c s z (&&-right (tree_form a && tree_form b) (tree_form c) h),
    )
tree-clear (kase es) s z h = true-not-false {b = false} h refl
tree-clear (restr d cs a) s z h = true-not-false {b = false} h refl
tree-clear (dep f a) s z h = leaf-clear a s (image f.rows z) h

module _ (s : Sheet) (n : ℕ) (z : Point) where
  none-hold : (bs : List Branch) → holding bs s z ≡ 0 → some_holds (as_exprs n bs) s z ≡ false
  unfolding holds
  none-hold [] h = refl
  none-hold (b ∷ bs) h = go (branch_holds b s z) h (none-hold bs)
    where
      go : (t : Bool) → one t + holding bs s z ≡ 0 → (holding bs s z ≡ 0 → some_holds (as_exprs n bs) s z ≡ false) → t || some_holds (as_exprs n bs) s z ≡ false
      go true e k = absurd (omega arith)
      go false e k = k (omega arith)

  not-two : (bs : List Branch) → holding bs s z ≤ 1 → two_hold (as_exprs n bs) s z ≡ false
  unfolding holds two_hold
  not-two [] h = refl
  not-two (b ∷ bs) h = go (branch_holds b s z) h (none-hold bs) (not-two bs)
    where
      go : (t : Bool) → one t + holding bs s z ≤ 1 → (holding bs s z ≡ 0 → some_holds (as_exprs n bs) s z ≡ false) →
          (holding bs s z ≤ 1 → two_hold (as_exprs n bs) s z ≡ false) → t && some_holds (as_exprs n bs) s z || two_hold (as_exprs n bs) s z ≡ false
      go true e k l = rw (k (omega arith)) (l (omega arith))
      go false e k l = l (omega arith)

  no_inner : (bs : List Branch) → AllBranches HasForm bs → in_branches (as_exprs n bs) s z ≡ false
  unfolding clashes
  no_inner [] h = refl
  no_inner (b ∷ bs) h = rw (tree-clear b.term s z h.0, no_inner bs h.1) (and-false' (holds (restr n b.given b.term) s z))
    where
      and-false' : (t : Bool) → t && false || false ≡ false
      and-false' true = refl
      and-false' false = refl

pub normal-clear : (s : Sheet) (hs : List Head) (n : ℕ) (e : Expr) (z : Point) → fits e hs (length z) ≡ true → holds e s z ≡ true → clashes e s z ≡ false →
    clashes (body_case n (norm e (dimension hs))) s z ≡ false
unfolding clashes
normal-clear s hs n e z f h c =
    let bs = norm e (dimension hs) in
    let w = (norm-ways s hs e z f).one_way h c in
    let forms = norm-all (dimension hs) (λ _ b. HasForm b) (λ _ b. HasForm b) (form-rules (dimension hs)) e in
    rw (not-two s n z bs (omega arith)) (no_inner s n z bs forms)
