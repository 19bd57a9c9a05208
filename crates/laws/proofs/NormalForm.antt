-- The normal form means what the expression means: it holds at the same points, and where it holds it has the same outcome. Assumes
-- only that the expression fits the dimension of the point.
use mathlib.Core.Path.{◌≡◌, refl, sym, ap, ◌∙◌}
use Prim.Native.Nat.{ℕ}
use mathlib.Core.Bool.{Bool, true, false, ◌&&◌, ◌||◌, and_assoc}
use mathlib.Core.List.{List, [], ◌∷◌, ◌++◌, map}
use lib.ListN.{length}
use lib.Dec.{eqb, eqb-zero-suc}
use borrow.Author.Tests.{eqb-true}
use Rattle.alpha.specs.Pick.{ifb}
use Rattle.alpha.specs.Sheet.{Constraint, Map, Point, Sheet, Head, Unary, Binary, Expr, Exprs}
use Rattle.alpha.specs.Sheet.{Expr.var, Expr.int, Expr.boo, Expr.un, Expr.bin, Expr.ite, Expr.kase, Expr.restr, Expr.dep, Exprs.none, Exprs.more}
use Rattle.alpha.specs.Affine.{meets, meets_all, image, id_rows, identity}
use Rattle.alpha.specs.Read.{dimension}
use Rattle.alpha.specs.Shape.{fits, all_fit}
use Rattle.alpha.specs.Holds.{variable, in_domain, holds, some_holds}
use Rattle.alpha.specs.Outcome.{Outcome, outside, eval, eval_first}
use Rattle.alpha.specs.Normal.{Branch, push, push_branch, restrict, under1, pairs, triples, norm, norms, as_exprs, body_case}
use Rattle.laws.proofs.Tests.{&&-left, &&-right, true-not-false}
use Rattle.laws.proofs.Composed.{image-after, meets_all-after, image-identity, length-image}

-- ---- what a list of branches chooses at a point: the tree of its first branch that holds

data Choice : Type 0 where
  nothing : Choice
  just : Expr → Choice

abbrev map_c : (Expr → Expr) → Choice → Choice
map_c f nothing = nothing
map_c f (just e) = just (f e)

abbrev or_else : Choice → Choice → Choice
or_else nothing d = d
or_else (just e) d = just e

abbrev when : Bool → Choice → Choice
when true c = c
when false c = nothing

abbrev both : (Expr → Expr → Expr) → Choice → Choice → Choice
both k nothing d = nothing
both k (just x) d = map_c (k x) d

abbrev all_three : (Expr → Expr → Expr → Expr) → Choice → Choice → Choice → Choice
all_three k nothing c d = nothing
all_three k (just x) c d = both (k x) c d

abbrev choose_if : Bool → Expr → Choice → Choice
choose_if true e c = just e
choose_if false e c = c

when-nothing : (b : Bool) → nothing ≡ when b nothing
when-nothing true = refl
when-nothing false = refl

map_c-id : (c : Choice) → map_c (λ e. e) c ≡ c
map_c-id nothing = refl
map_c-id (just e) = refl

-- a branch holds at z
abbrev pub branch_holds : Branch → Sheet → Point → Bool
branch_holds b s z = meets_all b.given z && holds b.term s z

abbrev chosen : List Branch → Sheet → Point → Choice
chosen [] s z = nothing
chosen (b ∷ bs) s z = choose_if (branch_holds b s z) b.term (chosen bs s z)

meets_all-append : (xs ys : List Constraint) (z : Point) → meets_all (xs ++ ys) z ≡ meets_all xs z && meets_all ys z
meets_all-append [] ys z = refl
meets_all-append (x ∷ xs) ys z = rw (meets_all-append xs ys z) (sym (and_assoc (meets x z) (meets_all xs z) (meets_all ys z)))

-- ---- what each rule does to what is chosen

module _ (s : Sheet) where
  chosen-append : (xs ys : List Branch) (z : Point) → chosen (xs ++ ys) s z ≡ or_else (chosen xs s z) (chosen ys s z)
  chosen-append [] ys z = refl
  chosen-append (x ∷ xs) ys z = rw (chosen-append xs ys z) (go (branch_holds x s z))
    where
      go : (b : Bool) → choose_if b x.term (or_else (chosen xs s z) (chosen ys s z)) ≡ or_else (choose_if b x.term (chosen xs s z)) (chosen ys s z)
      go true = refl
      go false = refl

  -- a change of every branch that keeps its test up to a fixed condition q
  module _ (F : Branch → Branch) (g : Expr → Expr) (q : Bool) (z z' : Point)
      (test : (b : Branch) → branch_holds (F b) s z ≡ q && branch_holds b s z') (term : (b : Branch) → (F b).term ≡ g b.term) where
    chosen-map : (bs : List Branch) → chosen (map F bs) s z ≡ when q (map_c g (chosen bs s z'))
    chosen-map [] = when-nothing q
    chosen-map (b ∷ bs) = rw (test b, term b, chosen-map bs) (go q (branch_holds b s z'))
      where
        go : (q t : Bool) → choose_if (q && t) (g b.term) (when q (map_c g (chosen bs s z'))) ≡ when q (map_c g (choose_if t b.term (chosen bs s z')))
        go true true = refl
        go true false = refl
        go false t = refl

  pub restrict-holds : (cs : List Constraint) (b : Branch) (z : Point) → branch_holds (restrict cs b) s z ≡ meets_all cs z && branch_holds b s z
  restrict-holds cs b z = rw (meets_all-append cs b.given z) (and_assoc (meets_all cs z) (meets_all b.given z) (holds b.term s z))

  chosen-restrict : (cs : List Constraint) (bs : List Branch) (z : Point) → chosen (map (restrict cs) bs) s z ≡ when (meets_all cs z) (chosen bs s z)
  chosen-restrict cs bs z =
      chosen-map (restrict cs) (λ e. e) (meets_all cs z) z z (λ b. restrict-holds cs b z) (λ b. refl) bs
      ∙ ap (when (meets_all cs z)) (map_c-id (chosen bs s z))

  -- an operator k of two operands, which holds where both hold and q does
  module _ (k : Expr → Expr → Expr) (q : Bool) (z : Point) (hk : (x y : Expr) → holds (k x y) s z ≡ q && (holds x s z && holds y s z)) where
    shuffle : (g q a b : Bool) → g && (q && (a && b)) ≡ q && a && (g && b)
    shuffle true true true b = refl
    shuffle true true false b = refl
    shuffle true false a b = refl
    shuffle false true true b = refl
    shuffle false true false b = refl
    shuffle false false a b = refl

    chosen-one : (a : Expr) (bs : List Branch) → chosen (map (under1 (k a)) bs) s z ≡ when (q && holds a s z) (map_c (k a) (chosen bs s z))
    chosen-one a bs =
        chosen-map (under1 (k a)) (k a) (q && holds a s z) z z
        (λ b. rw (hk a b.term) (shuffle (meets_all b.given z) q (holds a s z) (holds b.term s z))) (λ b. refl) bs

    chosen-pairs : (xs bs : List Branch) → chosen (pairs k xs bs) s z ≡ when q (both k (chosen xs s z) (chosen bs s z))
    chosen-pairs [] bs = when-nothing q
    chosen-pairs (a ∷ xs) bs =
        chosen-append (map (restrict a.given) (map (under1 (k a.term)) bs)) (pairs k xs bs) z
        ∙ rw (chosen-restrict a.given (map (under1 (k a.term)) bs) z, chosen-one a.term bs, chosen-pairs xs bs)
        (go q (meets_all a.given z) (holds a.term s z) (chosen bs s z) (chosen xs s z))
      where
        go : (q g h : Bool) (c d : Choice) →
            or_else (when g (when (q && h) (map_c (k a.term) c))) (when q (both k d c)) ≡ when q (both k (choose_if (g && h) a.term d) c)
        go false true h c d = refl
        go false false h c d = refl
        go true true true nothing nothing = refl
        go true true true nothing (just e) = refl
        go true true true (just x) d = refl
        go true true false c d = refl
        go true false h c d = refl

  chosen-triples : (xs bs cs : List Branch) (z : Point) → chosen (triples ite xs bs cs) s z ≡ all_three ite (chosen xs s z) (chosen bs s z) (chosen cs s z)
  unfolding holds
  chosen-triples [] bs cs z = refl
  chosen-triples (a ∷ xs) bs cs z =
      let h = holds a.term s z in
      chosen-append (map (restrict a.given) (pairs (ite a.term) bs cs)) (triples ite xs bs cs) z
      ∙ rw (
        chosen-restrict a.given (pairs (ite a.term) bs cs) z,
        chosen-pairs (ite a.term) h z (λ x y. and_assoc h (holds x s z) (holds y s z)) bs cs,
        chosen-triples xs bs cs z,
      )
      (go (meets_all a.given z) h (chosen bs s z) (chosen cs s z) (chosen xs s z))
    where
      go : (g h : Bool) (b c d : Choice) →
          or_else (when g (when h (both (ite a.term) b c))) (all_three ite d b c) ≡ all_three ite (choose_if (g && h) a.term d) b c
      go true true nothing c nothing = refl
      go true true nothing c (just e) = refl
      go true true (just x) nothing nothing = refl
      go true true (just x) nothing (just e) = refl
      go true true (just x) (just y) d = refl
      go true false b c d = refl
      go false h b c d = refl

  -- ---- a map pushed to the leaves

  pub push-holds : (e : Expr) (f : Map) (z : Point) → holds (push e f) s z ≡ holds e s (image f.rows z)
  unfolding holds push
  push-holds (var v) f z = refl
  push-holds (int c) f z = refl
  push-holds (boo b) f z = refl
  push-holds (un o a) f z = push-holds a f z
  push-holds (bin o a b) f z = rw (push-holds a f z, push-holds b f z)
  push-holds (ite a b c) f z = rw (push-holds a f z, push-holds b f z, push-holds c f z)
  push-holds (kase es) f z = refl
  push-holds (restr d cs a) f z = refl
  push-holds (dep g a) f z = ap (holds a s) (image-after f g.rows z)

  pub push-eval : (e : Expr) (look : ℕ → Point → Outcome) (f : Map) (z : Point) → eval (push e f) s look z ≡ eval e s look (image f.rows z)
  unfolding eval push
  push-eval (var v) look f z = refl
  push-eval (int c) look f z = refl
  push-eval (boo b) look f z = refl
  push-eval (un o a) look f z = rw (push-eval a look f z)
  push-eval (bin o a b) look f z = rw (push-eval a look f z, push-eval b look f z)
  push-eval (ite a b c) look f z = rw (push-eval a look f z, push-eval b look f z, push-eval c look f z)
  push-eval (kase es) look f z = refl
  push-eval (restr d cs a) look f z = refl
  push-eval (dep g a) look f z = ap (eval a s look) (image-after f g.rows z)

  chosen-push : (f : Map) (bs : List Branch) (z : Point) → chosen (map (push_branch f) bs) s z ≡ map_c (λ e. push e f) (chosen bs s (image f.rows z))
  chosen-push f bs z =
      chosen-map (push_branch f) (λ e. push e f) true z (image f.rows z)
      (λ b. rw (meets_all-after f b.given z, push-holds b.term f z)) (λ b. refl) bs

  -- ---- what the normal form chooses, against the expression

  module _ (look : ℕ → Point → Outcome) (hs : List Head) where
    -- what is chosen at z agrees with a test and an outcome: nothing where the test fails, and else a tree with that outcome
    abbrev Agrees : Point → Bool → Outcome → Choice → Type 0
    Agrees z h o nothing = h ≡ false
    Agrees z h o (just t) = (h ≡ true) × (o ≡ eval t s look z)

    -- one branch with no constraints, whose tree has the expression's test and outcome
    leaf : (e t : Expr) (z : Point) → holds t s z ≡ holds e s z → eval t s look z ≡ eval e s look z →
        Agrees z (holds e s z) (eval e s look z) (choose_if (holds t s z) t nothing)
    leaf e t z p q = go (holds t s z) p
      where
        go : (b : Bool) → b ≡ holds e s z → Agrees z (holds e s z) (eval e s look z) (choose_if b t nothing)
        go true h = (sym h, sym q)
        go false h = sym h

    no-point : (z : Point) → eqb 0 (length z) ≡ true → eqb (length z) 0 ≡ true
    no-point [] h = refl
    no-point (x ∷ z) h = true-not-false h (eqb-zero-suc (length z))

    module _ (z : Point) where
      un-agrees : (o : Unary) (a : Expr) (c : Choice) → Agrees z (holds a s z) (eval a s look z) c → Agrees z (holds a s z) (eval (un o a) s look z) (map_c (un o) c)
      unfolding eval
      un-agrees o a nothing h = h
      un-agrees o a (just x) h = (h.0, rw h.1 refl)

      bin-agrees : (o : Binary) (a b : Expr) (c d : Choice) → Agrees z (holds a s z) (eval a s look z) c → Agrees z (holds b s z) (eval b s look z) d →
          Agrees z (holds a s z && holds b s z) (eval (bin o a b) s look z) (both (bin o) c d)
      unfolding eval
      bin-agrees o a b nothing d h g = rw h refl
      bin-agrees o a b (just x) nothing h g = rw (h.0, g) refl
      bin-agrees o a b (just x) (just y) h g = (rw (h.0, g.0) refl, rw (h.1, g.1) refl)

      ite-agrees : (a b e : Expr) (c d f : Choice) → Agrees z (holds a s z) (eval a s look z) c →
          Agrees z (holds b s z) (eval b s look z) d → Agrees z (holds e s z) (eval e s look z) f →
          Agrees z (holds a s z && holds b s z && holds e s z) (eval (ite a b e) s look z) (all_three ite c d f)
      unfolding eval
      ite-agrees a b e nothing d f h g k = rw h refl
      ite-agrees a b e (just x) nothing f h g k = rw (h.0, g) refl
      ite-agrees a b e (just x) (just y) nothing h g k = rw (h.0, g.0, k) refl
      ite-agrees a b e (just x) (just y) (just w) h g k = (rw (h.0, g.0, k.0) refl, rw (h.1, g.1, k.1) refl)

      when-agrees : (t h : Bool) (o : Outcome) (c : Choice) → Agrees z h o c → Agrees z (t && h) o (when t c)
      when-agrees true h o c k = k
      when-agrees false h o c k = refl

      or-agrees : (h h' : Bool) (o o' : Outcome) (c d : Choice) → Agrees z h o c → Agrees z h' o' d → Agrees z (h || h') (ifb h (λ _. o) (λ _. o')) (or_else c d)
      or-agrees h h' o o' nothing nothing k l = rw (k, l) refl
      or-agrees h h' o o' nothing (just e) k l = (rw (k, l.0) refl, rw k l.1)
      or-agrees h h' o o' (just e) d k l = (rw k.0 refl, rw k.0 k.1)

    push-agrees : (f : Map) (z : Point) (h : Bool) (o : Outcome) (c : Choice) → Agrees (image f.rows z) h o c → Agrees z h o (map_c (λ e. push e f) c)
    push-agrees f z h o nothing k = k
    push-agrees f z h o (just e) k = (k.0, k.1 ∙ sym (push-eval e look f z))

    -- what the normal form chooses
    abbrev pick : Expr → Point → Choice
    pick e z = chosen (norm e (dimension hs)) s z

    abbrev pick_first : Exprs → Point → Choice
    pick_first es z = chosen (norms es (dimension hs)) s z

    mutual
      unfolding holds eval norm fits

      norm-agrees : (e : Expr) (z : Point) → fits e hs (length z) ≡ true → Agrees z (holds e s z) (eval e s look z) (pick e z)
      norm-agrees (var v) z h =
          let i : image (id_rows (dimension hs v)) z ≡ z = rw (eqb-true (dimension hs v) (length z) h) (image-identity z) in
          leaf (var v) (dep (identity (dimension hs v)) (var v)) z (ap (in_domain (variable s v)) i) (ap (look v) i)
      norm-agrees (int c) z h = leaf (int c) (dep (identity 0) (int c)) z (sym (no-point z h)) refl
      norm-agrees (boo b) z h = leaf (boo b) (dep (identity 0) (boo b)) z (sym (no-point z h)) refl
      norm-agrees (un o a) z h =
          rw (chosen-map (under1 (un o)) (un o) true z z (λ b. refl) (λ b. refl) (norm a (dimension hs)))
          (un-agrees z o a (pick a z) (norm-agrees a z h))
      norm-agrees (bin o a b) z h =
          let k = &&-left (fits a hs (length z)) (fits b hs (length z)) h in
          let l = &&-right (fits a hs (length z)) (fits b hs (length z)) h in
          rw (chosen-pairs (bin o) true z (λ x y. refl) (norm a (dimension hs)) (norm b (dimension hs)))
          (bin-agrees z o a b (pick a z) (pick b z) (norm-agrees a z k) (norm-agrees b z l))
      norm-agrees (ite a b c) z h =
          let k = &&-left (fits a hs (length z) && fits b hs (length z)) (fits c hs (length z)) h in
          let l = &&-right (fits a hs (length z) && fits b hs (length z)) (fits c hs (length z)) h in
          let m = &&-left (fits a hs (length z)) (fits b hs (length z)) k in
          let n = &&-right (fits a hs (length z)) (fits b hs (length z)) k in
          rw (chosen-triples (norm a (dimension hs)) (norm b (dimension hs)) (norm c (dimension hs)) z)
          (ite-agrees z a b c (pick a z) (pick b z) (pick c z) (norm-agrees a z m) (norm-agrees b z n) (norm-agrees c z l))
      norm-agrees (kase es) z h = norms-agree es z h
      norm-agrees (restr d cs a) z h =
          rw (chosen-restrict cs (norm a (dimension hs)) z)
          (when-agrees z (meets_all cs z) (holds a s z) (eval a s look z) (pick a z)
          (norm-agrees a z (&&-right (eqb d (length z)) (fits a hs (length z)) h)))
      norm-agrees (dep f a) z h =
          rw (chosen-push f (norm a (dimension hs)) z)
          (push-agrees f z (holds a s (image f.rows z)) (eval a s look (image f.rows z)) (pick a (image f.rows z))
          (norm-agrees a (image f.rows z) (rw (length-image f.rows z) (&&-right (eqb f.cols (length z)) (fits a hs (length f.rows)) h))))

      norms-agree : (es : Exprs) (z : Point) → all_fit es hs (length z) ≡ true → Agrees z (some_holds es s z) (eval_first es s look z) (pick_first es z)
      norms-agree none z h = refl
      norms-agree (more e es) z h =
          let k = &&-left (fits e hs (length z)) (all_fit es hs (length z)) h in
          let l = &&-right (fits e hs (length z)) (all_fit es hs (length z)) h in
          rw (chosen-append (norm e (dimension hs)) (norms es (dimension hs)) z)
          (or-agrees z (holds e s z) (some_holds es s z) (eval e s look z) (eval_first es s look z) (pick e z) (pick_first es z)
          (norm-agrees e z k) (norms-agree es z l))

    -- ---- the body that is written

    body-agrees : (n : ℕ) (bs : List Branch) (z : Point) → Agrees z (holds (body_case n bs) s z) (eval (body_case n bs) s look z) (chosen bs s z)
    unfolding holds eval
    body-agrees n [] z = refl
    body-agrees n (b ∷ bs) z = go (branch_holds b s z) (body-agrees n bs z)
      where
        go : (t : Bool) → Agrees z (some_holds (as_exprs n bs) s z) (eval_first (as_exprs n bs) s look z) (chosen bs s z) →
            Agrees z (t || some_holds (as_exprs n bs) s z) (ifb t (λ _. eval b.term s look z) (λ _. eval_first (as_exprs n bs) s look z))
            (choose_if t b.term (chosen bs s z))
        go true h = (refl, refl)
        go false h = h

    -- two that agree with one choice have one test, and one outcome where it is passed
    agree-once : (z : Point) (h h' : Bool) (o o' : Outcome) (c : Choice) → Agrees z h o c → Agrees z h' o' c → (h ≡ h') × (h' ≡ true → o ≡ o')
    agree-once z h h' o o' nothing k l = (k ∙ sym l, λ t. true-not-false t l)
    agree-once z h h' o o' (just e) k l = (k.0 ∙ sym l.0, λ t. k.1 ∙ sym l.1)

    normal-once : (n : ℕ) (e : Expr) (z : Point) → fits e hs (length z) ≡ true → let b = body_case n (norm e (dimension hs)) in
        (holds b s z ≡ holds e s z) × (holds e s z ≡ true → eval b s look z ≡ eval e s look z)
    normal-once n e z h =
        let b = body_case n (norm e (dimension hs)) in
        agree-once z (holds b s z) (holds e s z) (eval b s look z) (eval e s look z) (pick e z) (body-agrees n (norm e (dimension hs)) z) (norm-agrees e z h)

-- ---- the theorem

module _ (s : Sheet) (hs : List Head) (n : ℕ) (e : Expr) (z : Point) (h : fits e hs (length z) ≡ true) where
  pub normal-holds : holds (body_case n (norm e (dimension hs))) s z ≡ holds e s z
  normal-holds = (normal-once s (λ v y. outside) hs n e z h).0

  pub normal-eval : (look : ℕ → Point → Outcome) → holds e s z ≡ true → eval (body_case n (norm e (dimension hs))) s look z ≡ eval e s look z
  normal-eval look t = (normal-once s look hs n e z h).1 t
