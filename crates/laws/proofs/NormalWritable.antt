-- What can be written: every tree that stands in the bytes, and every branch of the normal form of one that fits and keeps the limit of
-- reach. Assumes nothing.
use mathlib.Core.Path.{◌≡◌, refl, ap}
use Prim.Native.Nat.{ℕ, suc, ◌-◌, ◌^◌, ◌≤◌, ◌<◌}
use native.Mathlib.Omega.{arith}
use mathlib.Core.Bool.{true, false, ◌&&◌}
use mathlib.Core.List.{List, [], ◌∷◌}
use lib.ListN.{length, get_or}
use lib.IntN.{ℤ, pos, neg_ℤ, nat_abs}
use lib.Dec.{leb, eqb}
use borrow.Author.Tests.{leb-true, eqb-true}
use Rattle.alpha.specs.Sheet.{Relation, Row, Constraint, Map, Head, Expr, Exprs}
use Rattle.alpha.specs.Sheet.{Node.n_var, Node.n_int, Node.n_bool, Node.n_case, Node.n_restr, Node.n_dep}
use Rattle.alpha.specs.Sheet.{Expr.var, Expr.int, Expr.boo, Expr.un, Expr.bin, Expr.ite, Expr.kase, Expr.restr, Expr.dep, Exprs.none, Exprs.more}
use Rattle.alpha.specs.Box.{within}
use Rattle.alpha.specs.Read.{dimension}
use Rattle.alpha.specs.Shape.{fits}
use Rattle.alpha.specs.Reach.{limit, sizes, row_reach, map_reach, all_reach, reach, reach_all}
use Rattle.alpha.specs.Written.{branch_count}
use Rattle.alpha.specs.Normal.{Branch, push, norm, as_exprs, body_case}
use Rattle.alpha.specs.Normalise.{narrow}
use Rattle.laws.specs.At.{At, AllAt}
use Rattle.laws.specs.Normal.{is_leaf, tree_form}
use Rattle.laws.specs.Wide.{RowsWide, ConstraintsWide, Wide}
use Rattle.laws.specs.Writable.{All, RowOk, Writable, AllWritable}
use Rattle.laws.proofs.Tests.{true-not-false, &&-left, &&-right}
use Rattle.laws.proofs.Rows.{RowAt}
use Rattle.laws.proofs.Nodes.{node_at, restr-constraint, dep-row}
use Rattle.laws.proofs.Branches.{AllBranches, Rules, norm-all}
use Rattle.laws.proofs.NormalReach.{ReachesToo, reach-rules, row_small}
use Rattle.laws.proofs.NormalChecks.{HasForm, form-rules, FitsToo, AllFitToo, fits-rules}
use Rattle.laws.proofs.NormalAgain.{WideToo, AllWideToo, wide-rules}

-- ---- a tree that stands in the bytes

all-by-item : {A : Type 0} (P : A → Type 0) (l : List A) (d : A) → ((i : ℕ) → i < length l → P (get_or l i d)) → All P l
all-by-item P [] d h = tt
all-by-item P (a ∷ l) d h = (h 0 (omega arith), all-by-item P l d (λ i lt. h (suc i) (omega arith)))

row_ok : {n : ℕ} {bs : List ℕ} {p : ℕ} (w : Row) → RowAt n bs p w → RowOk n w
row_ok {n} {bs} {p} w h = record {
  width = h.width;
  coefs_small = all-by-item (λ x. nat_abs x ≤ 2 ^ 40) w.coefs (pos 0) (λ i lt.
      let l : i < n = omega (arith, h.width) in
      rw (h.coef i l) (h.coef-small i l));
  const_small = rw h.constant h.constant-small;
}

no_row : Row
no_row = record { coefs = []; const = pos 0 }

no_constraint : Constraint
no_constraint = record { rel = Relation.at_least; row = no_row }

module _ (vars : ℕ) (bs : List ℕ) where
  mutual
    unfolding At Writable

    pub at-writable : (e : Expr) (p q : ℕ) → At e vars bs p q → Writable e vars
    at-writable (var v) p q h = (node_at vars bs p (n_var v) q h).fields.high
    at-writable (int c) p q h = let k = (node_at vars bs p (n_int c) q h).fields in rw k.is k.fine
    at-writable (boo b) p q h = (node_at vars bs p (n_bool b) q h).fields.high
    at-writable (un o a) p q h = at-writable a h.next q h.below
    at-writable (bin o a b) p q h = let g = h.below in (at-writable a h.next g.middle g.before, at-writable b g.middle q g.after)
    at-writable (ite a b c) p q h =
        let g = h.below in
        let f = g.after in
        (at-writable a h.next g.middle g.before, at-writable b g.middle f.middle f.before, at-writable c f.middle q f.after)
    at-writable (kase es) p q h =
        let k = (node_at vars bs p (n_case (branch_count es)) h.next h.here).fields in
        (k.low, k.high, all_at-writable es h.next q h.below)
    at-writable (restr d cs a) p q h =
        let k = (node_at vars bs p (n_restr d cs) h.next h.here).fields in (
          k.dim.high,
          k.many.high,
          all-by-item (λ c. RowOk d c.row) cs no_constraint (λ i lt. row_ok (get_or cs i no_constraint).row (restr-constraint k i lt no_constraint).stands),
          at-writable a h.next q h.below,
        )
    at-writable (dep f a) p q h =
        let k = (node_at vars bs p (n_dep f) h.next h.here).fields in (
          k.width.high,
          k.many.high,
          all-by-item (RowOk f.cols) f.rows no_row (λ i lt. row_ok (get_or f.rows i no_row) (dep-row k i lt no_row)),
          at-writable a h.next q h.below,
        )

    pub all_at-writable : (es : Exprs) (p q : ℕ) → AllAt es vars bs p q → AllWritable es vars
    all_at-writable none p q h = tt
    all_at-writable (more e es) p q h = (at-writable e p h.middle h.before, all_at-writable es h.middle q h.after)

-- ---- the leaves of a branch are the expression's

LeavesOk : Expr → ℕ → Type 0
LeavesOk (var v) vars = v ≤ vars - 1
LeavesOk (int c) vars = within (neg_ℤ (pos 2147483648)) (pos 2147483647) c ≡ true
LeavesOk (boo b) vars = b ≤ 1
LeavesOk (un o a) vars = LeavesOk a vars
LeavesOk (bin o a b) vars = LeavesOk a vars × LeavesOk b vars
LeavesOk (ite a b c) vars = LeavesOk a vars × LeavesOk b vars × LeavesOk c vars
LeavesOk (kase es) vars = Unit {0}
LeavesOk (restr d cs a) vars = Unit {0}
LeavesOk (dep f a) vars = LeavesOk a vars

push-leaves : (e : Expr) (f : Map) (vars : ℕ) → LeavesOk e vars → LeavesOk (push e f) vars
unfolding LeavesOk push
push-leaves (var v) f vars h = h
push-leaves (int c) f vars h = h
push-leaves (boo b) f vars h = h
push-leaves (un o a) f vars h = push-leaves a f vars h
push-leaves (bin o a b) f vars h = (push-leaves a f vars h.0, push-leaves b f vars h.1)
push-leaves (ite a b c) f vars h = (push-leaves a f vars h.0, push-leaves b f vars h.1, push-leaves c f vars h.2)
push-leaves (kase es) f vars h = tt
push-leaves (restr d cs a) f vars h = tt
push-leaves (dep g a) f vars h = h

leaf-rules : (vars : ℕ) (dims : ℕ → ℕ) → Rules dims (λ e b. Writable e vars → LeavesOk b.term vars) (λ es b. AllWritable es vars → LeavesOk b.term vars)
unfolding LeavesOk Writable
leaf-rules vars dims = record {
  of-var = λ v h. h;
  of-int = λ c h. h;
  of-boo = λ b h. h;
  of-un = λ o e a q. q;
  of-bin = λ o e f a b q p h. (q h.0, p h.1);
  of-ite = λ e f g a b c q p o h. (q h.0, p h.1, o h.2);
  of-kase = λ es a q h. q h.2;
  of-restr = λ d cs e a q h. q h.3;
  of-dep = λ f e a q h. push-leaves a.term f vars (q h.3);
  of-first = λ e es a q h. q h.0;
  of-rest = λ e es a q h. q h.1;
}

-- ---- rows within the limit

small-each : (cs : List ℤ) → sizes cs ≤ limit → All (λ x. nat_abs x ≤ 2 ^ 40) cs
small-each [] h = tt
small-each (c ∷ cs) h = (omega arith, small-each cs (omega arith))

row_within : (n r : ℕ) (w : Row) → length w.coefs ≡ n → 1 ≤ r → row_reach r w ≤ limit → RowOk n w
row_within n r w l low h =
    let k = row_small r w low h in
    record { width = l; coefs_small = small-each w.coefs k.0; const_small = k.1 }

rows-within : (n r : ℕ) (ws : List Row) → RowsWide n ws → 1 ≤ r → map_reach r ws ≤ limit → All (RowOk n) ws
rows-within n r [] w low h = tt
rows-within n r (x ∷ ws) w low h = (row_within n r x w.0 low (omega arith), rows-within n r ws w.1 low (omega arith))

constraints-within : (n r : ℕ) (cs : List Constraint) → ConstraintsWide n cs → 1 ≤ r → all_reach r cs ≡ true → All (λ c. RowOk n c.row) cs
constraints-within n r [] w low h = tt
constraints-within n r (c ∷ cs) w low h =
    let k = &&-left (leb (row_reach r c.row) limit) (all_reach r cs) h in (
      row_within n r c.row w.0 low (leb-true (row_reach r c.row) limit k),
      constraints-within n r cs w.1 low (&&-right (leb (row_reach r c.row) limit) (all_reach r cs) h),
    )

-- ---- trees

module _ (hs : List Head) (vars : ℕ) (few : (v : ℕ) → dimension hs v ≤ 4) where
  leaf-writable : (a : Expr) (m : ℕ) → is_leaf a ≡ true → fits a hs m ≡ true → LeavesOk a vars → (m ≤ 4) × Writable a vars
  unfolding fits LeavesOk Writable
  leaf-writable (var v) m l h k = (omega (arith, few v, eqb-true (dimension hs v) m h), k)
  leaf-writable (int c) m l h k = (omega (arith, eqb-true 0 m h), k)
  leaf-writable (boo b) m l h k = (omega (arith, eqb-true 0 m h), k)
  leaf-writable (un o a) m l h k = true-not-false {b = false} l refl
  leaf-writable (bin o a b) m l h k = true-not-false {b = false} l refl
  leaf-writable (ite a b c) m l h k = true-not-false {b = false} l refl
  leaf-writable (kase es) m l h k = true-not-false {b = false} l refl
  leaf-writable (restr d cs a) m l h k = true-not-false {b = false} l refl
  leaf-writable (dep f a) m l h k = true-not-false {b = false} l refl

  module _ (n r : ℕ) (small : n ≤ 4) (low : 1 ≤ r) where
    tree-writable : (e : Expr) → tree_form e ≡ true → fits e hs n ≡ true → Wide e → reach e r ≡ true → LeavesOk e vars → Writable e vars
    unfolding tree_form fits Wide reach LeavesOk Writable
    tree-writable (var v) t h w c k = k
    tree-writable (int x) t h w c k = k
    tree-writable (boo b) t h w c k = k
    tree-writable (un o a) t h w c k = tree-writable a t h w c k
    tree-writable (bin o a b) t h w c k = (
      tree-writable a (&&-left (tree_form a) (tree_form b) t) (&&-left (fits a hs n) (fits b hs n) h) w.0 (&&-left (reach a r) (reach b r) c) k.0,
      tree-writable b (&&-right (tree_form a) (tree_form b) t) (&&-right (fits a hs n) (fits b hs n) h) w.1 (&&-right (reach a r) (reach b r) c) k.1,
    )
    tree-writable (ite a b d) t h w c k =
        let t₁ = &&-left (tree_form a && tree_form b) (tree_form d) t in
        let h₁ = &&-left (fits a hs n && fits b hs n) (fits d hs n) h in
        let c₁ = &&-left (reach a r && reach b r) (reach d r) c in (
          tree-writable a (&&-left (tree_form a) (tree_form b) t₁) (&&-left (fits a hs n) (fits b hs n) h₁) w.0 (&&-left (reach a r) (reach b r) c₁) k.0,
          tree-writable b (&&-right (tree_form a) (tree_form b) t₁) (&&-right (fits a hs n) (fits b hs n) h₁) w.1 (&&-right (reach a r) (reach b r) c₁) k.1,
          tree-writable d (&&-right (tree_form a && tree_form b) (tree_form d) t) (&&-right (fits a hs n && fits b hs n) (fits d hs n) h) w.2
              (&&-right (reach a r && reach b r) (reach d r) c) k.2,
        )
    tree-writable (kase es) t h w c k = true-not-false {b = false} t refl
    tree-writable (restr d cs a) t h w c k = true-not-false {b = false} t refl
    tree-writable (dep f a) t h w c k =
        let m = length f.rows in
        let q = map_reach r f.rows in
        let l = leaf-writable a m t (&&-right (eqb f.cols n) (fits a hs m) h) k in
        let e : f.cols ≡ n = eqb-true f.cols n (&&-left (eqb f.cols n) (fits a hs m) h) in
        (omega arith, l.0, rows-within f.cols r f.rows w.0 low (leb-true q limit (&&-left (leb q limit) (reach a q) c)), l.1)

-- ---- bodies

-- a branch whose constraints and tree can be written, up to the number of its constraints
record BranchOk (vars n : ℕ) (b : Branch) : Type 0 where
  given-ok : All (λ c. RowOk n c.row) b.given
  term-ok : Writable b.term vars

pub branch_count-as_exprs : (n : ℕ) (bs : List Branch) → branch_count (as_exprs n bs) ≡ length bs
branch_count-as_exprs n [] = refl
branch_count-as_exprs n (b ∷ bs) = ap suc (branch_count-as_exprs n bs)

branches-writable : (vars n : ℕ) (bs : List Branch) → n ≤ 4 → narrow bs ≡ true → AllBranches (BranchOk vars n) bs → AllWritable (as_exprs n bs) vars
unfolding Writable
branches-writable vars n [] l h k = tt
branches-writable vars n (b ∷ bs) l h k =
    let m = leb-true (length b.given) 64 (&&-left (leb (length b.given) 64) (narrow bs) h) in
    ((l, m, k.0.given-ok, k.0.term-ok), branches-writable vars n bs l (&&-right (leb (length b.given) 64) (narrow bs) h) k.1)

module _ (hs : List Head) (vars : ℕ) (few : (v : ℕ) → dimension hs v ≤ 4) (n r : ℕ) (small : n ≤ 4) (low : 1 ≤ r) (high : r ≤ limit) where
  -- the body written from an expression's normal form, where that keeps the limits of count
  pub normal-writable : (e : Expr) → Writable e vars → Wide e → fits e hs n ≡ true → reach e r ≡ true →
      1 ≤ length (norm e (dimension hs)) → length (norm e (dimension hs)) ≤ 64 → narrow (norm e (dimension hs)) ≡ true →
      Writable (body_case n (norm e (dimension hs))) vars
  unfolding Writable
  normal-writable e k w h c some most tight =
      let count = branch_count-as_exprs n bs in
      (omega arith, omega arith, branches-writable vars n bs small tight (all bs forms fitting widths reaching leaves))
    where
      bs : List Branch
      bs = norm e (dimension hs)

      forms : AllBranches HasForm bs
      forms = norm-all (dimension hs) (λ _ b. HasForm b) (λ _ b. HasForm b) (form-rules (dimension hs)) e

      fitting : AllBranches (FitsToo hs e) bs
      fitting = norm-all (dimension hs) (FitsToo hs) (AllFitToo hs) (fits-rules hs) e

      widths : AllBranches (WideToo hs e) bs
      widths = norm-all (dimension hs) (WideToo hs) (AllWideToo hs) (wide-rules hs) e

      reaching : AllBranches (ReachesToo (reach e)) bs
      reaching = norm-all (dimension hs) (λ x b. ReachesToo (reach x) b) (λ es b. ReachesToo (reach_all es) b) (reach-rules (dimension hs)) e

      leaves : AllBranches (λ b. Writable e vars → LeavesOk b.term vars) bs
      leaves = norm-all (dimension hs) (λ x b. Writable x vars → LeavesOk b.term vars) (λ es b. AllWritable es vars → LeavesOk b.term vars) (leaf-rules vars (dimension hs)) e

      one : (b : Branch) → HasForm b → FitsToo hs e b → WideToo hs e b → ReachesToo (reach e) b → (Writable e vars → LeavesOk b.term vars) → BranchOk vars n b
      one b f g x y z =
          let wide = x w n h in
          let far = y.keeps r low high c in
          record {
            given-ok = constraints-within n r b.given wide.given-wide low far.given-reach;
            term-ok = tree-writable hs vars few n r small low b.term f (g n h) wide.term-wide far.term-reach (z k);
          }

      all : (cs : List Branch) → AllBranches HasForm cs → AllBranches (FitsToo hs e) cs → AllBranches (WideToo hs e) cs → AllBranches (ReachesToo (reach e)) cs →
          AllBranches (λ b. Writable e vars → LeavesOk b.term vars) cs → AllBranches (BranchOk vars n) cs
      all [] f g x y z = tt
      all (b ∷ cs) f g x y z = (one b f.0 g.0 x.0 y.0 z.0, all cs f.1 g.1 x.1 y.1 z.1)
