-- The ways through the walk that judges SHAPE: for each, the judgement of the tree or trees from what the code has found. Assumes nothing.
use Rattle.std.specs.Prelude.{Option, Some, None}
use mathlib.Core.Path.{◌≡◌, refl, sym, ap, ◌∙◌}
use Prim.Native.Nat.{ℕ, zero, suc, ◌-◌, ◌≤◌}
use native.Mathlib.Omega.{arith}
use mathlib.Core.Bool.{Bool, true, false, ◌&&◌}
use mathlib.Core.List.{List, [], ◌∷◌}
use lib.ListN.{length}
use Rattle.alpha.specs.Pick.{ifb}
use Rattle.alpha.specs.Sheet.{Node, Expr, Exprs}
use Rattle.alpha.specs.Sheet.{Exprs.more}
use Rattle.alpha.specs.Read.{got, node}
use Rattle.alpha.specs.Shape.{Parsed, tree, ill, then, branches, expr_at, fits, all_fit}
use Rattle.laws.specs.At.{node_read, node_end}
use Rattle.laws.specs.Heads.{InRow}
use Rattle.laws.specs.Children.{arity, fits_here, wanted}
use Rattle.laws.specs.Sheets.{heads_of, vars_of}
use Rattle.laws.proofs.Nodes.{node_end_lem}
use Rattle.laws.proofs.Children.{build, branches-many, expr_at-branches, fits-build}
use Rattle.tree.specs.declared.Rest.{Rest}
use Rattle.tree.specs.Standing.{Noded}
use Rattle.tree.specs.Judged.{Flat, judged, tree_judged, trees_judged, Judges}
use Rattle.tree.proofs.Classes.{read_here}

-- ---- the first of the nodes that are left

-- the first node is read, and the others stand from its next place on
pub record FirstOf (bs : List ℕ) (p left : ℕ) : Type 0 where
  pub noded : Noded (vars_of bs) bs p
  pub rest : Flat bs (node_end (vars_of bs) bs p) (left - 1)

pub flat-first : (bs : List ℕ) (p left : ℕ) → 1 ≤ left → Flat bs p left → FirstOf bs p left
unfolding InRow
flat-first bs p left some h = go h.nodes h.many h.stand
  where
    go : (ns : List Node) → length ns ≡ left → InRow ns (node (vars_of bs)) bs p (length bs) → FirstOf bs p left
    go [] m r = absurd (omega arith)
    go (nd ∷ ns) m r =
        let n = node_end_lem (vars_of bs) bs p nd r.next r.here in
        record {
          noded = record { what = nd; next = r.next; read = r.here };
          rest = record { nodes = ns; many = omega arith; stand = rw n r.after };
        }

-- ---- one tree

-- the nodes that are left after a tree of which a test says b
abbrev after_test : Bool → ℕ → ℕ → Option Rest
after_test b o n = ifb b (λ _. Some (record { next = o; left = n })) (λ _. None)

-- a test that nothing passes
all-bad : {A : Type 0} (t : Parsed A) → None ≡ judged (λ _. false) t
all-bad ill = refl
all-bad (tree a o n) = refl

module _ (bs : List ℕ) (from : Rest) (deep want : ℕ) where
  pub tree-no-nodes : from.left ≡ 0 → None ≡ tree_judged bs from deep want
  unfolding expr_at
  tree-no-nodes l = go deep from.left l
    where
      go : (d m : ℕ) → m ≡ 0 → None ≡ tree_judged bs (record { next = from.next; left = m }) d want
      go zero m l = refl
      go (suc d) zero l = refl
      go (suc d) (suc m) l = absurd (omega arith)

  pub tree-no-depth : deep ≡ 0 → None ≡ tree_judged bs from deep want
  unfolding expr_at
  tree-no-depth e = rw e refl

  module _ (nodes : 1 ≤ from.left) (depth : 1 ≤ deep) (noded : Noded (vars_of bs) bs from.next) where
    abbrev nd : Node
    nd = node_read (vars_of bs) bs from.next

    abbrev q : ℕ
    q = node_end (vars_of bs) bs from.next

    read : node (vars_of bs) bs from.next ≡ got nd q
    read = read_here bs from.next noded

    parts : expr_at deep (vars_of bs) bs from.next from.left ≡ then (branches (λ o n. expr_at (deep - 1) (vars_of bs) bs o n) (arity nd) q (from.left - 1))
        (λ es o n. tree (build nd es) o n)
    parts = go deep from.left depth nodes
      where
        go : (d m : ℕ) → 1 ≤ d → 1 ≤ m →
            expr_at d (vars_of bs) bs from.next m
            ≡ then (branches (λ o n. expr_at (d - 1) (vars_of bs) bs o n) (arity nd) q (m - 1)) (λ es o n. tree (build nd es) o n)
        go zero m k l = absurd (omega arith)
        go (suc d) zero k l = absurd (omega arith)
        go (suc d) (suc m) k l =
            let e : suc d - 1 ≡ d = omega arith in
            let f : suc m - 1 ≡ m = omega arith in
            rw (e, f) (expr_at-branches (vars_of bs) bs d from.next m q nd read)

    -- a tree of this node is judged by the node and then by the children
    by-node : (b : Bool) → fits_here nd (heads_of bs) want ≡ b → (t : Parsed Exprs) →
        branches (λ o n. expr_at (deep - 1) (vars_of bs) bs o n) (arity nd) q (from.left - 1) ≡ t →
        judged (λ e. fits e (heads_of bs) want) (then t (λ es o n. tree (build nd es) o n)) ≡ judged (λ es. b && all_fit es (heads_of bs) (wanted nd want)) t
    by-node b e ill g = refl
    by-node b e (tree es o n) g =
        let many = branches-many (λ o n. expr_at (deep - 1) (vars_of bs) bs o n) (arity nd) q (from.left - 1) es o n g in
        rw (fits-build (heads_of bs) want nd es many, e)

    judged-by : (b : Bool) → fits_here nd (heads_of bs) want ≡ b →
        tree_judged bs from deep want ≡ judged (λ es. b && all_fit es (heads_of bs) (wanted nd want))
        (branches (λ o n. expr_at (deep - 1) (vars_of bs) bs o n) (arity nd) q (from.left - 1))
    judged-by b e =
        ap (judged (λ e. fits e (heads_of bs) want)) parts
        ∙ by-node b e (branches (λ o n. expr_at (deep - 1) (vars_of bs) bs o n) (arity nd) q (from.left - 1)) refl

    pub tree-misfit : fits_here nd (heads_of bs) want ≡ false → None ≡ tree_judged bs from deep want
    tree-misfit e = all-bad (branches (λ o n. expr_at (deep - 1) (vars_of bs) bs o n) (arity nd) q (from.left - 1)) ∙ sym (judged-by false e)

    pub tree-goes : fits_here nd (heads_of bs) want ≡ true →
        trees_judged bs (record { next = q; left = from.left - 1 }) (deep - 1) (wanted nd want) (arity nd) ≡ tree_judged bs from deep want
    tree-goes e = sym (judged-by true e)

-- ---- so many trees

module _ (bs : List ℕ) (from : Rest) (deep want count : ℕ) where
  pub trees-none : count ≤ 0 → Some from ≡ trees_judged bs from deep want count
  unfolding branches all_fit
  trees-none l = let e : count ≡ 0 = omega arith in rw e refl

  module _ (some : 1 ≤ count) where
    abbrev after : Expr → ℕ → ℕ → Parsed Exprs
    after e o n = then (branches (λ o n. expr_at deep (vars_of bs) bs o n) (count - 1) o n) (λ es o₂ n₂. tree (more e es) o₂ n₂)

    -- the first tree, and then the others
    split : branches (λ o n. expr_at deep (vars_of bs) bs o n) count from.next from.left ≡ then (expr_at deep (vars_of bs) bs from.next from.left) after
    unfolding branches
    split = go count some
      where
        go : (k : ℕ) → 1 ≤ k → branches (λ o n. expr_at deep (vars_of bs) bs o n) k from.next from.left
            ≡ then (expr_at deep (vars_of bs) bs from.next from.left)
            (λ e o n. then (branches (λ o n. expr_at deep (vars_of bs) bs o n) (k - 1) o n) (λ es o₂ n₂. tree (more e es) o₂ n₂))
        go zero l = absurd (omega arith)
        go (suc k) l = let e : suc k - 1 ≡ k = omega arith in rw e refl

    -- after a first tree the others are judged with it
    with_first : (e : Expr) (b : Bool) → fits e (heads_of bs) want ≡ b → (t : Parsed Exprs) →
        judged (λ es. all_fit es (heads_of bs) want) (then t (λ es o₂ n₂. tree (more e es) o₂ n₂)) ≡ judged (λ es. b && all_fit es (heads_of bs) want) t
    unfolding all_fit
    with_first e b h ill = refl
    with_first e b h (tree es o n) = rw h

    first-bad : (t : Parsed Expr) → None ≡ judged (λ e. fits e (heads_of bs) want) t → None ≡ judged (λ es. all_fit es (heads_of bs) want) (then t after)
    first-bad ill h = refl
    first-bad (tree e o n) h = by (fits e (heads_of bs) want) refl h
      where
        by : (b : Bool) → fits e (heads_of bs) want ≡ b → None ≡ after_test b o n → None ≡ judged (λ es. all_fit es (heads_of bs) want) (after e o n)
        by true f h = absurd cc
        by false f h =
            all-bad (branches (λ o n. expr_at deep (vars_of bs) bs o n) (count - 1) o n)
            ∙ sym (with_first e false f (branches (λ o n. expr_at deep (vars_of bs) bs o n) (count - 1) o n))

    first_fits : (rest : Rest) (t : Parsed Expr) → Some rest ≡ judged (λ e. fits e (heads_of bs) want) t →
        trees_judged bs rest deep want (count - 1) ≡ judged (λ es. all_fit es (heads_of bs) want) (then t after)
    first_fits rest ill h = absurd cc
    first_fits rest (tree e o n) h = by (fits e (heads_of bs) want) refl h
      where
        by : (b : Bool) → fits e (heads_of bs) want ≡ b → Some rest ≡ after_test b o n →
            trees_judged bs rest deep want (count - 1) ≡ judged (λ es. all_fit es (heads_of bs) want) (after e o n)
        by false f h = absurd cc
        by true f h =
            let x : ◌≡◌ {A = Rest} rest (record { next = o; left = n }) = cc in
            rw x (sym (with_first e true f (branches (λ o n. expr_at deep (vars_of bs) bs o n) (count - 1) o n)))

    pub trees-bad : None ≡ tree_judged bs from deep want → None ≡ trees_judged bs from deep want count
    trees-bad h = first-bad (expr_at deep (vars_of bs) bs from.next from.left) h ∙ ap (judged (λ es. all_fit es (heads_of bs) want)) (sym split)

    pub trees-go : (rest : Rest) → Some rest ≡ tree_judged bs from deep want → trees_judged bs rest deep want (count - 1) ≡ trees_judged bs from deep want count
    trees-go rest h = first_fits rest (expr_at deep (vars_of bs) bs from.next from.left) h ∙ ap (judged (λ es. all_fit es (heads_of bs) want)) (sym split)

-- where there is nothing that fits, nothing is left to stand
pub bad-judges : (bs : List ℕ) (x : Option Rest) → None ≡ x → Judges bs x None
bad-judges bs x h = record { is = h; flat = λ rest e. absurd cc }

pub fits-judges : (bs : List ℕ) (x : Option Rest) (from : Rest) → Some from ≡ x → Flat bs from.next from.left → Judges bs x (Some from)
fits-judges bs x from h f =
    record { is = h; flat = λ rest e. let a : ◌≡◌ {A = Rest} from rest = cc in rw (← a) f }
