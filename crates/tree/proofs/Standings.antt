-- What a walk knows of the tree that stands at a place: its first node, that its children stand after the node, and of so many trees the
-- first and the rest, and what is left of them past a node. Assumes nothing.
use mathlib.Core.Path.{◌≡◌, refl, sym, ap, ◌∙◌}
use Prim.Native.Nat.{ℕ, ◌+◌, ◌-◌, ◌≤◌, ◌<◌}
use native.Mathlib.Omega.{arith}
use mathlib.Core.List.{List}
use lib.ListN.{length}
use Rattle.alpha.specs.Sheet.{Expr, Exprs, Exprs.none, Exprs.more}
use Rattle.alpha.specs.Written.{branch_count, node_count, node_counts}
use Rattle.laws.specs.At.{node_of, node_read, node_end, At, AllAt}
use Rattle.laws.specs.Children.{children_of, arity}
use Rattle.laws.proofs.Shapes.{at-node, at-got, at_read, at_size, all_at-more, all_at-none, MoreAt}
use Rattle.laws.proofs.Children.{arity-few, children-many, children-count, at-children}
use Rattle.tree.specs.Standing.{Noded, Standing, StandingAll}
use Rattle.tree.specs.Ends.{EndsAt, AllEnd}

-- ---- the trees of two lists

abbrev pub followed : Exprs → Exprs → Exprs
followed none fs = fs
followed (more e es) fs = more e (followed es fs)

pub followed-count : (es fs : Exprs) → branch_count (followed es fs) ≡ branch_count es + branch_count fs
followed-count none fs = omega arith
followed-count (more e es) fs = omega (arith, followed-count es fs)

pub followed-nodes : (es fs : Exprs) → node_counts (followed es fs) ≡ node_counts es + node_counts fs
unfolding node_counts
followed-nodes none fs = omega arith
followed-nodes (more e es) fs = omega (arith, followed-nodes es fs)

pub followed-at : (vars : ℕ) (bs : List ℕ) (es fs : Exprs) (p m q : ℕ) → AllAt es vars bs p m → AllAt fs vars bs m q → AllAt (followed es fs) vars bs p q
unfolding At
followed-at vars bs none fs p m q h k = rw h k
followed-at vars bs (more e es) fs p m q h k =
    record { middle = h.middle; before = h.before; after = followed-at vars bs es fs h.middle m q h.after k }

-- each tree has a node
pub count-nodes : (es : Exprs) → branch_count es ≤ node_counts es
unfolding node_counts
count-nodes none = omega arith
count-nodes (more e es) = omega (arith, count-nodes es, children-count e)

module _ (vars : ℕ) (bs : List ℕ) where
  -- ---- a tree

  pub at-noded : (e : Expr) (p q : ℕ) → At e vars bs p q → Noded vars bs p
  at-noded e p q h = record { what = node_of e; next = node_end vars bs p; read = at-got vars bs e p q h }

  module _ (p left : ℕ) (h : Standing vars bs p left) where
    pub standing-noded : Noded vars bs p
    standing-noded = at-noded h.tree p h.end h.at

    pub standing-some : 1 ≤ left
    standing-some = omega (arith, h.few, children-count h.tree)

    pub standing-there : node_end vars bs p ≤ length bs
    standing-there = omega (arith, (at-node vars bs h.tree p h.end h.at).there, at_size vars bs h.tree p h.end h.at)

    pub standing-long : p + 8 ≤ node_end vars bs p
    standing-long = omega (arith, (at-node vars bs h.tree p h.end h.at).long, at_size vars bs h.tree p h.end h.at)

    -- it is one tree
    pub standing-one : StandingAll vars bs p left 1
    unfolding At node_counts
    standing-one = record {
      trees = more h.tree none;
      end = h.end;
      at = record { middle = h.end; before = h.at; after = refl };
      few = omega (arith, h.few);
      most = h.most;
      many = refl;
    }

    -- the children of the node, where the code has n of them and the next place is k
    module _ (k n : ℕ) (next : k ≡ node_end vars bs p) (many : n ≡ arity (node_read vars bs p)) where
      counted : n ≡ arity (node_of h.tree)
      counted = many ∙ ap arity (at_read vars bs h.tree p h.end h.at)

      pub standing-children : StandingAll vars bs k (left - 1) n
      standing-children = record {
        trees = children_of h.tree;
        end = h.end;
        at = rw next (at-children vars bs h.tree p h.end h.at);
        few = omega (arith, h.few, children-count h.tree);
        most = omega (arith, h.most);
        many = children-many h.tree ∙ sym counted;
      }

      pub children-few : n ≤ 64
      children-few = omega (arith, counted, arity-few vars bs p (node_of h.tree) (at-node vars bs h.tree p h.end h.at))

  -- any tree at p has its children there, and as many
  module _ (p k n : ℕ) (next : k ≡ node_end vars bs p) (many : n ≡ arity (node_read vars bs p)) (e : Expr) (q : ℕ) (h : At e vars bs p q) where
    pub children-at : AllAt (children_of e) vars bs k q
    children-at = rw next (at-children vars bs e p q h)

    pub children-counted : branch_count (children_of e) ≡ n
    children-counted = children-many e ∙ sym (many ∙ ap arity (at_read vars bs e p q h))

  -- ---- so many trees

  pub none_left : (es : Exprs) (p q n : ℕ) → n < 1 → AllAt es vars bs p q → branch_count es ≡ n → p ≡ q
  none_left es p q n l h m = (all_at-none vars bs es p q h (omega arith)).end

  pub one_more : (es : Exprs) (p q n : ℕ) → 1 ≤ n → AllAt es vars bs p q → branch_count es ≡ n → MoreAt es vars bs p q (n - 1)
  one_more es p q n l h m = all_at-more vars bs es p q (n - 1) h (omega arith)

  -- a tree stands at p, and n others from where it ends
  pub record FirstAndRest (p left n : ℕ) : Type 0 where
    pub tree : Expr
    pub end : ℕ
    pub at : At tree vars bs p end
    pub rest : StandingAll vars bs end left n

  module _ (p left n : ℕ) (some : 1 ≤ n) (h : StandingAll vars bs p left n) where
    split : MoreAt h.trees vars bs p h.end (n - 1)
    split = one_more h.trees p h.end n some h.at h.many

    counts : node_counts h.trees ≡ node_count split.first + node_counts split.rest
    unfolding node_counts
    counts = ap node_counts split.is

    pub first-standing : Standing vars bs p left
    first-standing = record { tree = split.first; end = split.middle; at = split.before; few = omega (arith, counts, h.few); most = h.most }

    pub first-and-rest : FirstAndRest p left (n - 1)
    first-and-rest = record {
      tree = split.first;
      end = split.middle;
      at = split.before;
      rest = record { trees = split.rest; end = h.end; at = split.after; few = omega (arith, counts, h.few); most = h.most; many = split.many };
    }

    -- the rest stand where the first ends
    pub rest-standing : (r : ℕ) → EndsAt vars bs p r → StandingAll vars bs r left (n - 1)
    rest-standing r ends =
        let f = first-and-rest in
        rw (ends f.tree f.end f.at) f.rest

    -- there are no more trees than nodes
    pub trees-few : n ≤ left
    trees-few = omega (arith, h.few, h.many, count-nodes h.trees)

  -- ---- where trees end

  -- a tree where its node's children end
  pub node-ends : (p k n r : ℕ) → k ≡ node_end vars bs p → n ≡ arity (node_read vars bs p) → AllEnd vars bs k n r → EndsAt vars bs p r
  node-ends p k n r next many t e q h = t (children_of e) q (children-at p k n next many e q h) (children-counted p k n next many e q h)

  pub none-ends : (p n : ℕ) → n < 1 → AllEnd vars bs p n p
  none-ends p n l es q h m = none_left es p q n l h m

  pub more-ends : (p n next r : ℕ) → 1 ≤ n → EndsAt vars bs p next → AllEnd vars bs next (n - 1) r → AllEnd vars bs p n r
  more-ends p n next r some first rest es q h m =
      let x = one_more es p q n some h m in
      rest x.rest q (rw (first x.first x.middle x.before) x.after) x.many

  -- ---- past a node

  pub one-ends : (p r : ℕ) → AllEnd vars bs p 1 r → EndsAt vars bs p r
  unfolding At
  one-ends p r t e q h = t (more e none) q (record { middle = q; before = h; after = refl }) refl

  -- of n trees, after the first node, which ends at k, its c children and the other trees
  module _ (p k n c : ℕ) (some : 1 ≤ n) (next : k ≡ node_end vars bs p) (many : c ≡ arity (node_read vars bs p)) where
    module _ (es : Exprs) (q : ℕ) (h : AllAt es vars bs p q) (m : branch_count es ≡ n) where
      head : MoreAt es vars bs p q (n - 1)
      head = one_more es p q n some h m

      abbrev opened : Exprs
      opened = followed (children_of head.first) head.rest

      opened-at : AllAt opened vars bs k q
      opened-at =
          let below = children-at p k c next many head.first head.middle head.before in
          followed-at vars bs (children_of head.first) head.rest k head.middle q below head.after

      opened-many : branch_count opened ≡ n - 1 + c
      opened-many =
          let below = children-counted p k c next many head.first head.middle head.before in
          omega (arith, followed-count (children_of head.first) head.rest, below, head.many)

      opened-nodes : node_counts opened ≤ node_counts es
      unfolding node_counts
      opened-nodes =
          let all : node_counts es ≡ node_count head.first + node_counts head.rest = ap node_counts head.is in
          omega (arith, followed-nodes (children_of head.first) head.rest, children-count head.first)

    pub past-standing : (left : ℕ) → StandingAll vars bs p left n → StandingAll vars bs k left (n - 1 + c)
    past-standing left h =
        let es = h.trees in
        record {
          trees = opened es h.end h.at h.many;
          end = h.end;
          at = opened-at es h.end h.at h.many;
          few = omega (arith, opened-nodes es h.end h.at h.many, h.few);
          most = h.most;
          many = opened-many es h.end h.at h.many;
        }

    pub past-ends : (r : ℕ) → AllEnd vars bs k (n - 1 + c) r → AllEnd vars bs p n r
    past-ends r t es q h m = t (opened es q h m) q (opened-at es q h m) (opened-many es q h m)
