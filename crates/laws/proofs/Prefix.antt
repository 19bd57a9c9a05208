-- A tree's nodes in prefix order stand one after another where the tree stands. Assumes nothing.
use mathlib.Core.Path.{◌≡◌, refl, ap}
use Prim.Native.Nat.{ℕ, suc}
use native.Mathlib.Omega.{arith}
use mathlib.Core.List.{List, [], ◌∷◌, ◌++◌}
use lib.ListN.{length, length-append}
use Rattle.alpha.specs.Sheet.{Node, Expr, Exprs}
use Rattle.alpha.specs.Sheet.{Node.n_var, Node.n_int, Node.n_bool, Node.n_unary, Node.n_binary, Node.n_if, Node.n_case, Node.n_restr, Node.n_dep}
use Rattle.alpha.specs.Sheet.{Expr.var, Expr.int, Expr.boo, Expr.un, Expr.bin, Expr.ite, Expr.kase, Expr.restr, Expr.dep, Exprs.none, Exprs.more}
use Rattle.alpha.specs.Read.{got, Reader, repeat, node}
use Rattle.alpha.specs.Written.{branch_count, node_count, node_counts}
use Rattle.laws.specs.At.{At, AllAt}
use Rattle.laws.specs.Heads.{InRow}

-- ---- rows of items

module _ {A : Type 0} (r : Reader A) (bs : List ℕ) where
  pub row-append : (l k : List A) (p m q : ℕ) → InRow l r bs p m → InRow k r bs m q → InRow (l ++ k) r bs p q
  unfolding InRow
  row-append [] k p m q h g = rw h g
  row-append (a ∷ l) k p m q h g = record { next = h.next; here = h.here; after = row-append l k h.next m q h.after g }

  pub row-repeat : (l : List A) (p q : ℕ) → InRow l r bs p q → repeat (length l) r bs p ≡ got l q
  unfolding InRow
  row-repeat [] p q h = ap (got []) h
  row-repeat (a ∷ l) p q h = rw (h.here, row-repeat l h.next q h.after)

-- ---- the nodes of a tree

unfoldable mutual
  pub prefix : Expr → List Node
  prefix (var v) = n_var v ∷ []
  prefix (int c) = n_int c ∷ []
  prefix (boo b) = n_bool b ∷ []
  prefix (un o a) = n_unary o ∷ prefix a
  prefix (bin o a b) = n_binary o ∷ (prefix a ++ prefix b)
  prefix (ite a b c) = n_if ∷ (prefix a ++ (prefix b ++ prefix c))
  prefix (kase es) = n_case (branch_count es) ∷ prefixes es
  prefix (restr d cs a) = n_restr d cs ∷ prefix a
  prefix (dep f a) = n_dep f ∷ prefix a

  pub prefixes : Exprs → List Node
  prefixes none = []
  prefixes (more e es) = prefix e ++ prefixes es

mutual
  unfolding prefix node_count

  pub length-prefix : (e : Expr) → length (prefix e) ≡ node_count e
  length-prefix (var v) = refl
  length-prefix (int c) = refl
  length-prefix (boo b) = refl
  length-prefix (un o a) = ap suc (length-prefix a)
  length-prefix (bin o a b) = omega (arith, length-append (prefix a) (prefix b), length-prefix a, length-prefix b)
  length-prefix (ite a b c) =
      omega (arith, length-append (prefix a) (prefix b ++ prefix c), length-append (prefix b) (prefix c), length-prefix a, length-prefix b, length-prefix c)
  length-prefix (kase es) = ap suc (length-prefixes es)
  length-prefix (restr d cs a) = ap suc (length-prefix a)
  length-prefix (dep f a) = ap suc (length-prefix a)

  pub length-prefixes : (es : Exprs) → length (prefixes es) ≡ node_counts es
  length-prefixes none = refl
  length-prefixes (more e es) = omega (arith, length-append (prefix e) (prefixes es), length-prefix e, length-prefixes es)

module _ (vars : ℕ) (bs : List ℕ) where
  mutual
    unfolding At prefix InRow

    pub at_row : (e : Expr) (p q : ℕ) → At e vars bs p q → InRow (prefix e) (node vars) bs p q
    at_row (var v) p q h = record { next = q; here = h; after = refl }
    at_row (int c) p q h = record { next = q; here = h; after = refl }
    at_row (boo b) p q h = record { next = q; here = h; after = refl }
    at_row (un o a) p q h = record { next = h.next; here = h.here; after = at_row a h.next q h.below }
    at_row (bin o a b) p q h =
        let g = h.below in
        record {
          next = h.next;
          here = h.here;
          after = row-append (node vars) bs (prefix a) (prefix b) h.next g.middle q (at_row a h.next g.middle g.before) (at_row b g.middle q g.after);
        }
    at_row (ite a b c) p q h =
        let g = h.below in
        let f = g.after in
        let rest = row-append (node vars) bs (prefix b) (prefix c) g.middle f.middle q (at_row b g.middle f.middle f.before) (at_row c f.middle q f.after) in
        record {
          next = h.next;
          here = h.here;
          after = row-append (node vars) bs (prefix a) (prefix b ++ prefix c) h.next g.middle q (at_row a h.next g.middle g.before) rest;
        }
    at_row (kase es) p q h = record { next = h.next; here = h.here; after = all_at-row es h.next q h.below }
    at_row (restr d cs a) p q h = record { next = h.next; here = h.here; after = at_row a h.next q h.below }
    at_row (dep f a) p q h = record { next = h.next; here = h.here; after = at_row a h.next q h.below }

    pub all_at-row : (es : Exprs) (p q : ℕ) → AllAt es vars bs p q → InRow (prefixes es) (node vars) bs p q
    all_at-row none p q h = h
    all_at-row (more e es) p q h =
        row-append (node vars) bs (prefix e) (prefixes es) p h.middle q (at_row e p h.middle h.before) (all_at-row es h.middle q h.after)
