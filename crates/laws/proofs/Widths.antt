-- A tree that stands in the bytes has rows as wide as they should be. Assumes nothing.
use mathlib.Core.Path.{◌≡◌}
use Prim.Native.Nat.{ℕ, suc, ◌<◌}
use native.Mathlib.Omega.{arith}
use mathlib.Core.List.{List, [], ◌∷◌}
use lib.ListN.{length, get_or}
use lib.IntN.{pos}
use Rattle.alpha.specs.Sheet.{Relation, Row, Constraint, Expr, Exprs, Node.n_restr, Node.n_dep}
use Rattle.alpha.specs.Sheet.{Expr.var, Expr.int, Expr.boo, Expr.un, Expr.bin, Expr.ite, Expr.kase, Expr.restr, Expr.dep, Exprs.none, Exprs.more}
use Rattle.laws.specs.At.{At, AllAt}
use Rattle.laws.specs.Wide.{RowsWide, ConstraintsWide, Wide, AllWide}
use Rattle.laws.proofs.Nodes.{node_at, restr-constraint, dep-row}

rows-by-item : (n : ℕ) (ws : List Row) (d : Row) → ((i : ℕ) → i < length ws → length (get_or ws i d).coefs ≡ n) → RowsWide n ws
rows-by-item n [] d h = tt
rows-by-item n (w ∷ ws) d h = (h 0 (omega arith), rows-by-item n ws d (λ i lt. h (suc i) (omega arith)))

constraints-by-item : (n : ℕ) (cs : List Constraint) (d : Constraint) → ((i : ℕ) → i < length cs → length (get_or cs i d).row.coefs ≡ n) → ConstraintsWide n cs
constraints-by-item n [] d h = tt
constraints-by-item n (c ∷ cs) d h = (h 0 (omega arith), constraints-by-item n cs d (λ i lt. h (suc i) (omega arith)))

no_row : Row
no_row = record { coefs = []; const = pos 0 }

module _ (vars : ℕ) (bs : List ℕ) where
  mutual
    unfolding At Wide

    pub at_wide : (e : Expr) (p q : ℕ) → At e vars bs p q → Wide e
    at_wide (var v) p q h = tt
    at_wide (int c) p q h = tt
    at_wide (boo b) p q h = tt
    at_wide (un o a) p q h = at_wide a h.next q h.below
    at_wide (bin o a b) p q h = let g = h.below in (at_wide a h.next g.middle g.before, at_wide b g.middle q g.after)
    at_wide (ite a b c) p q h =
        let g = h.below in
        let f = g.after in
        (at_wide a h.next g.middle g.before, at_wide b g.middle f.middle f.before, at_wide c f.middle q f.after)
    at_wide (kase es) p q h = all_at-wide es h.next q h.below
    at_wide (restr d cs a) p q h =
        let k = (node_at vars bs p (n_restr d cs) h.next h.here).fields in
        let no-constraint : Constraint = record { rel = Relation.at_least; row = no_row } in
        (constraints-by-item d cs no-constraint (λ i lt. (restr-constraint k i lt no-constraint).stands.width), at_wide a h.next q h.below)
    at_wide (dep f a) p q h =
        let k = (node_at vars bs p (n_dep f) h.next h.here).fields in
        (rows-by-item f.cols f.rows no_row (λ i lt. (dep-row k i lt no_row).width), at_wide a h.next q h.below)

    pub all_at-wide : (es : Exprs) (p q : ℕ) → AllAt es vars bs p q → AllWide es
    all_at-wide none p q h = tt
    all_at-wide (more e es) p q h = (at_wide e p h.middle h.before, all_at-wide es h.middle q h.after)
