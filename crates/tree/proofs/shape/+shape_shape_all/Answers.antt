-- `tree::shape` and `tree::shape_all` meet their contracts: a tree is judged by its node and then by its children. Assumes nothing.
use Prim.Native.Nat.{ℕ, ◌+◌, ◌-◌}
use mathlib.Core.Path.{◌≡◌, sym, ap, ◌∙◌}
use native.Mathlib.Omega.{arith}
use Rattle.tree.specs.Judged.{trees_judged}
use Rattle.tree.proofs.Judging.{FirstOf, flat-first, tree-no-nodes, tree-no-depth, tree-misfit}
use Rattle.tree.proofs.Judging.{tree-goes, trees-none, trees-bad, trees-go, bad-judges, fits-judges}
use Rattle.tree.proofs.shape.+shape_shape_all.Goals.{shape-After-fits_here, shape-then-from-eq0-via-then-from-eq0}
use Rattle.tree.proofs.shape.+shape_shape_all.Goals.{shape-then-from-eq0-via-else-from-eq0+then-deep-eq0}
use Rattle.tree.proofs.shape.+shape_shape_all.Goals as goal

-- the first node, and the others after it
the-first : (t : ℕ) (c : shape-After-fits_here t) → FirstOf c.args.s.now c.args.from.next c.args.from.left
the-first t c = flat-first _ _ _ (omega arith) c.requires.flat

pub shape-returns-then-from-eq0 : goal.shape-returns-then-from-eq0
shape-returns-then-from-eq0 t c =
    elim c.then-from-eq0.branch [
      | shape-then-from-eq0-via-then-from-eq0 w ↦ bad-judges _ _ (tree-no-nodes _ _ _ _ w.if-from-eq0.true)
      | shape-then-from-eq0-via-else-from-eq0+then-deep-eq0 w ↦ bad-judges _ _ (tree-no-depth _ _ _ _ w.if-deep-eq0.true)
    ]

pub shape-fits_here-requires : goal.shape-fits_here-requires
shape-fits_here-requires t c = (c.requires.prepared, (flat-first _ _ _ (omega arith) c.requires.flat).noded)

pub shape-returns-then-not-fits_here : goal.shape-returns-then-not-fits_here
shape-returns-then-not-fits_here t c =
    let noded = (the-first t (goal.at.shape-returns-then-not-fits_here t c).After-fits_here).noded in
    bad-judges _ _ (tree-misfit _ _ _ _ (omega arith) (omega arith) noded (sym c.fits_here.ensures ∙ c.if-not-fits_here.true))

pub shape-wanted_below-below-requires : goal.shape-wanted_below-below-requires
shape-wanted_below-below-requires t c =
    ((the-first t (goal.at.shape-wanted_below-below-requires t c).After-fits_here).noded, c.requires.narrow)

pub shape-children-many-requires : goal.shape-children-many-requires
shape-children-many-requires t c = (the-first t (goal.at.shape-children-many-requires t c).After-fits_here).noded

pub shape-node_end-requires : goal.shape-node_end-requires
shape-node_end-requires t c = (the-first t (goal.at.shape-node_end-requires t c).After-fits_here).noded

pub shape-shape_all-requires : goal.shape-shape_all-requires
shape-shape_all-requires t c =
    let first = the-first t (goal.at.shape-shape_all-requires t c).After-fits_here in
    let is = c.decreases in (
      omega arith,
      record {
        prepared = c.requires.prepared;
        flat = rw c.node_end.ensures first.rest;
        shallow = omega (arith, c.requires.shallow);
        narrow = c.wanted_below-below.ensures.1;
      },
    )

pub shape-returns : goal.shape-returns
shape-returns t c =
    let noded = (the-first t (goal.at.shape-returns t c).After-fits_here).noded in
    let here = sym c.fits_here.ensures ∙ c.if-not-fits_here.false in
    let next = c.node_end.ensures in
    let below = c.wanted_below-below.ensures.0 in
    let many = c.children-many.ensures in
    let all = c.shape_all.ensures in
    record {
      is = all.is ∙ rw (next, below, many) (tree-goes _ _ _ _ (omega arith) (omega arith) noded here);
      flat = all.flat;
    }

pub shape_all-returns-in_err-rest : goal.shape_all-returns-in_err-rest
shape_all-returns-in_err-rest t c =
    let none = c.from_residual.ensures in
    let bad = sym c.in_err-rest.was ∙ c.shape.ensures.is in
    rw none (bad-judges _ _ (trees-bad _ _ _ _ _ (omega arith) bad ∙ c.loop.invariant.judged))

pub shape_all-loop-preserved : goal.shape_all-loop-preserved
shape_all-loop-preserved t c =
    let first = c.shape.ensures in
    let fits = c.in_ok-rest.was in
    let s = c.args in
    let less : s.count - (c.loop.counter + 1) ≡ s.count - c.loop.counter - 1 = omega arith in
    record {
      judged = ap (trees_judged s.s.now _ s.deep s.want) less ∙ trees-go _ _ _ _ _ (omega arith) _ (sym fits ∙ first.is) ∙ c.loop.invariant.judged;
      flat = first.flat _ fits;
    }

pub shape_all-returns : goal.shape_all-returns
shape_all-returns t c =
    let loop = c.loop.invariant in
    fits-judges _ _ _ (trees-none _ _ _ _ _ (omega arith) ∙ loop.judged) loop.flat
