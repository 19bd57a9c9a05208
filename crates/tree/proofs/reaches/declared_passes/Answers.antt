-- `tree::declared_passes` meets its contract: a constraint of another variable, or its row. Assumes nothing.
use mathlib.Core.Path.{◌≡◌, sym, ap, ◌∙◌}
use Prim.Native.Nat.{◌+◌}
use native.Mathlib.Omega.{arith}
use lib.IntN.{nat_abs}
use lib.Dec.{leb}
use Rattle.alpha.specs.Field.{field}
use Rattle.alpha.specs.Read.{dimension}
use Rattle.alpha.specs.Reach.{limit, top_reach, row_reach}
use Rattle.affine.specs.Reading.{row_fields}
use Rattle.laws.specs.Sheets.{heads_of}
use Rattle.tree.proofs.Declaring.{who-there, who-known, declared-there, other-passes, own-passes}
use Rattle.tree.proofs.reaches.declared_passes.Goals.{After-dimension_of}
use Rattle.tree.proofs.reaches.declared_passes.Goals as goal

-- the dimension of the constraint's variable
dimension-is : (c : After-dimension_of) → c.dimension_of.result
    ≡ dimension (heads_of c.args.s.now)
    (nat_abs (field c.args.s.now c.args.at))
dimension-is c =
    let bs = c.args.s.now in
    c.dimension_of.ensures.0 ∙ ap (dimension (heads_of bs)) c.natural-who.ensures

pub natural-who-requires : goal.natural-who-requires
natural-who-requires c = who-there _ _ c.requires.0 _ c.requires.1

pub returns-then-who-v : goal.returns-then-who-v
returns-then-who-v c =
    let is = c.natural-who.ensures in
    λ d q e. other-passes _ _ _ d q e (λ x. c.if-who-v.true (is ∙ x))

pub overflow_add-at : goal.overflow_add-at
overflow_add-at c = omega (arith, declared-there _ _ c.requires.0 _ c.requires.1)

pub dimension_of-requires : goal.dimension_of-requires
dimension_of-requires c =
    (c.requires.0, omega (arith, who-known _ _ c.requires.0 _ c.requires.1, c.natural-who.ensures))

pub row_within-requires : goal.row_within-requires
row_within-requires c =
    let there = declared-there _ _ c.requires.0 _ c.requires.1 in
    (record { few = c.dimension_of.ensures.1; there = omega (arith, dimension-is (goal.at.row_within-requires c).After-dimension_of) }, omega arith)

pub returns : goal.returns
returns c =
    let s = c.args in
    let is = c.natural-who.ensures in
    λ d q e.
    c.row_within.ensures ∙ ap (λ n. leb (row_reach top_reach (row_fields n s.s.now (s.at + 16))) limit) (dimension-is (goal.at.returns c).After-dimension_of)
    ∙ own-passes _ _ _ d q e (sym is ∙ c.if-who-v.false)
