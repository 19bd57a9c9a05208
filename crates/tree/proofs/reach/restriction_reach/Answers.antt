-- `tree::restriction_reach` meets its contract: by the constraints that stand there. Assumes nothing.
use mathlib.Core.Path.{◌≡◌, refl, sym, ◌∙◌}
use Prim.Native.Nat.{ℕ, ◌+◌}
use native.Mathlib.Omega.{arith}
use mathlib.Core.Bool.{Bool, true, false}
use Rattle.std.specs.Bool.{then_some}
use lib.IntN.{nat_abs}
use Rattle.alpha.specs.Field.{field}
use Rattle.tree.specs.Bounding.{constraints_reach, reached_at}
use Rattle.tree.proofs.Classes.{restriction-fields}
use Rattle.tree.proofs.Reaching.{constraints-there, restriction-reaches}
use Rattle.tree.proofs.reach.restriction_reach.Goals.{After-constraints_within}
use Rattle.tree.proofs.reach.restriction_reach.Goals as goal

-- what was found of the constraints, by their fields
found : (c : After-constraints_within) → constraints_reach c.args.around
    (nat_abs (field c.args.s.now (c.args.at + 8)))
    (nat_abs (field c.args.s.now (c.args.at + 16)))
    c.args.s.now (c.args.at + 24)
    ≡ c.constraints_within.result
found c =
    let many = c.natural.ensures in
    let dim = c.natural-2.ensures in
    rw (← many, ← dim) (sym c.constraints_within.ensures)

pub overflow_add-at : goal.overflow_add-at
overflow_add-at c = omega (arith, (restriction-fields _ _ c.requires.0).there)

pub overflow_add-at-2 : goal.overflow_add-at-2
overflow_add-at-2 c = omega (arith, (restriction-fields _ _ c.requires.0).there)

pub natural-requires : goal.natural-requires
natural-requires c = omega (arith, (restriction-fields _ _ c.requires.0).there)

pub overflow_add-at-3 : goal.overflow_add-at-3
overflow_add-at-3 c = omega (arith, (restriction-fields _ _ c.requires.0).there)

pub natural-requires-2 : goal.natural-requires-2
natural-requires-2 c = omega (arith, (restriction-fields _ _ c.requires.0).there)

pub constraints_within-requires : goal.constraints_within-requires
constraints_within-requires c =
    let many = c.natural.ensures in
    let dim = c.natural-2.ensures in
    let few = (restriction-fields _ _ c.requires.0).dim in
    (record { few = omega (arith, few); there = rw (many, dim) (constraints-there _ _ c.args.around c.requires.0) }, c.requires.1)

-- `then_some` answers as the test says
as_tested : (b : Bool) (n : ℕ) → then_some b n ≡ reached_at b n
as_tested true n = refl
as_tested false n = refl

pub returns : goal.returns
returns c =
    let says = restriction-reaches _ _ c.args.around c.requires.0 _ (found (goal.at.returns c).After-constraints_within) in
    c.then_some.ensures ∙ as_tested c.constraints_within.result c.args.around ∙ says
