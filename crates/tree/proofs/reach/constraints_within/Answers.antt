-- `tree::constraints_within` meets its contract. The loop's invariant: those that are left are there and decide. Assumes nothing.
use mathlib.Core.Path.{sym, ◌∙◌}
use native.Mathlib.Omega.{arith}
use Rattle.tree.proofs.Reaching.{none-left-pass, first-fails, first_passes}
use Rattle.tree.proofs.reach.constraints_within.Goals as goal

pub returns-then-not-row_within : goal.returns-then-not-row_within
returns-then-not-row_within c =
    first-fails _ _ _ _ _ _ _ c.loop-i.invariant (omega arith) (sym c.row_within.ensures ∙ c.if-not-row_within.true)

pub loop-i-preserved : goal.loop-i-preserved
loop-i-preserved c =
    let passes = sym c.row_within.ensures ∙ c.if-not-row_within.false in
    first_passes _ _ _ _ _ _ _ c.loop-i.invariant (omega arith) _ _ (omega arith) (omega arith) passes

pub returns : goal.returns
returns c = none-left-pass _ _ _ _ _ _ _ c.loop-i.invariant (omega arith)
