-- `normal::plan` meets its contract: an input adds nothing, a body its own sizes. Assumes nothing.
use Prim.Native.Nat.{◌<◌}
use borrow.Author.Rules.{rules}
use native.Mathlib.Omega.{arith}
use Rattle.std.proofs.lemmas.Result.{err_from_is_err_and}
use Rattle.laws.specs.Sheets.{vars_of}
use Rattle.tree.proofs.Passing.{is-input, no_input}
use Rattle.normal.proofs.Plans.{plan-none, plan-input, plan-wide, plan-more}
use Rattle.normal.proofs.plan.plan.Goals.{In-loop-v, then-ne+in_ok-totals, else-ne}
use Rattle.normal.proofs.plan.plan.Goals as goal

-- there is such a variable
known : (c : In-loop-v) → c.loop-v.v < vars_of c.args.s.now
known c = omega (arith, c.loop-v-test.true, c.variable_count-v-end.ensures, c.requires.formed.placed.prepared.table.variables)

pub loop-v-init : goal.loop-v-init
loop-v-init c = (c.requires.nodes_low, c.requires.size_low, λ r h. h)

pub grow-requires : goal.grow-requires
grow-requires c =
    let formed = c.requires.formed in
    let lt = known (goal.at.grow-requires c).In-loop-v in
    record {
      formed = formed;
      known = lt;
      body = no_input _ _ formed.placed _ lt _ c.kind_of.ensures (search rules);
      nodes_low = c.loop-v.invariant.0;
      size_low = c.loop-v.invariant.1;
    }

pub returns-in_err-totals : goal.returns-in_err-totals
returns-in_err-totals c =
    let formed = c.requires.formed in
    let lt = known (goal.at.returns-in_err-totals c).In-loop-v in
    let body = no_input _ _ formed.placed _ lt _ c.kind_of.ensures (search rules) in
    let p = err_from_is_err_and c.from_residual.result c.from_residual.ensures.1 in
    rw (p.1, p.2) (c.loop-v.invariant.2 _ (plan-wide _ _ formed _ _ _ lt body _ c.in_err-totals.ensures))

pub loop-v-preserved : goal.loop-v-preserved
loop-v-preserved c =
    let formed = c.requires.formed in
    let inv = c.loop-v.invariant in
    let lt = known (goal.at.loop-v-preserved c).In-loop-v in
    let kind = c.kind_of.ensures in
    elim c.if-ne.branch [
      | then-ne+in_ok-totals w ↦
          let body = no_input _ _ formed.placed _ lt _ kind (search rules) in
          let grown = w.in_ok-totals.ensures in
          rw w.totals-is (grown.small.0, grown.small.1, λ r h. inv.2 r (plan-more _ _ formed _ _ _ lt body _ r grown h))
      | else-ne w ↦
          let input = is-input _ _ formed.placed _ lt _ kind (search rules) in
          rw w.totals-is (inv.0, inv.1, λ r h. inv.2 r (plan-input _ _ formed _ _ _ lt r input h))
    ]

pub returns : goal.returns
returns c =
    let formed = c.requires.formed in
    let inv = c.loop-v.invariant in
    inv.2 _ (plan-none _ _ formed _ _ _
    (omega (arith, c.loop-v-test.false, c.variable_count-v-end.ensures, formed.placed.prepared.table.variables))
    inv.0 inv.1)
