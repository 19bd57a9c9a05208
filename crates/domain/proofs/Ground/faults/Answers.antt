-- `domain::Ground::faults` meets its contract. The loop's invariant: the elements of the variables from v on decide. Assumes nothing.
use Prim.Native.Nat.{◌<◌}
use native.Mathlib.Omega.{arith}
use lib.ListN.{length}
use Rattle.std.proofs.lemmas.Result.{err_from_is_err_and}
use Rattle.laws.specs.Sheets.{sheet_of}
use Rattle.domain.proofs.Checking.{all_end, all-fail, all_pass}
use Rattle.domain.proofs.Ground.faults.Goals.{In-loop-v}
use Rattle.domain.proofs.Ground.faults.Goals as goal

-- the variable is one of the sheet's
low : (c : In-loop-v) → c.loop-v.v < length (sheet_of c.args.self.now.sheet.now)
low c =
    omega (arith, c.variable_count-v-end.ensures, c.requires.placed.prepared.table.variables, c.requires.placed.many, c.loop-v-test.true)

pub returns-in_err-variable_faults : goal.returns-in_err-variable_faults
returns-in_err-variable_faults c =
    let p = err_from_is_err_and c.from_residual.result c.from_residual.ensures.1 in
    rw (p.1, p.2)
    (all-fail _ _ c.loop-v.invariant (low (goal.at.returns-in_err-variable_faults c).In-loop-v) _ _ c.in_err-variable_faults.ensures)

pub loop-v-preserved : goal.loop-v-preserved
loop-v-preserved c =
    all_pass _ _ c.loop-v.invariant (low (goal.at.loop-v-preserved c).In-loop-v) c.in_ok-variable_faults.ensures

pub returns : goal.returns
returns c =
    let placed = c.requires.placed in
    all_end _ _ c.loop-v.invariant
    (omega (arith, c.variable_count-v-end.ensures, placed.prepared.table.variables, placed.many, c.loop-v-test.false))
