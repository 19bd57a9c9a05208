-- `run::entries` meets its contract. The loop's invariant: the variables from v on decide. Assumes nothing.
use mathlib.Core.Path.{◌≡◌, sym, ◌∙◌}
use Prim.Native.Nat.{◌<◌}
use native.Mathlib.Omega.{arith}
use lib.ListN.{length}
use Rattle.laws.specs.Sheets.{vars_of, sheet_of}
use Rattle.std.proofs.lemmas.Result.{err_from_is_err_and}
use Rattle.domain.proofs.Records.{laid-length}
use Rattle.run.proofs.Listing.{entries-fail, entries-on, entries-end}
use Rattle.run.proofs.inputs.entries.Goals.{After-variable_count-v-end, In-loop-v}
use Rattle.run.proofs.inputs.entries.Goals as goal

-- the table says how many variables the sheet has
count-is : (c : After-variable_count-v-end) → c.variable_count-v-end.result ≡ vars_of c.args.ground.now.sheet.now
count-is c = c.variable_count-v-end.ensures ∙ c.requires.0.placed.prepared.table.variables

-- the next variable
known : (c : In-loop-v) → c.variable_count-v-end.result ≡ vars_of c.args.ground.now.sheet.now → c.loop-v.v < length (sheet_of c.args.ground.now.sheet.now)
known c count = omega (arith, c.loop-v-test.true, count, laid-length _ _ c.requires.0.placed)

pub returns-in_err-entries_of : goal.returns-in_err-entries_of
returns-in_err-entries_of c =
    let way = goal.at.returns-in_err-entries_of c in
    let back = err_from_is_err_and c.from_residual.result c.from_residual.ensures.1 in
    rw (back.1, back.2) (entries-fail _ _ _ (known way.In-loop-v (count-is way.After-variable_count-v-end)) c.loop-v.invariant _ c.in_err-entries_of.ensures)

pub loop-v-preserved : goal.loop-v-preserved
loop-v-preserved c =
    let way = goal.at.loop-v-preserved c in
    entries-on _ _ _ (known way.In-loop-v (count-is way.After-variable_count-v-end)) c.loop-v.invariant (sym c.in_ok-entries_of.ensures)

pub returns : goal.returns
returns c =
    let count = count-is (goal.at.returns c).After-variable_count-v-end in
    entries-end _ _ c.loop-v.v (omega (arith, count, c.loop-v-test.false, laid-length _ _ c.requires.0.placed)) c.loop-v.invariant
