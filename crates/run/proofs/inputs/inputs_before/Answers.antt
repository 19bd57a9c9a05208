-- `run::inputs_before` meets its contract. The loop's invariant: the sum so far is that of the variables before k. The measure is how many
-- are left. Assumes nothing.
use mathlib.Core.Path.{◌≡◌}
use Prim.Native.Nat.{suc, ◌+◌, ◌≤◌}
use native.Mathlib.Omega.{arith}
use Rattle.alpha.specs.Outcome.{inputs_before}
use Rattle.laws.specs.Sheets.{sheet_of}
use Rattle.domain.proofs.Records.{laid-length, laid-total}
use Rattle.run.proofs.Listing.{before-step, before-count, count-total}
use Rattle.run.proofs.inputs.inputs_before.Goals.{After-input_size-n}
use Rattle.run.proofs.inputs.inputs_before.Goals as goal

-- the sum with one variable more
step : (c : After-input_size-n) → c.loop-k.n + c.input_size-n.result ≡ inputs_before (sheet_of c.args.ground.now.sheet.now)
    (c.loop-k.k + 1)
step c =
    let low = laid-length _ _ c.requires.0.placed in
    let one : c.loop-k.k + 1 ≡ suc c.loop-k.k = omega arith in
    rw one (omega (
      arith,
      c.loop-k.invariant.0,
      c.input_size-n.ensures,
      before-step (sheet_of c.args.ground.now.sheet.now) c.loop-k.k (omega (arith, c.requires.1, c.loop-k-test.true)),
    ))

-- it is small
few : (c : After-input_size-n) → inputs_before (sheet_of c.args.ground.now.sheet.now) (c.loop-k.k + 1) ≤ 4096
few c =
    omega (
      arith,
      before-count (sheet_of c.args.ground.now.sheet.now) (c.loop-k.k + 1),
      count-total (sheet_of c.args.ground.now.sheet.now),
      laid-total _ _ c.requires.0.placed,
    )

pub overflow_add-n : goal.overflow_add-n
overflow_add-n c =
    let t = few (goal.at.overflow_add-n c).After-input_size-n in omega (arith, step (goal.at.overflow_add-n c).After-input_size-n)

pub loop-k-preserved : goal.loop-k-preserved
loop-k-preserved c =
    (step (goal.at.loop-k-preserved c).After-input_size-n, omega (arith, c.loop-k-test.true))
