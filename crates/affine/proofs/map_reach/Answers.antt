-- `map_reach` meets its contract. Assumes nothing.
use Rattle.std.proofs.Common.{◌≡◌, arith}
use Rattle.affine.proofs.Meaning.{neat-line}
use Rattle.affine.proofs.Bounds.{map_reach-neat, map_reach-drop}
use Rattle.affine.proofs.map_reach.Goals as goal

pub returns-in_err-row_reach : goal.returns-in_err-row_reach
returns-in_err-row_reach c =
    let m = c.args.m in
    let row = c.row_reach.ensures m.width (neat-line m c.requires.0 c.loop-r.r-index) in
    let step = map_reach-drop c.args.reach m c.loop-r.r-index c.loop-r-test.true in
    rw (← map_reach-neat c.args.reach m c.requires.0) (grind (arith, row, step))

pub loop-r-preserved : goal.loop-r-preserved
loop-r-preserved c =
    let m = c.args.m in
    let row = c.row_reach.ensures m.width (neat-line m c.requires.0 c.loop-r.r-index) in
    let step = map_reach-drop c.args.reach m c.loop-r.r-index c.loop-r-test.true in
    (grind (arith, row, step), grind arith, grind (arith, row))

pub returns : goal.returns
returns c =
    let end : c.loop-r.r-index ≡ 4 = grind arith in
    let whole = rw end at c.loop-r.invariant.0 in
    rw (← map_reach-neat c.args.reach c.args.m c.requires.0) (grind (arith, whole))
