-- `repeat` meets its contract. The invariant: what the steps that are left answer, all of them answer. Assumes nothing.
use native.Mathlib.Omega.{arith}
use mathlib.Core.Path.{◌≡◌}
use Prim.Native.Nat.{◌+◌, ◌-◌}
use Rattle.std.proofs.lemmas.Result.{err_from_is_err_and}
use Rattle.sheet.proofs.Sequences.{repeated-refused, repeated-goes}
use Rattle.sheet.proofs.sequence.repeat.Goals as goal

pub returns-in_err-p : goal.returns-in_err-p
returns-in_err-p g c =
    let l = c.loop in
    let e = err_from_is_err_and c.from_residual.result c.from_residual.ensures.1 in
    rw (e.1, e.2) (l.invariant _ (repeated-refused _ _ _ _ (omega arith) c.in_err-p.ensures))

pub loop-preserved : goal.loop-preserved
loop-preserved g c = λ r left.
    let l = c.loop in
    let e : c.args.count - (l.counter + 1) ≡ c.args.count - l.counter - 1 = omega arith in
    l.invariant r (repeated-goes _ _ _ _ r (omega arith) c.in_ok-p.ensures (rw e at left))
