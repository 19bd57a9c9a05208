-- `normal::copy` meets its contract. The loop's invariant: the first i bytes are stored. Assumes nothing.
use mathlib.Core.Path.{ap, ◌∙◌}
use native.Mathlib.Omega.{arith}
use lib.ListN.{get_or, set}
use Rattle.normal.proofs.Laying.{copied_more}
use Rattle.normal.proofs.write.copy.Goals as goal

pub loop-i-preserved : goal.loop-i-preserved
loop-i-preserved c =
    let l = c.loop-i in
    ap (λ t. set t l.i (get_or c.args.s.now l.i 0)) l.invariant ∙ copied_more c.args.s.now c.args.out.now l.i (omega (arith, c.requires.0))
