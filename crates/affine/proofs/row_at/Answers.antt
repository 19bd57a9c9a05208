-- `row_at` meets its contract. Assumes nothing.
use mathlib.Core.Path.{ap, ◌∙◌}
use native.Mathlib.Omega.{arith}
use lib.IntN.{◌+ℤ◌}
use Rattle.std.proofs.Common.{rules}
use Rattle.integer.proofs.Machine.{sum_is}
use Rattle.affine.proofs.Several.{row_at-neat}
use Rattle.affine.proofs.row_at.Goals as goal

pub returns : goal.returns
returns c =
    λ n h.
    sum_is c.dot.result c.args.r.constant (search rules) (search rules) (omega (arith, c.dot.ensures.1))
    ∙ ap (λ t. t +ℤ c.args.r.constant) c.dot.ensures.0 ∙ row_at-neat n c.args.r h c.args.p
