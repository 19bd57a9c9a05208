-- `row_reach` meets its contract. Assumes nothing.
use Rattle.std.proofs.Common.{arith}
use Rattle.std.proofs.lemmas.Int.{to_z-of_z}
use Rattle.affine.proofs.Told.{past-scaled}
use Rattle.affine.proofs.Several.{row_reach-neat}
use Rattle.affine.proofs.row_reach.Goals as goal

pub returns-in_err-spread : goal.returns-in_err-spread
returns-in_err-spread c =
    λ n h. rw (← row_reach-neat n c.args.r h c.args.reach) (grind (arith, past-scaled))

pub returns-in_err-scaled : goal.returns-in_err-scaled
returns-in_err-scaled c =
    λ n h. rw (← row_reach-neat n c.args.r h c.args.reach) (grind arith)

pub returns : goal.returns
returns c =
    λ n h. rw (← row_reach-neat n c.args.r h c.args.reach) (grind (arith, to_z-of_z))
