-- `compose` meets its contract: each row is a row of the outer map after the inner. Assumes nothing.
use Rattle.std.proofs.Common.{refl, rules}
use Rattle.affine.proofs.Meaning.{compose-is}
use Rattle.affine.proofs.compose.Goals as goal

pub returns : goal.returns
returns c =
    let r = c.four.ensures in
    let both =
    compose-is c.args.outer c.args.inner c.requires.0 c.requires.1 c.requires.2 r.first r.second r.third r.fourth
    (search rules) (search rules) (search rules) (search rules) in
    rw r.are (both.0, both.1, refl, refl)
