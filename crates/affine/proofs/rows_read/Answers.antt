-- `rows_read` meets its contract. Assumes nothing.
use Rattle.std.proofs.Common.{rules}
use Rattle.affine.proofs.Fetched.{rows_are}
use Rattle.affine.proofs.rows_read.Goals as goal

pub returns : goal.returns
returns c =
    let r = c.four.ensures in
    rw r.are (rows_are c.args.b.now c.args.p c.args.k c.args.n c.requires.0 c.requires.1 (search rules) (search rules) (search rules) (search rules))
