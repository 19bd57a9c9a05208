-- `row_read` meets its contract. Assumes nothing.
use Rattle.std.proofs.Common.{rules, w64}
use Rattle.std.proofs.lemmas.Int.{to_z-of_z}
use Rattle.affine.proofs.Fetched.{row_is}
use Rattle.affine.proofs.row_read.Goals as goal

pub returns : goal.returns
returns c =
    let y = c.four.ensures in
    rw (y.are, to_z-of_z w64 c.number_at.result (search rules)) (row_is c.args.b.now c.args.p c.args.n c.requires.0 y.first y.second y.third y.fourth c.number_at.result
    (search rules) (search rules) (search rules) (search rules) c.number_at.ensures)
