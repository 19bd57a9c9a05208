-- `apply` meets its contract: each coordinate is a row at the point, and 0 past the rows. Assumes nothing.
use Rattle.std.proofs.Common.{rules}
use Rattle.affine.proofs.Meaning.{image-is}
use Rattle.affine.proofs.apply.Goals as goal

pub returns : goal.returns
returns c =
    let y = c.four.ensures in
    rw y.are (image-is c.args.m c.args.p y.first y.second y.third y.fourth c.requires.0 (search rules) (search rules) (search rules) (search rules))
