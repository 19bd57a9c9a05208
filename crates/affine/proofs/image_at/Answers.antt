-- `image_at` meets its contract: the rows that the fields say are read, and the image is that by the map of them. Assumes nothing.
use Rattle.affine.proofs.Fetched.{rows-map}
use Rattle.affine.proofs.image_at.Goals as goal

pub apply-requires : goal.apply-requires
apply-requires c =
    let read = rows-map _ _ _ _ c.size_at-n.ensures c.size_at-k.ensures _ c.rows_read.ensures in
    (c.rows_read.ensures.1, c.requires.1 _ read)

pub returns : goal.returns
returns c =
    let read = rows-map _ _ _ _ c.size_at-n.ensures c.size_at-k.ensures _ c.rows_read.ensures in
    record { map = c.rows_read.result; read = read; is = c.apply.ensures.0; rest = c.apply.ensures.1 }
