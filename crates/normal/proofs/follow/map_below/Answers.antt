-- `normal::map_below` meets its contract: the dependence's rows are read, and their map is composed with the one above. Assumes nothing.
use Rattle.affine.specs.Reading.{MapRead}
use Rattle.affine.proofs.Fetched.{rows-map}
use Rattle.normal.proofs.follow.map_below.Goals.{After-rows_read}
use Rattle.normal.proofs.follow.map_below.Goals as goal

-- the rows are the dependence's
read : (c : After-rows_read) → MapRead c.args.s.now c.args.p c.rows_read.result
read c = rows-map _ _ _ _ c.natural-n.ensures c.natural-k.ensures _ c.rows_read.ensures

pub compose-requires : goal.compose-requires
compose-requires c =
    let g = read (goal.at.compose-requires c).After-rows_read in
    (g.neat, c.requires.neat, c.requires.dims _ g, c.requires.fit _ g)

pub returns : goal.returns
returns c =
    let composed = c.compose.ensures in
    record {
      by = c.rows_read.result;
      read = read (goal.at.returns c).After-rows_read;
      is = composed.0;
      neat = composed.1;
      high = composed.2;
    }
