-- `normal::put_map` meets its contract: the three numbers, then the rows. Assumes nothing.
use Rattle.normal.proofs.Composed.{map-laid}
use Rattle.normal.proofs.rows.put_map.Goals as goal

pub returns : goal.returns
returns c =
    map-laid c.args.out.now c.args.to c.args.m.now c.put_nat.ensures c.put_nat-2.ensures
    c.put_nat-3.ensures c.put_rows.ensures
