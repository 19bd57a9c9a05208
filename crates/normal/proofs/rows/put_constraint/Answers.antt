-- `normal::put_constraint` meets its contract: its relation, then its row after the map. Assumes nothing.
use Rattle.normal.proofs.Composed.{constraint-fits, constraint-laid}
use Rattle.normal.proofs.rows.put_constraint.Goals as goal

pub row_after-row-requires : goal.row_after-row-requires
row_after-row-requires c =
    let read = c.row_read-given.ensures in
    (c.requires.neat, rw (← c.requires.dims) read.1.rest, constraint-fits _ _ _ _ c.requires.composable c.requires.neat c.requires.dims _ read)

pub returns : goal.returns
returns c =
    let read = c.row_read-given.ensures in
    let relation = c.natural-relation in
    let after = c.row_after-row in
    constraint-laid _ _ _ c.args.m.now c.requires.composable c.requires.neat c.requires.dims _ read c.args.out.now c.args.to relation.result after.result
    relation.ensures after.ensures.is c.put_nat.ensures c.put_row.ensures
