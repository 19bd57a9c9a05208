-- `counted` meets its contract: the count was read where it stands. Assumes nothing.
use Rattle.sheet.proofs.Places.{count-came}
use Rattle.sheet.proofs.sequence.counted.Goals as goal

pub count_at-requires : goal.count_at-requires
count_at-requires g c = (count-came _ _ 0 c.args.most c.in_ok-p.ensures).there
