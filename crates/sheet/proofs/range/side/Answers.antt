-- `side` meets its contract: the ends are small, so that their difference fits. Assumes nothing.
use Rattle.std.proofs.Common.{arith, rules}
use Rattle.laws.proofs.Sizes.{nat_abs-sub}
use Rattle.integer.proofs.Machine.{difference-held, difference_is}
use Rattle.sheet.proofs.Boxes.{ends_small}
use Rattle.sheet.proofs.range.side.Goals as goal

pub overflow_sub-hi : goal.overflow_sub-hi
overflow_sub-hi c =
    let small = ends_small c.requires in
    difference-held c.number_at-hi.result c.number_at-lo.result (search rules) (search rules) (grind arith)

pub returns : goal.returns
returns c =
    let small = ends_small c.requires in
    let exact = difference_is c.number_at-hi.result c.number_at-lo.result (search rules) (search rules) (grind arith) in
    let size = nat_abs-sub c.number_at-hi.result c.number_at-lo.result in
    record { is = grind (arith, exact); small = grind (arith, exact) }
