-- `points::digit` meets its contract: both numbers are small, so that their difference fits. Assumes nothing.
use Rattle.std.proofs.Common.{◌≡◌, ◌+◌, ap, true, arith, rules}
use Rattle.std.proofs.lemmas.Int.{ints, to_z-of_z}
use Rattle.alpha.specs.Field.{field}
use Rattle.alpha.specs.Box.{within}
use Rattle.integer.proofs.Machine.{difference-held, difference_is}
use Rattle.points.proofs.Ranges.{within-small, least-small}
use Rattle.points.proofs.digit.Goals as goal

pub overflow_sub-x : goal.overflow_sub-x
overflow_sub-x c =
    let s = c.args.s.now in
    let inside : within (field s c.args.p) (field s (c.args.p + 8)) c.args.x ≡ true = grind (arith, ints, to_z-of_z) in
    let small = within-small s c.args.p c.requires c.args.x inside in
    let least = least-small s c.args.p c.requires in
    difference-held c.args.x c.number_at-lo.result c.ranges.x (search rules) (grind arith)

pub returns-then-x-hi : goal.returns-then-x-hi
returns-then-x-hi c =
    let s = c.args.s.now in
    let inside : within (field s c.args.p) (field s (c.args.p + 8)) c.args.x ≡ true = grind (arith, ints, to_z-of_z) in
    let small = within-small s c.args.p c.requires c.args.x inside in
    let least = least-small s c.args.p c.requires in
    let exact = difference_is c.args.x c.number_at-lo.result c.ranges.x (search rules) (grind arith) in
    rw inside (grind (arith, exact))
