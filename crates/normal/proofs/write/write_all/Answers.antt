-- `normal::write_all` meets its contract: ROOM, or the copied sections, the node count and the bodies. Assumes nothing.
use native.Mathlib.Omega.{arith}
use Rattle.std.proofs.lemmas.List.{length-take}
use Rattle.normal.proofs.Normalising.{writes-all, room-refuses, copied-long, lent-long, counted-room, written_all}
use Rattle.normal.proofs.write.write_all.Goals as goal

pub returns : goal.returns
returns c =
    let third = c.third_place-third.ensures in
    let there = copied-long _ _ _ _ c.requires c.args.out.now c.if-out-totals.false _ third in
    let room = lent-long _ _ _ _ c.requires c.args.out.now c.if-out-totals.false _ third in
    written_all _ _ _ _ c.requires c.args.out.now c.if-out-totals.false _ third _ (omega arith)
    c.copy.ensures c.put_nat.ensures c.put_bodies-end.ensures

pub returns-then-out-totals : goal.returns-then-out-totals
returns-then-out-totals c = room-refuses _ _ _ _ c.requires c.args.out.now c.if-out-totals.true

pub copy-requires : goal.copy-requires
copy-requires c =
    let third = c.third_place-third.ensures in
    let there = copied-long _ _ _ _ c.requires c.args.out.now c.if-out-totals.false _ third in
    let room = lent-long _ _ _ _ c.requires c.args.out.now c.if-out-totals.false _ third in (
      omega (arith, there, length-take c.third_place-third.result c.args.s.now),
      omega (arith, room, length-take c.third_place-third.result c.args.out.now),
    )

pub put_bodies-end-requires : goal.put_bodies-end-requires
put_bodies-end-requires c = (
  writes-all _ _ _ _ c.requires,
  counted-room _ _ _ _ c.requires c.args.out.now c.if-out-totals.false _ c.third_place-third.ensures _ _ _ c.copy.ensures c.put_nat.ensures,
)
