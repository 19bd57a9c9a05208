-- `normal::constraints` meets its contract: the constraints of a restriction after the map, measured or stored. Assumes nothing.
use mathlib.Core.Path.{◌∙◌}
use Prim.Native.Nat.{◌+◌, ◌*◌, ◌≤◌}
use native.Mathlib.Nat.{mul-le-mul_right}
use native.Mathlib.Omega.{arith}
use lib.ListN.{length}
use Rattle.tree.specs.declared.Class.TheVariants.{Restriction}
use Rattle.tree.specs.Standing.{NodedAs}
use Rattle.tree.proofs.Classes.{restriction-fields}
use Rattle.normal.specs.declared.Half.TheVariants.{Constraints}
use Rattle.normal.proofs.Spots.{limits-stores, limits-sizes, limits-room, spot-room, visit-room, stored-spot, measured-visits, stored-visits}
use Rattle.normal.proofs.Walk.constraints.Goals.{Start, in-Measure, in-Store}
use Rattle.normal.proofs.Walk.constraints.Goals as goal

a-restriction : (c : Start) → NodedAs c.args.self.now.sheet.now c.args.at Restriction
a-restriction c = record { noded = c.requires.0.spot.noded; class_is = c.requires.1 }

-- its three fields stand there
there : (c : Start) → c.args.at + 24 ≤ length c.args.self.now.sheet.now
there c = (restriction-fields _ _ (a-restriction c)).there

pub overflow_add-at : goal.overflow_add-at
overflow_add-at c = omega (arith, there (goal.at.overflow_add-at c).Start)

pub natural-n-requires : goal.natural-n-requires
natural-n-requires c = omega (arith, there (goal.at.natural-n-requires c).Start)

pub overflow_add-at-2 : goal.overflow_add-at-2
overflow_add-at-2 c = omega (arith, there (goal.at.overflow_add-at-2 c).Start)

pub natural-count-requires : goal.natural-count-requires
natural-count-requires c = omega (arith, there (goal.at.natural-count-requires c).Start)

pub overflow_mul-size-2 : goal.overflow_mul-size-2
overflow_mul-size-2 c =
    let many = (restriction-fields _ _ (a-restriction (goal.at.overflow_mul-size-2 c).Start)).many in
    let few : c.natural-count.result ≤ 64 = omega (arith, many, c.natural-count.ensures) in
    omega (arith, mul-le-mul_right (16 + 8 * c.args.m.now.width) few, c.requires.0.spot.neat.cols_few)

pub overflow_add-at-in-Store : goal.overflow_add-at-in-Store
overflow_add-at-in-Store c = omega (arith, there (goal.at.overflow_add-at-in-Store c).Start)

pub put_constraints-requires : goal.put_constraints-requires
put_constraints-requires c =
    let a = c.args in
    let restricts = a-restriction (goal.at.put_constraints-requires c).Start in
    let dim = c.natural-n.ensures in
    let many = c.natural-count.ensures in
    let spot = stored-spot _ _ a.m.now Constraints a.pen.to a.out.now a.self.now.mode c.in-Store.is c.requires.0.spot in
    let limits = spot.limits restricts.class_is in
    record {
      neat = spot.neat;
      dims = dim ∙ limits.0;
      composable = rw (many, dim) limits.1;
      room = rw many (limits-room _ _ a.m.now restricts _ _ spot);
    }

pub after-requires : goal.after-requires
after-requires c =
    let a = c.args in
    let sizes = limits-sizes _ _ a.m.now (a-restriction (goal.at.after-requires c).Start) _ c.natural-count.ensures in
    visit-room _ _ a.m.now Constraints 0 a.pen _ sizes a.self.now.mode a.out.now (spot-room _ _ a.m.now Constraints 0 a.pen _ sizes _ c.requires.0.spot)
    c.requires.0.things_low

pub returns : goal.returns
returns c =
    let a = c.args in
    let mode = a.self.now.mode in
    let restricts = a-restriction (goal.at.returns c).Start in
    let sizes = limits-sizes _ _ a.m.now restricts _ c.natural-count.ensures in
    elim c.match-self.branch [
      | in-Measure w ↦
          rw w.out-is (measured-visits _ _ a.m.now Constraints 0 a.pen _ sizes mode a.out.now _ c.after.ensures w.in-Measure.is)
      | in-Store w ↦
          let stored = limits-stores _ _ a.m.now restricts a.pen.to _ _ a.out.now c.natural-count.ensures c.natural-n.ensures w.put_constraints.ensures in
          rw w.out-is (stored-visits _ _ a.m.now Constraints 0 a.pen _ sizes mode a.out.now _ c.after.ensures w.in-Store.is stored)
    ]
