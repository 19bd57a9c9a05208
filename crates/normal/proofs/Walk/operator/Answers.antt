-- `normal::operator` meets its contract: the operator as it stands, measured or stored. Assumes nothing.
use Prim.Native.Nat.{◌+◌, ◌-◌, ◌≤◌}
use mathlib.Core.Path.{ap}
use native.Mathlib.Omega.{arith}
use Rattle.tree.proofs.Classes.{size-here, end-far}
use Rattle.normal.specs.declared.Half.TheVariants.{Tree}
use Rattle.normal.specs.Followed.{room_of}
use Rattle.normal.proofs.Laid.{room-high}
use Rattle.normal.proofs.Spots.{operator-sizes, measured-visits, stored-visits}
use Rattle.normal.proofs.Walk.operator.Goals.{in-Measure, in-Store}
use Rattle.normal.proofs.Walk.operator.Goals as goal

pub overflow_sub-size : goal.overflow_sub-size
overflow_sub-size c = omega (arith, c.node_end.ensures, end-far _ _ c.requires.operator.noded)

pub put_operator-requires : goal.put_operator-requires
put_operator-requires c =
    let h = c.requires in
    (h.operator, let is = ap (λ d. room_of d c.args.out.now) c.in-Store.is in omega (arith, h.fits_room))

pub after-requires : goal.after-requires
after-requires c =
    let a = c.args in
    let h = c.requires in
    let noded = h.operator.noded in
    let long : 8 ≤ c.node_end.result - a.at = omega (arith, c.node_end.ensures, end-far _ _ noded) in
    let size : a.pen.to + (c.node_end.result - a.at) ≤ room_of a.self.now.mode a.out.now =
    omega (arith, h.fits_room, c.node_end.ensures, size-here _ _ noded) in
    let high = room-high a.self.now.mode a.out.now in
    (omega arith, omega (arith, h.things_low))

pub returns : goal.returns
returns c = λ m level.
    let a = c.args in
    let mode = a.self.now.mode in
    let sizes = operator-sizes _ _ m c.requires.operator level _ c.node_end.ensures in
    elim c.match-self.branch [
      | in-Measure w ↦
          rw w.out-is (measured-visits _ _ m Tree level a.pen _ sizes mode a.out.now _ c.after.ensures w.in-Measure.is)
      | in-Store w ↦
          rw w.out-is (stored-visits _ _ m Tree level a.pen _ sizes mode a.out.now _ c.after.ensures w.in-Store.is (w.put_operator.ensures m))
    ]
