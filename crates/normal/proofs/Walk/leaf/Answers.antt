-- `normal::leaf` meets its contract: the map's dependence and the leaf's two fields, measured or stored. Assumes nothing.
use Rattle.tree.specs.declared.Class.TheVariants.{Leaf}
use Rattle.tree.specs.Standing.{NodedAs}
use Rattle.normal.specs.declared.Half.TheVariants.{Tree}
use Rattle.normal.proofs.Spots.{leaf-sizes, spot-room, visit-room, measured-visits, stored-visits}
use Rattle.normal.proofs.Walk.leaf.Goals.{Start, in-Measure, in-Store}
use Rattle.normal.proofs.Walk.leaf.Goals as goal

a-leaf : (c : Start) → NodedAs c.args.self.now.sheet.now c.args.at Leaf
a-leaf c = record { noded = c.requires.0.spot.noded; class_is = c.requires.1 }

pub after-requires : goal.after-requires
after-requires c =
    let a = c.args in
    let sizes = leaf-sizes _ _ a.m.now (a-leaf (goal.at.after-requires c).Start) a.level in
    visit-room _ _ a.m.now Tree a.level a.pen _ sizes a.self.now.mode a.out.now (spot-room _ _ a.m.now Tree a.level a.pen _ sizes _ c.requires.0.spot)
    c.requires.0.things_low

pub returns : goal.returns
returns c =
    let a = c.args in
    let mode = a.self.now.mode in
    let sizes = leaf-sizes _ _ a.m.now (a-leaf (goal.at.returns c).Start) a.level in
    elim c.match-self.branch [
      | in-Measure w ↦
          rw w.out-is (measured-visits _ _ a.m.now Tree a.level a.pen _ sizes mode a.out.now _ c.after.ensures w.in-Measure.is)
      | in-Store w ↦
          rw w.out-is (stored-visits _ _ a.m.now Tree a.level a.pen _ sizes mode a.out.now _ c.after.ensures w.in-Store.is w.put_leaf.ensures)
    ]
