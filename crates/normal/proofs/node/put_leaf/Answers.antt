-- `normal::put_leaf` meets its contract: the map's dependence, and then the leaf's two fields. Assumes nothing.
use mathlib.Core.Path.{ap, ◌∙◌}
use Prim.Native.Nat.{◌+◌, ◌*◌, ◌≤◌}
use native.Mathlib.Omega.{arith}
use lib.ListN.{length}
use lib.Seq.{length-sets}
use Rattle.affine.specs.Value.{map_of}
use Rattle.tree.specs.declared.Class.TheVariants.{Leaf}
use Rattle.tree.specs.Standing.{NodedAs}
use Rattle.tree.proofs.Classes.{leaf-there}
use Rattle.normal.specs.Part.{map_bytes}
use Rattle.normal.proofs.Spots.{leaf-stores, leaf_room}
use Rattle.normal.proofs.node.put_leaf.Goals.{Start}
use Rattle.normal.proofs.node.put_leaf.Goals as goal

a-leaf : (c : Start) → NodedAs c.args.s.now c.args.at Leaf
a-leaf c = record { noded = c.requires.0.noded; class_is = c.requires.1 }

-- room for the map's dependence and the two fields
room : (c : Start) → c.args.to + (24 + c.args.m.now.height * (8 * c.args.m.now.width + 8)) + 16 ≤ length c.args.out.now
room c = leaf_room _ _ c.args.m.now (a-leaf c) _ _ c.requires.0

pub put_map-requires : goal.put_map-requires
put_map-requires c = (c.requires.0.neat, omega (arith, room (goal.at.put_map-requires c).Start))

pub put_two-requires : goal.put_two-requires
put_two-requires c =
    let same = ap length c.put_map.ensures ∙ length-sets c.args.out.now c.args.to (map_bytes (map_of c.args.m.now)) in
    (leaf-there _ _ (a-leaf (goal.at.put_two-requires c).Start), omega (arith, same, room (goal.at.put_two-requires c).Start))

pub returns : goal.returns
returns c =
    leaf-stores _ _ c.args.m.now (a-leaf (goal.at.returns c).Start) c.args.to c.args.out.now c.put_map.ensures c.put_two.ensures
