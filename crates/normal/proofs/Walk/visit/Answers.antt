-- `normal::visit` meets its contract, half by half and class by class. Assumes nothing.
use Rattle.tree.proofs.Classes.{noded-as}
use Rattle.normal.proofs.Spots.{operator-fits}
use Rattle.normal.proofs.Walk.visit.Goals as goal

pub operator-requires : goal.operator-requires
operator-requires c =
    let a = c.args in
    let operates = noded-as _ _ c.requires.spot.noded _ _ c.class_of-class.ensures c.in-Operator.is in
    operator-fits _ _ a.m.now operates a.level a.pen _ (rw (← c.in-Tree.is) c.requires)
