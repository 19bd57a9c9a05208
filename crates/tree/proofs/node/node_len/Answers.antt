-- `tree::node_len` meets its contract, class by class. Assumes nothing.
use native.Mathlib.Omega.{arith}
use Rattle.tree.proofs.Classes.{noded-as, size-here, restriction-fields, restriction-end, dependence-fields, dependence-end}
use Rattle.tree.proofs.node.node_len.Goals as goal

pub wide_len-requires : goal.wide_len-requires
wide_len-requires c =
    (restriction-fields _ _ (noded-as _ _ c.requires _ _ c.class_of.ensures c.in-Restriction.is), omega arith)

pub wide_len-requires-in-Dependence : goal.wide_len-requires-in-Dependence
wide_len-requires-in-Dependence c =
    (dependence-fields _ _ (noded-as _ _ c.requires _ _ c.class_of.ensures c.in-Dependence.is), omega arith)

pub returns-in-Restriction : goal.returns-in-Restriction
returns-in-Restriction c =
    let h = noded-as _ _ c.requires _ _ c.class_of.ensures c.in-Restriction.is in
    omega (arith, c.wide_len.ensures, restriction-end _ _ h, size-here _ _ c.requires)

pub returns-in-Dependence : goal.returns-in-Dependence
returns-in-Dependence c =
    let h = noded-as _ _ c.requires _ _ c.class_of.ensures c.in-Dependence.is in
    omega (arith, c.wide_len-in-Dependence.ensures, dependence-end _ _ h, size-here _ _ c.requires)
