-- `callers::leaf_body` keeps what it calls: an accepted sheet has a first variable, whose body stands at its place. Assumes nothing.
use mathlib.Core.Path.{refl, sym, ◌∙◌}
use Prim.Native.Nat.{◌≤◌, ◌<◌}
use native.Mathlib.Omega.{arith}
use borrow.Author.Rules.{rules}
use Rattle.laws.specs.Sheets.{vars_of}
use Rattle.tree.specs.Formed.{Formed}
use Rattle.tree.specs.Standing.{Noded}
use Rattle.tree.proofs.Heading.{prepared-sections}
use Rattle.tree.proofs.Standings.{standing-noded}
use Rattle.tree.proofs.Passing.{no_input}
use Rattle.domain.proofs.Records.{placed-grounds}
use Rattle.normal.proofs.Plans.{body-standing}
use Rattle.callers.proofs.standings.leaf_body.Goals.{In-Ok, After-body_place-at}
use Rattle.callers.proofs.standings.leaf_body.Goals as goal

formed : (c : In-Ok) → Formed c.args.s.now c.form.new.tab
formed c = c.form.ensures.formed _ c.in-Ok.is

some : (c : In-Ok) → 1 ≤ vars_of c.args.s.now
some c = (prepared-sections _ _ (formed c).placed.prepared).some

pub kind_of-requires : goal.kind_of-requires
kind_of-requires c = let way = (goal.at.kind_of-requires c).In-Ok in ((formed way).placed.prepared, omega (arith, some way))

body : (c : After-body_place-at) → Noded (vars_of c.args.s.now) c.args.s.now c.body_place-at.result
body c =
    let f = formed (goal.at.After-body_place-at c).In-Ok in
    let lt : 0 < vars_of c.args.s.now = omega (arith, some (goal.at.After-body_place-at c).In-Ok) in
    let no_in = no_input _ _ f.placed _ lt _ c.kind_of.ensures (search rules) in
    standing-noded _ _ _ _ (body-standing _ _ f 0 lt no_in _ _ c.body_place-at.ensures refl)

pub class_of-requires : goal.class_of-requires
class_of-requires c = body (goal.at.class_of-requires c).After-body_place-at

pub invariant_of-ground : goal.invariant_of-ground
invariant_of-ground c =
    let admitted = c.admit.ensures.admitted _ c.in-Ok-admit.is in
    record { grounds = placed-grounds _ _ _ admitted.formed.placed admitted.filled }

pub leaf_stands-requires : goal.leaf_stands-requires
leaf_stands-requires c =
    record {
      noded = body (goal.at.leaf_stands-requires c).After-body_place-at;
      class_is = sym c.class_of.ensures ∙ c.in-Leaf.is;
    }
