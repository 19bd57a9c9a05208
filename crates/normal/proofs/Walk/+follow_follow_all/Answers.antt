-- `normal::follow` and `normal::follow_all` meet their contracts: a node by its class; operands one after another. Assumes nothing.
use Prim.Native.Nat.{ℕ, ◌+◌, ◌-◌, ◌≤◌, ◌<◌}
use mathlib.Core.Path.{◌≡◌, refl, sym, ◌∙◌}
use native.Mathlib.Omega.{arith}
use borrow.Author.Rules.{rules}
use Rattle.laws.specs.Sheets.{vars_of}
use Rattle.tree.specs.declared.Class.{Class}
use Rattle.tree.specs.Classes.{class_at}
use Rattle.tree.specs.Standing.{Noded}
use Rattle.tree.proofs.Classes.{code-there}
use Rattle.tree.proofs.Standings.{standing-noded, standing-some}
use Rattle.normal.proofs.Routes.{route-standing, route-leaf, route-operator, route-operands, route-choice, route-chosen}
use Rattle.normal.proofs.Routes.{route-restriction, route-inside, route-composes, route-below, route-operand, route-first, route-next, route-only}
use Rattle.normal.proofs.Routes.{leaf-way, operator-way, case-way, restriction-way, dependence-way, none-way, one_way, more-way}
use Rattle.normal.proofs.Walk.+follow_follow_all.Goals.{follow-After-node_end-next, follow-Start}
use Rattle.normal.proofs.Walk.+follow_follow_all.Goals as goal

-- the node
noded : (t : ℕ) (c : follow-Start t) → Noded (vars_of c.args.self.now.sheet.now) c.args.self.now.sheet.now c.args.at
noded t c = standing-noded _ _ _ _ (route-standing _ _ _ _ _ _ _ _ _ _ c.requires)

-- there is a node left
some : (t : ℕ) (c : follow-Start t) → 1 ≤ c.args.left
some t c = standing-some _ _ _ _ (route-standing _ _ _ _ _ _ _ _ _ _ c.requires)

-- the class that is told in an arm is the node's
class : (t : ℕ) (c : follow-After-node_end-next t) {k : Class} → c.class_of-class.result ≡ k →
    class_at c.args.self.now.sheet.now c.args.at ≡ k
class t c told = sym c.class_of-class.ensures ∙ told

pub follow-class_of-class-requires : goal.follow-class_of-class-requires
follow-class_of-class-requires t c = noded t (goal.at.follow-class_of-class-requires t c).Start

pub follow-node_end-next-requires : goal.follow-node_end-next-requires
follow-node_end-next-requires t c = noded t (goal.at.follow-node_end-next-requires t c).Start

pub follow-visit-requires : goal.follow-visit-requires
follow-visit-requires t c =
    route-leaf _ _ _ _ _ _ _ _ _ _ c.requires (class t (goal.at.follow-visit-requires t c).After-node_end-next c.in-Leaf.is)

pub follow-visit-now-requires : goal.follow-visit-now-requires
follow-visit-now-requires t c =
    route-operator _ _ _ _ _ _ _ _ _ _ c.requires (class t (goal.at.follow-visit-now-requires t c).After-node_end-next c.in-Operator.is)

pub follow-children-many-requires : goal.follow-children-many-requires
follow-children-many-requires t c = noded t (goal.at.follow-children-many-requires t c).Start

pub follow-overflow_sub-left : goal.follow-overflow_sub-left
follow-overflow_sub-left t c = omega (arith, some t (goal.at.follow-overflow_sub-left t c).Start)

pub follow-follow_all-requires : goal.follow-follow_all-requires
follow-follow_all-requires t c =
    let here = (goal.at.follow-follow_all-requires t c).After-node_end-next in
    let left = some t (goal.at.follow-follow_all-requires t c).Start in
    let is = c.decreases in
    let below =
    route-operands _ _ _ _ _ _ _ _ _ _ c.requires (class t here c.in-Operator.is) _ _ c.node_end-next.ensures
    c.children-many.ensures _ _ _ _ c.visit-now.ensures refl in
    (omega (arith, below.many_low), below)

pub follow-overflow_sub-left-in-Case : goal.follow-overflow_sub-left-in-Case
follow-overflow_sub-left-in-Case t c = omega (arith, some t (goal.at.follow-overflow_sub-left-in-Case t c).Start)

pub follow-children-requires : goal.follow-children-requires
follow-children-requires t c = noded t (goal.at.follow-children-requires t c).Start

pub follow-choose-chosen-requires : goal.follow-choose-chosen-requires
follow-choose-chosen-requires t c =
    let here = (goal.at.follow-choose-chosen-requires t c).After-node_end-next in
    route-choice _ _ _ _ _ _ _ _ _ _ c.requires (class t here c.in-Case.is) _ _ c.node_end-next.ensures
    c.children.ensures

pub follow-overflow_sub-left-in-Case-2 : goal.follow-overflow_sub-left-in-Case-2
follow-overflow_sub-left-in-Case-2 t c = omega (arith, some t (goal.at.follow-overflow_sub-left-in-Case-2 t c).Start)

pub follow-follow-requires : goal.follow-follow-requires
follow-follow-requires t c =
    let left = some t (goal.at.follow-follow-requires t c).Start in
    let is = c.decreases in (
      omega arith,
      route-chosen _ _ _ _ _ _ _ _ _ _ c.requires (class t (goal.at.follow-follow-requires t c).After-node_end-next c.in-Case.is) _ _ c.node_end-next.ensures
          c.children.ensures _ c.choose-chosen.ensures,
    )

pub follow-visit-now-requires-in-Restriction : goal.follow-visit-now-requires-in-Restriction
follow-visit-now-requires-in-Restriction t c =
    route-restriction _ _ _ _ _ _ _ _ _ _ c.requires (class t (goal.at.follow-visit-now-requires-in-Restriction t c).After-node_end-next c.in-Restriction.is)

pub follow-overflow_sub-left-in-Restriction : goal.follow-overflow_sub-left-in-Restriction
follow-overflow_sub-left-in-Restriction t c = omega (arith, some t (goal.at.follow-overflow_sub-left-in-Restriction t c).Start)

pub follow-follow-requires-in-Restriction : goal.follow-follow-requires-in-Restriction
follow-follow-requires-in-Restriction t c =
    let here = (goal.at.follow-follow-requires-in-Restriction t c).After-node_end-next in
    let left = some t (goal.at.follow-follow-requires-in-Restriction t c).Start in
    let is = c.decreases in (
      omega arith,
      route-inside _ _ _ _ _ _ _ _ _ _ c.requires (class t here c.in-Restriction.is) _ c.node_end-next.ensures _ _ _ _
          c.visit-now-in-Restriction.ensures refl,
    )

pub follow-overflow_add-at : goal.follow-overflow_add-at
follow-overflow_add-at t c = omega (arith, code-there _ _ (noded t (goal.at.follow-overflow_add-at t c).Start))

pub follow-map_below-below-requires : goal.follow-map_below-below-requires
follow-map_below-below-requires t c =
    route-composes _ _ _ _ _ _ _ _ _ _ c.requires (class t (goal.at.follow-map_below-below-requires t c).After-node_end-next c.in-Dependence.is)

pub follow-overflow_sub-left-in-Dependence : goal.follow-overflow_sub-left-in-Dependence
follow-overflow_sub-left-in-Dependence t c = omega (arith, some t (goal.at.follow-overflow_sub-left-in-Dependence t c).Start)

pub follow-follow-requires-in-Dependence : goal.follow-follow-requires-in-Dependence
follow-follow-requires-in-Dependence t c =
    let here = (goal.at.follow-follow-requires-in-Dependence t c).After-node_end-next in
    let left = some t (goal.at.follow-follow-requires-in-Dependence t c).Start in
    let is = c.decreases in (
      omega arith,
      route-below _ _ _ _ _ _ _ _ _ _ c.requires (class t here c.in-Dependence.is) _ c.node_end-next.ensures _
          c.map_below-below.ensures,
    )

pub follow-returns-in-Leaf : goal.follow-returns-in-Leaf
follow-returns-in-Leaf t c =
    let here = (goal.at.follow-returns-in-Leaf t c).After-node_end-next in
    let a = c.args in
    leaf-way _ _ a.m.now a.choice.number a.choice.of a.self.now.half a.level a.self.now.mode a.pen _ (class t here c.in-Leaf.is)
    c.visit.ensures

pub follow-returns-in-Operator : goal.follow-returns-in-Operator
follow-returns-in-Operator t c =
    let a = c.args in
    operator-way _ _ a.m.now a.choice.number a.choice.of a.self.now.half a.level a.self.now.mode a.pen _ _ c.node_end-next.ensures _ c.children-many.ensures
    (class t (goal.at.follow-returns-in-Operator t c).After-node_end-next c.in-Operator.is) c.visit-now.ensures c.follow_all.ensures

pub follow-returns-in-Case : goal.follow-returns-in-Case
follow-returns-in-Case t c =
    let a = c.args in
    case-way _ _ a.m.now a.choice.number a.choice.of a.self.now.half a.level a.self.now.mode a.pen _ _ c.node_end-next.ensures _ c.children.ensures _
    (class t (goal.at.follow-returns-in-Case t c).After-node_end-next c.in-Case.is) c.requires.some c.choose-chosen.ensures c.follow.ensures

pub follow-returns-in-Restriction : goal.follow-returns-in-Restriction
follow-returns-in-Restriction t c =
    let here = (goal.at.follow-returns-in-Restriction t c).After-node_end-next in
    let a = c.args in
    restriction-way _ _ a.m.now a.choice.number a.choice.of a.self.now.half a.level a.self.now.mode a.pen _ _ c.node_end-next.ensures
    (class t here c.in-Restriction.is) c.visit-now-in-Restriction.ensures c.follow-in-Restriction.ensures

pub follow-returns-in-Dependence : goal.follow-returns-in-Dependence
follow-returns-in-Dependence t c =
    let a = c.args in
    dependence-way _ _ a.m.now a.choice.number a.choice.of a.self.now.half a.level a.self.now.mode a.pen _ _ c.node_end-next.ensures c.map_below-below.result
    (class t (goal.at.follow-returns-in-Dependence t c).After-node_end-next c.in-Dependence.is) c.map_below-below.ensures c.follow-in-Dependence.ensures

pub follow_all-loop-operand-init : goal.follow_all-loop-operand-init
follow_all-loop-operand-init t c =
    let all : c.args.many + 1 - 1 ≡ c.args.many = omega arith in rw all (c.requires, (λ d z h. h), refl)

pub follow_all-split-taken-requires : goal.follow_all-split-taken-requires
follow_all-split-taken-requires t c =
    let some : 1 ≤ c.args.many + 1 - c.loop-operand._operand = omega (arith, c.loop-operand-test.true) in
    route-operand _ _ _ _ _ _ _ _ _ _ _ some c.loop-operand.invariant.0

pub follow_all-follow-sofar-requires : goal.follow_all-follow-sofar-requires
follow_all-follow-sofar-requires t c =
    let some : 1 ≤ c.args.many + 1 - c.loop-operand._operand = omega (arith, c.loop-operand-test.true) in
    let is = c.decreases in
    (omega arith, route-first _ _ _ _ _ _ _ _ _ _ _ some c.loop-operand.invariant.0 _ c.split-taken.ensures)

pub follow_all-loop-operand-preserved : goal.follow_all-loop-operand-preserved
follow_all-loop-operand-preserved t c =
    let a = c.args in
    let loop = c.loop-operand in
    let some : 1 ≤ a.many + 1 - loop._operand = omega (arith, c.loop-operand-test.true) in
    let next : a.many + 1 - (loop._operand + 1) ≡ a.many + 1 - loop._operand - 1 = omega arith in
    let splits = c.split-taken.ensures in
    let followed = c.follow-sofar.ensures in
    let walk = a.self.now in
    rw next (
      route-next _ _ _ _ _ _ _ _ _ _ _ some loop.invariant.0 _ splits _ _ _ _ followed refl,
      (λ d z h.
          loop.invariant.1 d z (more-way _ _ a.m.now loop.rest.number loop.rest.of walk.half a.level walk.mode loop.sofar _ _ _ some splits followed h)),
      search rules,
    )

pub follow_all-returns-then-many-eq0 : goal.follow_all-returns-then-many-eq0
follow_all-returns-then-many-eq0 t c =
    let a = c.args in
    let loop = c.loop-operand in
    let none : a.many + 1 - loop._operand < 1 = omega (arith, c.if-many-eq0.true) in
    loop.invariant.1 _ _ (none-way _ _ a.m.now loop.rest.number loop.rest.of a.self.now.half a.level a.self.now.mode loop.sofar _ _ none)

pub follow_all-follow-requires : goal.follow_all-follow-requires
follow_all-follow-requires t c =
    let some : 1 ≤ c.args.many + 1 - c.loop-operand._operand = omega (arith, c.if-many-eq0.false) in
    let few : c.args.many + 1 - c.loop-operand._operand < 2 = omega (arith, c.loop-operand-test.false) in
    let is = c.decreases in
    (omega arith, route-only _ _ _ _ _ _ _ _ _ _ _ some c.loop-operand.invariant.0 few)

pub follow_all-returns : goal.follow_all-returns
follow_all-returns t c =
    let a = c.args in
    let loop = c.loop-operand in
    let some : 1 ≤ a.many + 1 - loop._operand = omega (arith, c.if-many-eq0.false) in
    let few : a.many + 1 - loop._operand < 2 = omega (arith, c.loop-operand-test.false) in
    loop.invariant.1 _ _
    (one_way _ _ a.m.now loop.rest.number loop.rest.of a.self.now.half a.level a.self.now.mode loop.sofar _ _ some few c.follow.ensures)
