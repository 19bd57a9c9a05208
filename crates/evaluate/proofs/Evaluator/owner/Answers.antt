-- `evaluate::Evaluator::owner` meets its contract. The loop's invariant: the variables up to v start at or before the element.
-- Assumes nothing.
use mathlib.Core.Path.{◌≡◌, ◌∙◌, subst}
use Prim.Native.Nat.{◌-◌}
use native.Mathlib.Omega.{arith}
use Rattle.laws.specs.Sheets.{vars_of}
use Rattle.domain.proofs.Records.{laid-variable}
use Rattle.evaluate.specs.Evaluating.{bytes}
use Rattle.evaluate.proofs.Operands.{some-variable}
use Rattle.evaluate.proofs.Owning.{Reached, reached-first, reached-next, reached-last, reached-owns}
use Rattle.evaluate.proofs.Evaluator.owner.Goals.{After-variable_count-last}
use Rattle.evaluate.proofs.Evaluator.owner.Goals as goal

-- the table says how many variables the sheet has
count-is : (c : After-variable_count-last) → c.variable_count-last.result ≡ vars_of (bytes c.args.self.now)
count-is c = c.variable_count-last.ensures ∙ c.requires.0.placed.prepared.table.variables

pub overflow_sub-last : goal.overflow_sub-last
overflow_sub-last c =
    omega (arith, count-is (goal.at.overflow_sub-last c).After-variable_count-last, some-variable _ _ c.requires.0)

pub loop-v-init : goal.loop-v-init
loop-v-init c = reached-first _ _ c.requires.0 _

pub first_element-requires : goal.first_element-requires
first_element-requires c = omega (arith, (laid-variable _ _ c.requires.0.placed _ c.loop-v.invariant.known).low)

pub returns-then-e-first_element : goal.returns-then-e-first_element
returns-then-e-first_element c =
    reached-owns _ _ c.requires.0 _ _ c.loop-v.invariant (omega (arith, c.if-e-first_element.true, c.first_element.ensures))

pub loop-v-preserved : goal.loop-v-preserved
loop-v-preserved c =
    let count = count-is (goal.at.loop-v-preserved c).After-variable_count-last in
    reached-next _ _ c.requires.0 _ _ (omega (arith, count, c.loop-v-test.true))
    (omega (arith, c.if-e-first_element.false, c.first_element.ensures))

pub returns : goal.returns
returns c =
    let f = c.requires.0 in
    let all = count-is (goal.at.returns c).After-variable_count-last in
    let at : c.loop-v.v ≡ c.variable_count-last.result - 1 = omega (arith, c.loop-v-test.false, c.loop-v.auto.v-end) in
    let here = subst (Reached (bytes c.args.self.now) c.args.self.now.ground.table.now c.args.e) at c.loop-v.invariant in
    reached-owns _ _ f _ _ here (reached-last _ _ f _ c.requires.1 _ (omega (arith, all, some-variable _ _ f)))
