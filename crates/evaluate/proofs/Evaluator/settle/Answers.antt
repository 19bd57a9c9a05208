-- `evaluate::Evaluator::settle` meets its contract: the element is settled already, or by one attempt, or else on a stack. Assumes nothing.
use Rattle.evaluate.proofs.Stacks.{settled_before, alone-after, attempted, settled-after}
use Rattle.evaluate.proofs.Evaluator.settle.Goals as goal

pub returns-in-Ok-clause-settled : goal.returns-in-Ok-clause-settled
returns-in-Ok-clause-settled c = settled_before _ _ _ c.args.self.now.ready c.requires.1 _ c.in-Ok.ensures

pub owner-v-requires : goal.owner-v-requires
owner-v-requires c = (c.requires.0, c.requires.1.element)

pub element-requires : goal.element-requires
element-requires c = (c.requires.0, c.point_of-z.ensures)

pub returns-in-Ok-known-clause-settled : goal.returns-in-Ok-known-clause-settled
returns-in-Ok-known-clause-settled c =
    attempted _ _ _ c.args.self.now.ready c.requires.1 _ _ c.element.ensures.done _ c.in-Ok-known.ensures

pub settle_deep-requires : goal.settle_deep-requires
settle_deep-requires c =
    let alone = alone-after _ _ _ c.args.self.now.ready c.requires.1 _ _ c.element.ensures.done in
    rw c.element.ensures.same.ground (c.requires.0, record { alone = alone; late = c.in_default-known.ensures.0 })

pub returns-clause-settled : goal.returns-clause-settled
returns-clause-settled c =
    let deep = rw c.element.ensures.same.ground at c.settle_deep.ensures.settled in
    settled-after _ _ _ c.args.self.now.ready c.requires.1 _ _ c.element.ensures.done _ _ deep
