-- `evaluate::Evaluator::settle_deep` meets its contract. The loop's invariant: the elements in progress stand on the stack, each waiting for
-- the next, and the first of them is the one that was asked for. The measure is what is still to be done. Assumes nothing.
use mathlib.Core.Path.{refl}
use Prim.Native.Nat.{ℕ, ◌≤◌}
use native.Mathlib.Omega.{arith}
use lib.ListN.{replicate, length-replicate}
use lib.IntN.{pos}
use Rattle.evaluate.specs.Memo.{busy, noted}
use Rattle.evaluate.specs.Evaluating.{sheet, memo}
use Rattle.evaluate.proofs.Stacks.{Going, going-first, going_on, going-last}
use Rattle.evaluate.proofs.Evaluator.settle_deep.Goals.{After-loop-stack, After-push}
use Rattle.evaluate.proofs.Grounded.{same_twice}
use Rattle.evaluate.proofs.Evaluator.settle_deep.Goals as goal

-- the element was put on an empty stack
first : (c : After-push) → let marked = noted (memo c.args.self.now) c.args.e busy (pos 0) in
    Going (sheet c.args.self.now) c.args.e marked marked c.push.new.self.entries c.push.new.self.high
first c =
    let p = c.requires.1 in
    rw (c.push.ensures.entries, c.push.ensures.high)
    (going-first _ _ _ c.args.self.now.ready p.alone p.late (replicate 4096 0) (length-replicate {A = ℕ} 4096 0))

-- it was marked before the first turn, and the stack is empty after the last
gone : (c : After-loop-stack) → let loop = c.loop-stack in
    Going (sheet c.args.self.now) c.args.e (noted (memo c.args.self.now) c.args.e busy (pos 0)) (memo loop.self) loop.stack.entries
    loop.stack.high
gone c = rw c.mark.ensures at c.loop-stack.invariant.going

empty : (c : After-loop-stack) → c.loop-stack.stack.high ≤ 0
empty c = omega (arith, c.loop-stack-test.false)

pub invariant_of-self-clause-ready : goal.invariant_of-self-clause-ready
invariant_of-self-clause-ready c =
    let started = going-first _ _ _ c.args.self.now.ready c.requires.1.alone c.requires.1.late (replicate 4096 0) (length-replicate {A = ℕ} 4096 0) in
    rw c.mark.ensures started.ready

pub push-requires : goal.push-requires
push-requires c = (omega arith, omega (arith, c.requires.1.alone.element, c.args.self.now.ready.few))

pub loop-stack-init : goal.loop-stack-init
loop-stack-init c =
    record { same = record { ground = refl; ends = refl; memo = refl }; going = rw c.mark.ensures (first (goal.at.loop-stack-init c).After-push) }

pub turn-requires : goal.turn-requires
turn-requires c =
    let so_far = c.loop-stack.invariant in
    rw so_far.same.ground (c.requires.0, record { stacked = so_far.going.stacked; some = omega (arith, c.loop-stack-test.true) })

pub loop-stack-preserved : goal.loop-stack-preserved
loop-stack-preserved c =
    let so_far = c.loop-stack.invariant in
    let turned = rw so_far.same.ground at c.turn.ensures.turned in
    record {
      same = same_twice _ _ _ so_far.same c.turn.ensures.same;
      going = going_on _ _ _ _ _ _ _ _ _ so_far.going turned;
    }

pub loop-stack-smaller : goal.loop-stack-smaller
loop-stack-smaller c = c.turn.ensures.turned.less

pub known-requires : goal.known-requires
known-requires c = omega (arith, c.requires.1.alone.element, c.args.self.now.ready.few)

pub returns-clause-settled : goal.returns-clause-settled
returns-clause-settled c =
    let p = c.requires.1 in
    rw c.unwrap_or.ensures
    (going-last _ _ _ c.args.self.now.ready p.alone p.late _ _ _ (gone (goal.at.returns-clause-settled c).After-loop-stack)
    (empty (goal.at.returns-clause-settled c).After-loop-stack) _ c.known.ensures)
