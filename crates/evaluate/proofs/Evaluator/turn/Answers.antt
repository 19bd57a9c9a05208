-- `evaluate::Evaluator::turn` meets its contract: the element on top is settled, or one that it waits for comes on top. Assumes nothing.
use Prim.Native.Nat.{◌+◌, ◌-◌, ◌≤◌, ◌<◌}
use native.Mathlib.Omega.{arith}
use borrow.Author.Rules.{rules}
use lib.ListN.{set}
use lib.IntN.{pos}
use Rattle.evaluate.specs.Memo.{busy, noted, stored}
use Rattle.evaluate.specs.Settling as Settling
use Rattle.evaluate.specs.Evaluating.{sheet, memo}
use Rattle.evaluate.proofs.Stacks.{high-few, popped-turn, wanted-element, high-low, pushed-turn}
use Rattle.evaluate.proofs.Evaluator.turn.Goals.{In_default, In-Err, Start}
use Rattle.evaluate.proofs.Evaluator.turn.Goals as goal

few : (c : Start) → c.args.stack.now.high ≤ 4096
few c = high-few _ _ c.args.self.now.ready _ _ c.requires.1

tall : (c : In-Err) → c.args.stack.now.high < 4096
tall c = high-low _ _ c.args.self.now.ready _ _ c.requires.1 _ _ c.in-Err.ensures.done

-- one that it waits for comes on top
pushed : (c : In-Err) → let k = c.args.stack.now in
    Settling.Turned (sheet c.args.self.now) (memo c.args.self.now) k.entries k.high (noted (memo c.body-r.new.self) c.in-Err.d.element busy (pos 0))
    (set k.entries k.high c.in-Err.d.element) (k.high + 1)
pushed c = pushed-turn _ _ c.args.self.now.ready _ _ c.requires.1 _ _ c.in-Err.ensures.done

-- it is settled
popped : (c : In_default) → let k = c.args.stack.now in
    Settling.Turned (sheet c.args.self.now) (memo c.args.self.now) k.entries k.high
    (stored (memo c.body-r.new.self) (Settling.standing k.entries (k.high - 1)) c.body-r.result) k.entries (k.high - 1)
popped c = popped-turn _ _ c.args.self.now.ready _ _ c.requires.1 _ _ c.body-r.ensures.done _ c.in_default.is

pub offset_bounds-stack-stack : goal.offset_bounds-stack-stack
offset_bounds-stack-stack c = let h = few (goal.at.offset_bounds-stack-stack c).Start in search rules

pub bounds-stack-stack : goal.bounds-stack-stack
bounds-stack-stack c =
    let h = few (goal.at.bounds-stack-stack c).Start in omega (arith, c.requires.1.some)

pub invariant_of-self-clause-ready : goal.invariant_of-self-clause-ready
invariant_of-self-clause-ready c =
    let turned = pushed (goal.at.invariant_of-self-clause-ready c).In-Err in
    rw (c.body-r.ensures.same.ground, c.mark.ensures) turned.ready

pub push-requires : goal.push-requires
push-requires c =
    let h = tall (goal.at.push-requires c).In-Err in
    let wanted = wanted-element _ _ c.args.self.now.ready _ _ c.requires.1 _ _ c.in-Err.ensures.done in
    (h, omega (arith, wanted, c.args.self.now.ready.few))

pub returns-in-Err-clause-turned : goal.returns-in-Err-clause-turned
returns-in-Err-clause-turned c =
    rw (c.mark.ensures, c.push.ensures.entries, c.push.ensures.high) (pushed (goal.at.returns-in-Err-clause-turned c).In-Err)

pub invariant_of-self-2-clause-ready : goal.invariant_of-self-2-clause-ready
invariant_of-self-2-clause-ready c =
    let turned = popped (goal.at.invariant_of-self-2-clause-ready c).In_default in
    rw (c.body-r.ensures.same.ground, c.note.ensures) turned.ready

pub returns-clause-turned : goal.returns-clause-turned
returns-clause-turned c = rw c.note.ensures (popped (goal.at.returns-clause-turned c).In_default)
