-- `run::fill` meets its contract. The loop's invariant: the first i entries of the stretch are filled. Assumes nothing.
use mathlib.Core.Path.{◌≡◌, ap, ◌∙◌, subst}
use Prim.Native.Nat.{ℕ, ◌+◌, ◌<◌}
use native.Mathlib.Omega.{arith}
use Rattle.alpha.specs.declared.Outcome.{Outcome}
use Rattle.alpha.specs.Sheet.{Sheet}
use Rattle.alpha.specs.Box.{size}
use Rattle.alpha.specs.Holds.{variable}
use Rattle.alpha.specs.Check.{total}
use Rattle.alpha.specs.Ask.{before}
use Rattle.laws.proofs.Elements.{before-fits}
use Rattle.domain.proofs.Records.{VariableLaid, laid-variable, laid-length}
use lib.ListN.{set}
use Rattle.integer.proofs.Machine.{small-same}
use Rattle.evaluate.proofs.Entries.{value-small}
use Rattle.evaluate.specs.Memo.{Memo}
use Rattle.evaluate.specs.Settling.{Settled}
use Rattle.evaluate.specs.Evaluating.{bytes, sheet}
use Rattle.run.proofs.Tabling.{kept32, fills-next}
use Rattle.run.proofs.fill.fill.Goals.{After-first_element-first, In-loop-i, Start}
use Rattle.evaluate.proofs.Grounded.{same_twice}
use Rattle.run.proofs.fill.fill.Goals as goal

-- the variable
laid : (c : Start) → VariableLaid (bytes c.args.evaluator.now) c.args.evaluator.now.ground.table.now c.args.v
laid c =
    let placed = c.requires.0.placed in
    laid-variable _ _ placed _ (omega (arith, c.requires.1.known, laid-length _ _ placed))

-- its first element
first_is : (c : After-first_element-first) → VariableLaid (bytes c.args.evaluator.now) c.args.evaluator.now.ground.table.now c.args.v →
    c.first_element-first.result ≡ before (sheet c.args.evaluator.now) c.args.v
first_is c laid = c.first_element-first.ensures ∙ laid.first_is

-- the next is one of its elements
many : (c : In-loop-i) → c.loop-i.i < size (variable (sheet c.args.evaluator.now) c.args.v).head.box
many c = omega (arith, c.loop-i-test.true, c.requires.1.codes_long)

number-low : (c : In-loop-i) → c.first_element-first.result ≡ before (sheet c.args.evaluator.now) c.args.v →
    c.first_element-first.result + c.loop-i.i < total (sheet c.args.evaluator.now)
number-low c first = omega (arith, first, many c, before-fits (sheet c.args.evaluator.now) c.args.v c.requires.1.known)

-- an element by another spelling of its number
settled-at : (s : Sheet) (m n : ℕ) (memo last : Memo) (o : Outcome) → Settled s m memo last o → m ≡ n → Settled s n memo last o
settled-at s m n memo last o S e = subst (λ k. Settled s k memo last o) e S

pub first_element-first-requires : goal.first_element-first-requires
first_element-first-requires c = omega (arith, (laid (goal.at.first_element-first-requires c).Start).low)

pub overflow_add-first : goal.overflow_add-first
overflow_add-first c =
    let way = goal.at.overflow_add-first c in
    let l = laid way.Start in
    omega (arith, number-low way.In-loop-i (first_is way.After-first_element-first l), c.args.evaluator.now.ready.few)

pub settle-o-requires : goal.settle-o-requires
settle-o-requires c =
    let way = goal.at.settle-o-requires c in
    let first = first_is way.After-first_element-first (laid way.Start) in
    let so_far = c.loop-i.invariant in
    rw so_far.same.ground (c.requires.0, record { idle = so_far.filled.advances.idle; element = omega (arith, number-low way.In-loop-i first) })

pub loop-i-preserved : goal.loop-i-preserved
loop-i-preserved c =
    let way = goal.at.loop-i-preserved c in
    let first = first_is way.After-first_element-first (laid way.Start) in
    let so_far = c.loop-i.invariant in
    let settled =
    settled-at _ _ (before (sheet c.args.evaluator.now) c.args.v + c.loop-i.i) _ _ _ (rw so_far.same.ground at c.settle-o.ensures.settled)
    (omega (arith, first)) in
    let small = value-small _ settled.says.small in
    let value = kept32 _ _ small (small-same c.value.result (rw c.value.ensures small) ∙ c.value.ensures) in
    record {
      same = same_twice _ _ _ so_far.same c.settle-o.ensures.same;
      filled =
          fills-next _ _ _ _ _ _ _ _ so_far.filled (many way.In-loop-i) (rw first at (number-low way.In-loop-i first)) _ settled _ _
          (ap (λ n. set c.loop-i.codes c.loop-i.i n) c.code.ensures) (ap (λ n. set c.loop-i.values c.loop-i.i n) value);
    }
