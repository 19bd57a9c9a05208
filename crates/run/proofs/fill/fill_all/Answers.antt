-- `run::fill_all` meets its contract. The loop's invariant: the stretches of the variables before v are filled.
-- Assumes nothing.
use mathlib.Core.Path.{◌≡◌, ◌∙◌}
use Prim.Native.Nat.{suc, ◌+◌, ◌-◌, ◌≤◌, ◌<◌}
use native.Mathlib.Omega.{arith}
use borrow.Author.Rules.{rules}
use lib.ListN.{length}
use Rattle.alpha.specs.Box.{size}
use Rattle.alpha.specs.Holds.{variable}
use Rattle.alpha.specs.Ask.{before}
use Rattle.laws.specs.Sheets.{vars_of}
use Rattle.evaluate.specs.Evaluating.{bytes, sheet}
use Rattle.laws.proofs.Elements.{before-fits, before-suc}
use Rattle.domain.proofs.Records.{VariableLaid, laid-variable}
use Rattle.run.proofs.Tabling.{part-long, advances-on, fills-on, fills-at}
use Rattle.run.proofs.fill.fill_all.Goals.{After-first_element-from, After-first_element-to, After-variable_count-n, In-loop-v}
use Rattle.evaluate.proofs.Grounded.{same_twice}
use Rattle.run.proofs.fill.fill_all.Goals as goal

-- the table says how many variables the sheet has
count-is : (c : After-variable_count-n) → c.variable_count-n.result ≡ vars_of (bytes c.args.evaluator.now)
count-is c =
    c.variable_count-n.ensures ∙ c.requires.0.placed.prepared.table.variables

-- the next variable
known : (c : In-loop-v) →
    (count-is : c.variable_count-n.result ≡ vars_of (bytes c.args.evaluator.now)) →
    c.loop-v.v < vars_of (bytes c.args.evaluator.now)
known c count-is = omega (arith, c.loop-v-test.true, count-is)

laid : (c : In-loop-v) →
    (count-is : c.variable_count-n.result ≡ vars_of (bytes c.args.evaluator.now)) →
    VariableLaid (bytes c.args.evaluator.now) c.args.evaluator.now.ground.table.now c.loop-v.v
laid c count-is = laid-variable _ _ c.requires.0.placed _ (known c count-is)

-- its stretch
from_is : (c : After-first_element-from) →
    (laid : VariableLaid (bytes c.args.evaluator.now) c.args.evaluator.now.ground.table.now c.loop-v.v) →
    c.first_element-from.result ≡ before (sheet c.args.evaluator.now) c.loop-v.v
from_is c laid = c.first_element-from.ensures ∙ laid.first_is

to_is : (c : After-first_element-to) →
    (laid : VariableLaid (bytes c.args.evaluator.now) c.args.evaluator.now.ground.table.now c.loop-v.v) →
    c.first_element-to.result ≡ before (sheet c.args.evaluator.now) c.loop-v.v
    + size (variable (sheet c.args.evaluator.now) c.loop-v.v).head.box
to_is c laid = c.first_element-to.ensures ∙ laid.last-is

-- it lies within both tables
room : (c : After-first_element-to) →
    (laid : VariableLaid (bytes c.args.evaluator.now) c.args.evaluator.now.ground.table.now c.loop-v.v) →
    (c.first_element-to.result ≤ length c.args.codes.now) × (c.first_element-to.result ≤ length c.args.values.now)
room c laid =
    let fits = before-fits (sheet c.args.evaluator.now) c.loop-v.v laid.known in
    (omega (arith, to_is c laid, fits, c.requires.1.in_codes), omega (arith, to_is c laid, fits, c.requires.1.in_values))

in_codes : (c : After-first_element-to) →
    (laid : VariableLaid (bytes c.args.evaluator.now) c.args.evaluator.now.ground.table.now c.loop-v.v) →
    c.first_element-to.result ≤ length c.loop-v.codes
in_codes c laid =
    omega (arith, (room c laid).0, c.loop-v.invariant.filled.codes_long)

in_values : (c : After-first_element-to) →
    (laid : VariableLaid (bytes c.args.evaluator.now) c.args.evaluator.now.ground.table.now c.loop-v.v) →
    c.first_element-to.result ≤ length c.loop-v.values
in_values c laid =
    omega (arith, (room c laid).1, c.loop-v.invariant.filled.values_long)

order : (c : After-first_element-to) →
    (from_is : c.first_element-from.result ≡ before (sheet c.args.evaluator.now) c.loop-v.v) →
    (laid : VariableLaid (bytes c.args.evaluator.now) c.args.evaluator.now.ground.table.now c.loop-v.v) →
    c.first_element-from.result ≤ c.first_element-to.result
order c from_is laid = omega (arith, from_is, to_is c laid)

stretch-is : (c : After-first_element-to) →
    (from_is : c.first_element-from.result ≡ before (sheet c.args.evaluator.now) c.loop-v.v) →
    (laid : VariableLaid (bytes c.args.evaluator.now) c.args.evaluator.now.ground.table.now c.loop-v.v) →
    c.first_element-to.result - c.first_element-from.result ≡ size (variable (sheet c.args.evaluator.now) c.loop-v.v).head.box
stretch-is c from_is laid = omega (arith, from_is, to_is c laid)

-- the next variable's starts where it ends
ends : (c : After-first_element-to) →
    (laid : VariableLaid (bytes c.args.evaluator.now) c.args.evaluator.now.ground.table.now c.loop-v.v) →
    c.first_element-to.result ≡ before (sheet c.args.evaluator.now) (c.loop-v.v + 1)
ends c laid =
    let one : c.loop-v.v + 1 ≡ suc c.loop-v.v = omega arith in
    rw one (omega (arith, to_is c laid, before-suc (sheet c.args.evaluator.now) c.loop-v.v laid.known))

pub first_element-from-requires : goal.first_element-from-requires
first_element-from-requires c =
    omega (arith, (laid (goal.at.first_element-from-requires c).In-loop-v (count-is (goal.at.first_element-from-requires c).After-variable_count-n)).low)

pub first_element-to-requires : goal.first_element-to-requires
first_element-to-requires c =
    omega (arith, (laid (goal.at.first_element-to-requires c).In-loop-v (count-is (goal.at.first_element-to-requires c).After-variable_count-n)).low)

pub slice_bounds-fill-count : goal.slice_bounds-fill-count
slice_bounds-fill-count c =
    let way = goal.at.slice_bounds-fill-count c in
    let l = laid way.In-loop-v (count-is way.After-variable_count-n) in
    let from = from_is way.After-first_element-from l in
    omega (arith, order way.After-first_element-to from l, in_codes way.After-first_element-to l)

pub slice_bounds-fill-start : goal.slice_bounds-fill-start
slice_bounds-fill-start c =
    let way = goal.at.slice_bounds-fill-start c in
    let l = laid way.In-loop-v (count-is way.After-variable_count-n) in
    let from = from_is way.After-first_element-from l in
    omega (arith, order way.After-first_element-to from l)

pub slice_bounds-fill-end : goal.slice_bounds-fill-end
slice_bounds-fill-end c =
    let way = goal.at.slice_bounds-fill-end c in
    let l = laid way.In-loop-v (count-is way.After-variable_count-n) in
    omega (arith, in_codes way.After-first_element-to l)

pub offset_bounds-values-from : goal.offset_bounds-values-from
offset_bounds-values-from c =
    let way = goal.at.offset_bounds-values-from c in
    let l = laid way.In-loop-v (count-is way.After-variable_count-n) in
    let from = from_is way.After-first_element-from l in
    let small : c.first_element-from.result ≤ 4096 = omega (arith, from, l.few) in search rules

pub slice_bounds-fill-count-in-loop-v : goal.slice_bounds-fill-count-in-loop-v
slice_bounds-fill-count-in-loop-v c =
    let way = goal.at.slice_bounds-fill-count-in-loop-v c in
    let l = laid way.In-loop-v (count-is way.After-variable_count-n) in
    let from = from_is way.After-first_element-from l in
    omega (arith, order way.After-first_element-to from l, in_codes way.After-first_element-to l)

pub slice_bounds-fill-start-in-loop-v : goal.slice_bounds-fill-start-in-loop-v
slice_bounds-fill-start-in-loop-v c =
    let way = goal.at.slice_bounds-fill-start-in-loop-v c in
    let l = laid way.In-loop-v (count-is way.After-variable_count-n) in
    let from = from_is way.After-first_element-from l in
    omega (arith, order way.After-first_element-to from l)

pub slice_bounds-fill-end-in-loop-v : goal.slice_bounds-fill-end-in-loop-v
slice_bounds-fill-end-in-loop-v c =
    let way = goal.at.slice_bounds-fill-end-in-loop-v c in
    let l = laid way.In-loop-v (count-is way.After-variable_count-n) in
    omega (arith, in_values way.After-first_element-to l)

pub fill-requires : goal.fill-requires
fill-requires c =
    let way = goal.at.fill-requires c in
    let l = laid way.In-loop-v (count-is way.After-variable_count-n) in
    let from = from_is way.After-first_element-from l in
    let so_far = c.loop-v.invariant in
    let wide = stretch-is way.After-first_element-to from l in
    rw so_far.same.ground (
      c.requires.0,
      record {
        idle = so_far.advances.idle;
        known = l.known;
        codes_long = part-long _ _ _ _ wide (in_codes way.After-first_element-to l) (order way.After-first_element-to from l);
        values_long = part-long _ _ _ _ wide (in_values way.After-first_element-to l) (order way.After-first_element-to from l);
      },
    )

pub loop-v-preserved : goal.loop-v-preserved
loop-v-preserved c =
    let way = goal.at.loop-v-preserved c in
    let l = laid way.In-loop-v (count-is way.After-variable_count-n) in
    let from = from_is way.After-first_element-from l in
    let so_far = c.loop-v.invariant in
    let F = rw so_far.same.ground at c.fill.ensures.filled in
    let next =
    fills-on (sheet c.args.evaluator.now) c.loop-v.v _ _ from (to_is way.After-first_element-to l) _ _ _ so_far.advances _ _ _ _ _ _ so_far.filled F
    (omega (arith, (room way.After-first_element-to l).0)) (omega (arith, (room way.After-first_element-to l).1)) in
    record {
      same = same_twice _ _ _ so_far.same c.fill.ensures.same;
      advances = advances-on _ _ _ _ so_far.advances F.advances;
      filled = fills-at _ _ _ _ _ _ _ _ (ends way.After-first_element-to l) next;
    }
