-- `normal::put_bodies` meets its contract: an input has no body, any other is stored before those after it. Assumes nothing.
use Prim.Native.Nat.{◌<◌, ◌≤◌}
use borrow.Author.Rules.{rules}
use native.Mathlib.Omega.{arith}
use Rattle.laws.specs.Sheets.{vars_of}
use Rattle.tree.proofs.Passing.{is-input, no_input}
use Rattle.normal.specs.Stored.{WritesFrom}
use Rattle.normal.proofs.Storing.{bodies-none, input-room, input-stored, writes_body, body-room, rest-room, more-stored}
use Rattle.normal.proofs.write.put_bodies.Goals.{In-loop-v, then-ne, else-ne}
use Rattle.normal.proofs.write.put_bodies.Goals as goal

-- there is such a variable
known : (c : In-loop-v) → c.loop-v.v < vars_of c.args.s.now
known c = omega (arith, c.loop-v-test.true, c.variable_count-v-end.ensures, c.requires.0.formed.placed.prepared.table.variables)

-- it and those after it are written
from : (c : In-loop-v) → WritesFrom c.args.s.now c.args.tab.now c.loop-v.v
from c = let lt = known c in record { formed = c.requires.0.formed; known = omega arith; few = c.requires.0.few }

pub loop-v-init : goal.loop-v-init
loop-v-init c = (c.requires.1, λ d r h. h)

pub put_body-next-requires : goal.put_body-next-requires
put_body-next-requires c =
    let at = (goal.at.put_body-next-requires c).In-loop-v in
    let lt = known at in
    let body = no_input _ _ c.requires.0.formed.placed _ lt _ c.kind_of.ensures (search rules) in
    (writes_body _ _ _ (from at) lt body, body-room _ _ _ (from at) lt body c.loop-v.out c.loop-v.next c.loop-v.invariant.0)

pub loop-v-preserved : goal.loop-v-preserved
loop-v-preserved c =
    let at = (goal.at.loop-v-preserved c).In-loop-v in
    let lt = known at in
    let l = c.loop-v in
    let placed = c.requires.0.formed.placed in
    elim c.if-ne.branch [
      | then-ne w ↦
          let body = no_input _ _ placed _ lt _ c.kind_of.ensures (search rules) in
          let stored = w.put_body-next.ensures in rw (w.next-is, w.out-is) (
            rest-room _ _ _ (from at) lt body l.out _ l.next _ l.invariant.0 stored,
            λ d r h. l.invariant.1 d r (more-stored _ _ _ (from at) lt body l.out l.next _ stored h),
          )
      | else-ne w ↦
          let input = is-input _ _ placed _ lt _ c.kind_of.ensures (search rules) in rw (w.next-is, w.out-is) (
            input-room _ _ _ (from at) lt input l.out l.next l.invariant.0,
            λ d r h. l.invariant.1 d r (input-stored _ _ _ (from at) lt input l.out l.next h),
          )
    ]

pub returns : goal.returns
returns c =
    let l = c.loop-v in
    let count = c.requires.0.formed.placed.prepared.table.variables in
    let none : vars_of c.args.s.now ≤ l.v = omega (arith, c.loop-v-test.false, c.variable_count-v-end.ensures, count) in
    l.invariant.1 _ _ (bodies-none _ _ c.requires.0.formed _ l.out l.next none)
