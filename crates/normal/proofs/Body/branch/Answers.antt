-- `normal::branch` meets its contract: the restriction's first two numbers, its constraints, how many they are, its tree. Assumes nothing.
use mathlib.Core.Path.{◌≡◌}
use Prim.Native.Nat.{◌+◌, ◌^◌, ◌≤◌, max}
use native.Mathlib.Omega.{arith}
use borrow.Author.Rules.{rules}
use Rattle.alpha.specs.Field.{nat}
use Rattle.normal.specs.Followed.{room_of}
use Rattle.normal.proofs.Laid.{laid_room}
use Rattle.normal.proofs.Bodies.{head-room, given-at, count-room, term-at, nodes-fit, branch-put}
use Rattle.normal.proofs.Body.branch.Goals.{After-half-term, Start}
use Rattle.normal.proofs.Body.branch.Goals as goal

-- there is room for the restriction's own numbers
room : (c : Start) → (c.args.sofar.bytes + 24 ≤ 2 ^ 40) × (c.args.sofar.bytes + 24 ≤ room_of c.args.self.now.mode c.args.out.now)
room c = head-room _ _ _ _ _ c.requires.0 c.args.self.now.mode c.args.sofar c.args.out.now c.requires.1

pub put-requires : goal.put-requires
put-requires c = omega (arith, room (goal.at.put-requires c).Start)

pub overflow_add-to : goal.overflow_add-to
overflow_add-to c = omega (arith, room (goal.at.overflow_add-to c).Start)

pub put-requires-2 : goal.put-requires-2
put-requires-2 c =
    let a = c.args in
    omega (arith, room (goal.at.put-requires-2 c).Start, laid_room a.self.now.mode a.out.now a.sofar.bytes (nat 7) c.put.ensures)

pub overflow_add-to-2 : goal.overflow_add-to-2
overflow_add-to-2 c = omega (arith, room (goal.at.overflow_add-to-2 c).Start)

pub half-given-requires : goal.half-given-requires
half-given-requires c =
    let a = c.args in
    given-at _ _ _ _ _ c.requires.0 a.self.now.mode a.sofar a.out.now c.requires.1 _ _ c.put.ensures c.put-2.ensures

pub overflow_add-to-3 : goal.overflow_add-to-3
overflow_add-to-3 c = omega (arith, room (goal.at.overflow_add-to-3 c).Start)

pub put-requires-3 : goal.put-requires-3
put-requires-3 c =
    let a = c.args in
    omega (
      arith,
      count-room _ _ _ _ _ c.requires.0 a.self.now.mode a.sofar a.out.now c.requires.1 _ _ c.put.ensures c.put-2.ensures _ _ c.half-given.ensures,
    )

pub half-term-requires : goal.half-term-requires
half-term-requires c =
    let a = c.args in
    term-at _ _ _ _ _ c.requires.0 a.self.now.mode a.sofar a.out.now c.requires.1 _ _ c.put.ensures c.put-2.ensures _ _ c.half-given.ensures _
    c.put-3.ensures

-- the nodes fit
nodes : (c : After-half-term) → c.args.sofar.nodes + 1 + c.half-term.result.things ≤ 2 ^ 41
nodes c =
    let a = c.args in
    nodes-fit _ _ _ _ _ c.requires.0 a.self.now.mode a.sofar a.out.now c.requires.1 _ _ c.put.ensures c.put-2.ensures _ _ c.half-given.ensures _
    c.put-3.ensures _ _ c.half-term.ensures

pub overflow_add-result : goal.overflow_add-result
overflow_add-result c = omega (arith, nodes (goal.at.overflow_add-result c).After-half-term)

pub overflow_add-result-2 : goal.overflow_add-result-2
overflow_add-result-2 c = omega (arith, nodes (goal.at.overflow_add-result-2 c).After-half-term)

pub returns : goal.returns
returns c =
    let a = c.args in
    let limits : c.max.result ≡ max a.sofar.limits c.half-given.result.things = search rules in
    let deep : c.max-2.result ≡ max a.sofar.deep c.half-term.result.deep = search rules in
    rw (limits, deep)
    (branch-put _ _ _ _ _ c.requires.0 a.self.now.mode a.sofar a.out.now c.requires.1 _ _ c.put.ensures c.put-2.ensures _ _ c.half-given.ensures _
    c.put-3.ensures _ _ c.half-term.ensures)
