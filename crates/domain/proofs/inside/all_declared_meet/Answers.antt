-- `domain::all_declared_meet` meets its contract. The loop's invariant: those that are left stand there and decide. Assumes nothing.
use mathlib.Core.Path.{◌≡◌, ap, ◌∙◌}
use Prim.Native.Nat.{◌+◌, ◌-◌}
use native.Mathlib.Omega.{arith}
use lib.IntN.{nat_abs}
use Rattle.alpha.specs.Field.{field}
use Rattle.laws.specs.Sheets.{raw_of}
use Rattle.tree.proofs.Declaring.{section-there}
use Rattle.domain.proofs.Records.{laid-variable}
use Rattle.domain.proofs.Filled.{meets-left, none-left-meets, first-met, first-testable, one-fails-meets, one-meets}
use Rattle.domain.proofs.inside.all_declared_meet.Goals.{After-second_place-second}
use Rattle.domain.proofs.inside.all_declared_meet.Goals as goal

-- the second section's place, where its count is
second_is : (c : After-second_place-second) → c.second_place-second.result ≡ (raw_of c.args.s.now).second
second_is c = c.second_place-second.ensures ∙ c.requires.0.placed.prepared.table.second

pub overflow_add-p : goal.overflow_add-p
overflow_add-p c =
    omega (arith, section-there _ _ c.requires.0.placed.prepared, second_is (goal.at.overflow_add-p c).After-second_place-second)

pub natural-end-requires : goal.natural-end-requires
natural-end-requires c =
    omega (arith, section-there _ _ c.requires.0.placed.prepared, second_is (goal.at.natural-end-requires c).After-second_place-second)

pub loop-init : goal.loop-init
loop-init c =
    let e = second_is (goal.at.loop-init c).After-second_place-second in
    let all : c.natural-end.result - 0 ≡ c.natural-end.result = omega arith in
    meets-left _ _ c.args.z _ c.requires.0 c.requires.1.known _ _
    (all ∙ c.natural-end.ensures ∙ ap (λ p. nat_abs (field c.args.s.now p)) e) (ap (λ p. p + 8) e)

pub declared_meets-requires : goal.declared_meets-requires
declared_meets-requires c =
    let p = c.requires in
    let laid = laid-variable _ _ p.0.placed _ p.1.known in
    (p.0.placed.prepared, first-testable _ _ c.args.z _ _ c.loop.invariant _ laid p.1.in-box (omega (arith, c.loop-test.true)))

pub returns-then-not-declared_meets : goal.returns-then-not-declared_meets
returns-then-not-declared_meets c =
    one-fails-meets _ _ c.args.z _ _ c.loop.invariant (omega (arith, c.loop-test.true)) _ c.declared_meets.ensures c.if-not-declared_meets.true

pub next_declared-p-requires : goal.next_declared-p-requires
next_declared-p-requires c =
    (c.requires.0.placed.prepared, (first-met _ _ c.args.z _ _ c.loop.invariant (omega (arith, c.loop-test.true))).read)

pub loop-preserved : goal.loop-preserved
loop-preserved c =
    let fewer : c.natural-end.result - (c.loop.counter + 1) ≡ c.natural-end.result - c.loop.counter - 1 = omega arith in
    rw fewer (one-meets _ _ c.args.z _ _ c.loop.invariant (omega (arith, c.loop-test.true)) _ c.declared_meets.ensures c.if-not-declared_meets.false
    _ c.next_declared-p.ensures)

pub returns : goal.returns
returns c = none-left-meets _ _ c.args.z _ _ c.loop.invariant (omega (arith, c.loop-test.false))
