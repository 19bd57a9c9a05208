-- `tree::declared_within` meets its contract. The loop's invariant: those that are left stand there and decide. Assumes nothing.
use mathlib.Core.Path.{◌≡◌, ap, ◌∙◌}
use Prim.Native.Nat.{◌+◌, ◌-◌}
use native.Mathlib.Omega.{arith}
use lib.IntN.{nat_abs}
use Rattle.alpha.specs.Field.{field}
use Rattle.laws.specs.Sheets.{raw_of}
use Rattle.tree.proofs.Declaring.{all_left, first-declared, one-declared-fails, one-declared-passes}
use Rattle.tree.proofs.Declaring.{declared-there, section-there}
use Rattle.tree.proofs.reaches.declared_within.Goals.{After-second_place-second}
use Rattle.tree.proofs.reaches.declared_within.Goals as goal

-- the second section's place, where its count is
second_is : (c : After-second_place-second) → c.second_place-second.result ≡ (raw_of c.args.s.now).second
second_is c = c.second_place-second.ensures ∙ c.requires.table.second

pub natural-many-requires : goal.natural-many-requires
natural-many-requires c =
    omega (arith, section-there _ _ c.requires, second_is (goal.at.natural-many-requires c).After-second_place-second)

pub overflow_add-p : goal.overflow_add-p
overflow_add-p c =
    omega (arith, section-there _ _ c.requires, second_is (goal.at.overflow_add-p c).After-second_place-second)

pub loop-init : goal.loop-init
loop-init c =
    let e = second_is (goal.at.loop-init c).After-second_place-second in
    let many = c.natural-many.ensures ∙ ap (λ p. nat_abs (field c.args.s.now p)) e in
    all_left _ _ _ c.requires _ _ (omega (arith, many)) (ap (λ p. p + 8) e)

pub declared_passes-requires : goal.declared_passes-requires
declared_passes-requires c =
    (c.requires, (first-declared _ _ _ _ c.loop.invariant (omega arith)).read)

pub returns-then-not-declared_passes : goal.returns-then-not-declared_passes
returns-then-not-declared_passes c =
    one-declared-fails _ _ _ _ c.loop.invariant (omega arith) _ c.declared_passes.ensures c.if-not-declared_passes.true

pub declared_len-p-requires : goal.declared_len-p-requires
declared_len-p-requires c = (c.requires, (first-declared _ _ _ _ c.loop.invariant (omega arith)).read)

pub overflow_add-p-in-loop : goal.overflow_add-p-in-loop
overflow_add-p-in-loop c =
    let f = first-declared _ _ _ _ c.loop.invariant (omega arith) in
    omega (arith, declared-there _ _ c.requires _ f.read, c.declared_len-p.ensures)

pub loop-preserved : goal.loop-preserved
loop-preserved c =
    let less : c.natural-many.result - (c.loop.counter + 1) ≡ c.natural-many.result - c.loop.counter - 1 = omega arith in
    let says = c.declared_passes.ensures in
    rw less (one-declared-passes _ _ _ _ c.loop.invariant (omega arith) _ says c.if-not-declared_passes.false _ c.declared_len-p.ensures)
