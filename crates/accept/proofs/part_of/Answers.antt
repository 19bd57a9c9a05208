-- `accept::part_of` meets its contract. Assumes nothing.
use Rattle.std.proofs.Common.{rules}
use mathlib.Core.Path.{◌≡◌, refl}
use Prim.Native.Nat.{◌<◌}
use native.Mathlib.Omega.{arith}
use Rattle.laws.specs.Sheets.{vars_of}
use Rattle.domain.proofs.Records.{laid-variable}
use Rattle.accept.proofs.Parts.{places-ordered, body-part}
use Rattle.accept.proofs.part_of.Goals.{In_ok-v}
use Rattle.accept.proofs.part_of.Goals as goal

-- the variable is one of the sheet's
low : (c : In_ok-v) → c.in_ok-v.v < vars_of c.args.s.now
low c = let known = c.in_ok-v.ensures in omega (arith, known.0, known.1, c.requires.placed.prepared.table.variables)

pub body_place-start-requires : goal.body_place-start-requires
body_place-start-requires c =
    omega (arith, (laid-variable _ _ c.requires.placed _ (low (goal.at.body_place-start-requires c).In_ok-v)).low)

pub body_place-end-requires : goal.body_place-end-requires
body_place-end-requires c =
    omega (arith, (laid-variable _ _ c.requires.placed _ (low (goal.at.body_place-end-requires c).In_ok-v)).low)

pub overflow_sub-result : goal.overflow_sub-result
overflow_sub-result c =
    let lt = low (goal.at.overflow_sub-result c).In_ok-v in
    omega (
      arith,
      c.body_place-start.ensures,
      c.body_place-end.ensures,
      places-ordered _ _ c.requires _ lt _ c.kind_of.ensures (search rules),
    )

pub returns : goal.returns
returns c =
    let is : c.in_ok-v.v ≡ c.args.variable = c.in_ok-v.ensures.0 in
    let from = c.body_place-start.ensures in
    let to = c.body_place-end.ensures in
    rw (← is)
    (body-part _ _ c.requires _ (low (goal.at.returns c).In_ok-v) _ c.kind_of.ensures (search rules) _ from (rw (from, to) refl))
