-- `domain::declared_meets` meets its contract: a constraint of another variable, or this one's at the point. Assumes nothing.
use mathlib.Core.Path.{sym, ap, ◌∙◌}
use Prim.Native.Nat.{◌+◌}
use native.Mathlib.Omega.{arith}
use Rattle.alpha.specs.Affine as Affine
use Rattle.affine.specs.Value.{point_of}
use Rattle.tree.proofs.Declaring.{who-there, who-known}
use Rattle.domain.specs.Constraints.{constraint_fields}
use Rattle.domain.proofs.Filled.{other-meets, own_meets}
use Rattle.domain.proofs.inside.declared_meets.Goals as goal

pub natural-who-requires : goal.natural-who-requires
natural-who-requires c = who-there _ _ c.requires.0 _ c.requires.1.read

pub returns-then-who-v : goal.returns-then-who-v
returns-then-who-v c =
    let is = c.natural-who.ensures in
    λ d q e. other-meets _ _ _ _ d q e (λ x. c.if-who-v.true (is ∙ x))

pub dimension_of-n-requires : goal.dimension_of-n-requires
dimension_of-n-requires c =
    let p = c.requires in
    (p.0, omega (arith, who-known _ _ p.0 _ p.1.read, c.natural-who.ensures, c.if-who-v.false))

pub returns : goal.returns
returns c =
    let s = c.args in
    let is = c.natural-who.ensures in
    λ d q e.
    c.meets.ensures
    ∙ ap (λ n. Affine.meets (constraint_fields n s.s.now (s.at + 8)) (point_of n s.z)) c.dimension_of-n.ensures.0
    ∙ own_meets _ _ _ _ d q e (sym is ∙ c.if-who-v.false)
