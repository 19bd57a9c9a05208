-- `normal::put_constraints` meets its contract. The loop's invariant: storing the constraints that are left gives what storing them all gives
-- at the start. Assumes nothing.
use mathlib.Core.Path.{◌≡◌, refl, ap, ◌∙◌}
use Prim.Native.Nat.{ℕ, ◌+◌, ◌*◌, ◌-◌, ◌<◌}
use native.Mathlib.Nat.{mul-le-mul_right}
use native.Mathlib.Omega.{arith}
use lib.ListN.{length}
use lib.Seq.{length-sets}
use mathlib.Core.List.{List}
use Rattle.alpha.specs.Affine.{constraint_after}
use Rattle.alpha.specs.Written.{constraint_bytes}
use Rattle.affine.specs.declared.Map.{Map}
use Rattle.affine.specs.Value.{map_of}
use Rattle.domain.specs.Constraints.{constraint_fields}
use Rattle.normal.proofs.Laying.{one_less}
use Rattle.normal.proofs.Composed.{composable-first, composable-rest, limits-again, limits-over}
use Rattle.normal.proofs.rows.put_constraints.Goals as goal

-- the bytes of one
abbrev stored : Map → ℕ → List ℕ → ℕ → List ℕ
stored m n bs p = constraint_bytes (constraint_after (map_of m) (constraint_fields n bs p))

pub loop-k-init : goal.loop-k-init
loop-k-init c = let all : c.args.count - 0 ≡ c.args.count = omega arith in rw all (refl, refl, c.requires.composable, refl)

pub put_constraint-requires : goal.put_constraint-requires
put_constraint-requires c =
    let l = c.loop-k in
    let more : 0 < c.args.count - l._k = omega (arith, c.loop-k-test.true) in
    let room = mul-le-mul_right (16 + 8 * c.args.m.now.width) more in
    record { neat = c.requires.neat; dims = c.requires.dims; composable = composable-first _ _ _ _ _ more l.invariant.2; room = omega (arith, c.requires.room) }

pub overflow_add-from-in-loop-k : goal.overflow_add-from-in-loop-k
overflow_add-from-in-loop-k c =
    let l = c.loop-k in
    let more : 0 < c.args.count - l._k = omega (arith, c.loop-k-test.true) in
    omega (arith, (composable-first _ _ _ _ _ more l.invariant.2).there)

pub overflow_add-p-in-loop-k : goal.overflow_add-p-in-loop-k
overflow_add-p-in-loop-k c =
    let l = c.loop-k in
    let more : 0 < c.args.count - l._k = omega (arith, c.loop-k-test.true) in
    omega (arith, mul-le-mul_right (16 + 8 * c.args.m.now.width) more, c.requires.room)

pub loop-k-preserved : goal.loop-k-preserved
loop-k-preserved c =
    let l = c.loop-k in
    let left = c.args.count - l._k in
    let more : 0 < c.args.count - l._k = omega (arith, c.loop-k-test.true) in
    let next : c.args.count - (l._k + 1) ≡ c.args.count - l._k - 1 = omega arith in
    let put = c.put_constraint.ensures in rw next (
      limits-again _ _ _ c.args.m.now _ more _ _ put ∙ l.invariant.0,
      ap length put ∙ length-sets l.out l.p (stored c.args.m.now c.args.n c.args.s.now l.from) ∙ l.invariant.1,
      composable-rest _ _ _ _ _ more l.invariant.2,
      one_less l.p left (16 + 8 * c.args.m.now.width) _ more l.invariant.3,
    )

pub returns : goal.returns
returns c =
    let l = c.loop-k in
    limits-over _ _ _ c.args.m.now _ _ _ (omega (arith, c.loop-k-test.false)) ∙ l.invariant.0
