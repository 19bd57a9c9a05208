-- `normal::put_constraints` meets its contract. The loop's invariant: storing the constraints that are left gives what storing them all gives
-- at the start. Assumes nothing.
use mathlib.Core.Path.{◌≡◌}
use Prim.Native.Nat.{◌+◌, ◌*◌, ◌-◌}
use lib.ListN.{length}
use lib.Seq.{sets}
use Rattle.normal.specs.Rows.{limit_bytes, AllComposable}
use Rattle.normal.proofs.rows.put_constraints.Given as goal

abbrev pub invariant-loop-k : goal.invariant-loop-k
invariant-loop-k l =
    (sets l.out l.p (limit_bytes l.m (l.count - l._k) l.n l.s l.from) ≡ sets l.initial.out l.to (limit_bytes l.m l.count l.n l.s l.at))
    × (length l.out ≡ length l.initial.out) × AllComposable (l.count - l._k) l.s l.from l.n l.m
    × (l.p + (l.count - l._k) * (16 + 8 * l.m.width) ≡ l.to + l.count * (16 + 8 * l.m.width))
