-- `normal::put_rows` meets its contract. The loop's invariant: storing the rows that are left gives what storing them all gives at the start.
-- Assumes nothing.
use mathlib.Core.Path.{◌≡◌, refl, ap, ◌∙◌}
use mathlib.Core.List.{[], append-nil}
use Prim.Native.Nat.{◌<◌, ◌+◌, ◌*◌}
use native.Mathlib.Omega.{arith}
use lib.ListN.{length, take}
use Rattle.std.proofs.lemmas.List.{get_or-take}
use Rattle.alpha.specs.Written.{row_bytes}
use Rattle.affine.specs.Value.{row_of}
use lib.Seq.{sets, length-sets, length-take-le}
use borrow.Author.Rules.{rules}
use Rattle.normal.proofs.Laying.{run, run-again, run-over, row_at, rows-run, row-at-long}
use Rattle.normal.proofs.rows.put_rows.Goals.{Start}
use Rattle.normal.proofs.rows.put_rows.Goals as goal

pub loop-row-init : goal.loop-row-init
loop-row-init c =
    let m = c.args.m.now in
    (ap (sets c.args.out.now c.args.to) (append-nil (run 0 m.height (row_at m)) ∙ rows-run m), refl, omega arith)

-- a slice of as many rows as there are
all : (c : Start) → length (take c.args.m.now.height c.args.m.now.rows) ≡ c.args.m.now.height
all c = search (rules, length-take-le)

pub loop-row-preserved : goal.loop-row-preserved
loop-row-preserved c =
    let l = c.loop-row in
    let m = c.args.m.now in
    let more : l.row-index < m.height = omega (arith, all (goal.at.loop-row-preserved c).Start, c.loop-row-test.true) in
    let put : c.put_row.new.out ≡ sets l.out l.p (row_at m l.row-index) =
    c.put_row.ensures ∙ ap (λ r. sets l.out l.p (row_bytes (row_of m.width r))) (get_or-take m.height m.rows l.row-index _ more) in (
      run-again m.height (row_at m) l.out _ l.p l.row-index (8 * m.width + 8) [] more put (row-at-long m l.row-index) ∙ l.invariant.0,
      ap length put ∙ length-sets l.out l.p (row_at m l.row-index) ∙ l.invariant.1,
      omega arith,
    )

pub returns : goal.returns
returns c =
    let l = c.loop-row in
    let m = c.args.m.now in
    run-over m.height (row_at m) l.out l.p l.row-index [] (omega (arith, all (goal.at.returns c).Start, c.loop-row-test.false)) ∙ l.invariant.0
