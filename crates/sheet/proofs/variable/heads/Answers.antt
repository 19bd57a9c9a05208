-- `heads` meets its contract. The invariant: the first k records were read, and the table has their places and first elements. Assumes nothing.
use borrow.Author.Rules.{rules}
use native.Mathlib.Omega.{arith}
use Rattle.sheet.specs.Record.{heads_at, places}
use Rattle.sheet.proofs.Readers.{handed}
use Rattle.sheet.proofs.Variables.{HeadRead, head-came, capped_small}
use Rattle.sheet.proofs.Variables.{reading-stops, reading-over, reading-more, reading-done, filled-fills}
use Rattle.sheet.proofs.variable.heads.Goals.{In_ok-end}
use Rattle.sheet.proofs.variable.heads.Goals as goal

-- the record after the first k was read
read : (c : In_ok-end) → HeadRead (heads_at c.args.s.now (places c.loop-k.table c.loop-k.k)) c.args.s.now c.loop-k.p c.in_ok-end.end
read c = head-came (heads_at c.args.s.now (places c.loop-k.table c.loop-k.k)) c.args.s.now c.loop-k.p c.in_ok-end.end c.in_ok-end.ensures

pub returns-in_err-end : goal.returns-in_err-end
returns-in_err-end c = reading-stops c.loop-k.invariant (search rules) _ _ (handed _ _ c.from_residual.ensures.1) c.in_err-end.ensures

pub overflow_add-p : goal.overflow_add-p
overflow_add-p c = let r = (read (goal.at.overflow_add-p c).In_ok-end).recorded.fields in record { fits = omega arith }

pub overflow_add-p-in-loop-k : goal.overflow_add-p-in-loop-k
overflow_add-p-in-loop-k c = let r = (read (goal.at.overflow_add-p-in-loop-k c).In_ok-end).recorded.fields in record { fits = omega arith }

pub count_at-requires : goal.count_at-requires
count_at-requires c = let r = (read (goal.at.count_at-requires c).In_ok-end).recorded.fields in omega arith

pub box_points-points-requires : goal.box_points-points-requires
box_points-points-requires c = rw c.count_at.ensures (read (goal.at.box_points-points-requires c).In_ok-end).recorded.ranges

pub overflow_add-total : goal.overflow_add-total
overflow_add-total c =
    let few = c.loop-k.invariant.few in
    let most = capped_small _ c.box_points-points.ensures in
    record { fits = omega arith }

pub returns-then-total-points-gt4096 : goal.returns-then-total-points-gt4096
returns-then-total-points-gt4096 c =
    let counts = rw c.count_at.ensures at c.box_points-points.ensures in
    reading-over c.loop-k.invariant (search rules) (read (goal.at.returns-then-total-points-gt4096 c).In_ok-end) counts (search rules)

pub loop-k-preserved : goal.loop-k-preserved
loop-k-preserved c =
    let counts = rw c.count_at.ensures at c.box_points-points.ensures in
    reading-more c.loop-k.invariant (search rules) (read (goal.at.loop-k-preserved c).In_ok-end) counts (search rules)

pub returns : goal.returns
returns c = filled-fills (reading-done c.loop-k.invariant (search rules))
