-- `normal::normalise` keeps its promise: the sheet's refusals, then WIDE, then ROOM, or the normal form's bytes. Assumes nothing.
use mathlib.Core.Path.{refl, ◌∙◌}
use native.Mathlib.Omega.{arith}
use Rattle.std.proofs.lemmas.Result.{err_from_is_err_and}
use Rattle.alpha.specs.declared.Refusal.TheVariants.{Long}
use Rattle.tree.proofs.Heading.{prepared-read}
use Rattle.accept.proofs.Steps.{long-refuses}
use Rattle.normal.proofs.Normalising.{check_refuses, front-there, wide-refuses, plan-holds}
use Rattle.normal.proofs.normalise.Goals as goal

pub returns-then-too_long : goal.returns-then-too_long
returns-then-too_long c =
    check_refuses _ c.args.out.now _ Long refl (long-refuses _ c.too_long.ensures c.if-too_long.true)

pub returns-in_err-judge : goal.returns-in_err-judge
returns-in_err-judge c =
    let p = err_from_is_err_and c.from_residual.result c.from_residual.ensures.1 in
    rw (p.1, p.2) (check_refuses _ c.args.out.now _ _ c.in_err-judge.was c.judge.ensures.admits.answer)

pub overflow_add-front : goal.overflow_add-front
overflow_add-front c =
    let admitted = c.judge.ensures.admits.admitted _ c.in_ok-judge.was in
    let third = c.third_place.ensures ∙ admitted.formed.placed.prepared.table.third in
    omega (arith, third, front-there _ _ admitted.formed admitted.sheet_is, (prepared-read _ _ admitted.formed.placed.prepared).short)

pub plan-requires : goal.plan-requires
plan-requires c =
    let admitted = c.judge.ensures.admits.admitted _ c.in_ok-judge.was in
    let third = c.third_place.ensures ∙ admitted.formed.placed.prepared.table.third in
    record {
      formed = admitted.formed;
      known = omega arith;
      nodes_low = omega arith;
      size_low =
          omega (arith, third, front-there _ _ admitted.formed admitted.sheet_is, (prepared-read _ _ admitted.formed.placed.prepared).short);
    }

pub returns-in_err-totals : goal.returns-in_err-totals
returns-in_err-totals c =
    let admitted = c.judge.ensures.admits.admitted _ c.in_ok-judge.was in
    let p = err_from_is_err_and c.from_residual-in_err-totals.result c.from_residual-in_err-totals.ensures.1 in
    rw (p.1, p.2)
    (wide-refuses _ _ admitted.formed admitted.sheet_is _ c.third_place.ensures _ c.plan.ensures c.args.out.now _ c.in_err-totals.was)

pub write_all-requires : goal.write_all-requires
write_all-requires c =
    let admitted = c.judge.ensures.admits.admitted _ c.in_ok-judge.was in
    plan-holds _ _ admitted.formed admitted.sheet_is _ c.third_place.ensures _ c.plan.ensures _ c.in_ok-totals.was
