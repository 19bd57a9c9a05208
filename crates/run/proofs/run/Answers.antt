-- `run::run` meets its contract, way by way. Assumes nothing.
use mathlib.Core.Path.{◌≡◌, refl, sym}
use native.Mathlib.Omega.{arith}
use Rattle.std.proofs.lemmas.Result.{err_from_is_err_and}
use Rattle.alpha.specs.Answer.{accepted}
use Rattle.alpha.specs.Check.{total}
use Rattle.alpha.specs.Run.{inputs}
use Rattle.laws.specs.Sheets.{sheet_of}
use Rattle.domain.proofs.Records.{laid-total, placed-grounds}
use Rattle.accept.specs.Admits.{Admitted}
use Rattle.accept.proofs.Steps.{long-refuses}
use Rattle.run.proofs.Listing.{inputs-length}
use Rattle.run.proofs.Beginning.{started_none, no-end-kept, accepted-covered, started-ready, started-idle, started-right}
use Rattle.run.proofs.Running.{unread-runs, inputs-runs, total_is, codes-runs, values-runs, all_runs}
use Rattle.run.proofs.run.Goals.{In_ok-total, In_ok-inputs}
use Rattle.run.proofs.run.Goals.{then-codes-total-via-then-codes-total, then-codes-total-via-else-codes-total+then-values-total}
use Rattle.run.proofs.run.Goals as goal

-- the sheet is accepted
admits : (c : In_ok-total) → Admitted c.args.s.now c.form.new.tab c.admit.new.inside
admits c = c.in_ok-total.ensures.admitted _ refl

many : (c : In_ok-total) → c.in_ok-total.total ≡ total (sheet_of c.args.s.now)
many c = total_is _ c.args.ins.now c.args.codes.now c.args.values.now _ (admits c).sheet_is _ c.in_ok-total.ensures.answer

-- and so is the list
taken : (c : In_ok-inputs) → accepted tt ≡ inputs (sheet_of c.args.s.now) c.args.ins.now
taken c = c.in_ok-inputs.ensures

pub returns-then-too_long : goal.returns-then-too_long
returns-then-too_long c = unread-runs _ _ _ _ _ (long-refuses _ c.too_long.ensures c.if-too_long.true)

pub returns-in_err-count : goal.returns-in_err-count
returns-in_err-count c =
    let back = err_from_is_err_and c.from_residual.result c.from_residual.ensures.1 in
    rw (back.1, back.2) (unread-runs _ _ _ _ _ (c.in_err-count.ensures.refuses _ refl))

pub returns-in_err-total : goal.returns-in_err-total
returns-in_err-total c =
    let back = err_from_is_err_and c.from_residual-in_err-total.result c.from_residual-in_err-total.ensures.1 in
    rw (back.1, back.2) (unread-runs _ _ _ _ _ c.in_err-total.ensures.answer)

pub returns-in_err-inputs : goal.returns-in_err-inputs
returns-in_err-inputs c =
    let back = err_from_is_err_and c.from_residual-in_err-inputs.result c.from_residual-in_err-inputs.ensures.1 in
    let a = admits (goal.at.returns-in_err-inputs c).In_ok-total in
    rw (back.1, back.2) (inputs-runs _ _ c.args.codes.now c.args.values.now _ a.sheet_is _ c.in_err-inputs.ensures)

pub returns-then-codes-total : goal.returns-then-codes-total
returns-then-codes-total c =
    let way = goal.at.returns-then-codes-total c in
    let a = admits way.In_ok-total in
    elim c.then-codes-total.branch [
      | then-codes-total-via-then-codes-total w ↦
          codes-runs _ _ _ c.args.values.now _ a.sheet_is (taken way.In_ok-inputs) _ (many way.In_ok-total) w.if-codes-total.true
      | then-codes-total-via-else-codes-total+then-values-total w ↦
          values-runs _ _ _ _ _ a.sheet_is (taken way.In_ok-inputs) _ (many way.In_ok-total) w.if-codes-total.false w.if-values-total.true
    ]

pub keep_all-requires : goal.keep_all-requires
keep_all-requires c = ((admits (goal.at.keep_all-requires c).In_ok-total).formed.placed, no-end-kept _)

pub start-requires : goal.start-requires
start-requires c =
    let way = goal.at.start-requires c in
    let a = admits way.In_ok-total in (
      record {
        formed = a.formed;
        many = inputs-length _ _ (sym (taken way.In_ok-inputs));
      },
      started_none _ _,
    )

pub invariant_of-ground : goal.invariant_of-ground
invariant_of-ground c =
    let a = admits (goal.at.invariant_of-ground c).In_ok-total in record { grounds = placed-grounds _ _ _ a.formed.placed a.filled }

pub invariant_of-evaluator : goal.invariant_of-evaluator
invariant_of-evaluator c =
    let a = admits (goal.at.invariant_of-evaluator c).In_ok-total in
    record { kept = c.keep_all.ensures; ready = started-ready _ _ _ (laid-total _ _ a.formed.placed) c.start.ensures (accepted-covered _ a.sheet_is) }

pub fill_all-requires : goal.fill_all-requires
fill_all-requires c =
    let way = goal.at.fill_all-requires c in
    let a = admits way.In_ok-total in
    let n = many way.In_ok-total in (
      a.formed,
      record {
        idle = started-idle _ _ _ (laid-total _ _ a.formed.placed) c.start.ensures;
        in_codes = omega (arith, n, c.if-codes-total.false);
        in_values = omega (arith, n, c.if-values-total.false);
      },
    )

pub returns : goal.returns
returns c =
    let way = goal.at.returns c in
    let a = admits way.In_ok-total in
    let few = laid-total _ _ a.formed.placed in
    all_runs _ _ _ _ _ a.sheet_is (taken way.In_ok-inputs) _ (many way.In_ok-total) c.if-codes-total.false c.if-values-total.false _
    (started-right _ _ _ few c.start.ensures) _ _ c.fill_all.ensures.filled
