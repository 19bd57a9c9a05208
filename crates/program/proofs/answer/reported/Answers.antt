-- A refusal of the frame or of the run is the program's, and so is the report. Assumes nothing.
use Rattle.std.proofs.Common.{◌≡◌, length, replicate, ℕ, ℤ, pos}
use Rattle.std.proofs.lemmas.List.{length-replicate}
use Rattle.std.proofs.lemmas.Result.{err_from_is_err_and}
use mathlib.Core.Path.{refl, sym, ap, ◌∙◌}
use Rattle.alpha.specs.Program.{printed}
use Rattle.text.proofs.Writing.{wrote-is}
use Rattle.program.proofs.Running.{refused-verdict, accepted-total-is, accepted-verdict}
use Rattle.program.proofs.answer.reported.Goals as goal

codes-many : length {A = ℕ} (replicate 4096 0) ≡ 4096
codes-many = length-replicate {A = ℕ} 4096 0

values-many : length {A = ℤ} (replicate 4096 (pos 0)) ≡ 4096
values-many = length-replicate {A = ℤ} 4096 (pos 0)

pub returns-in_err-frame : goal.returns-in_err-frame
returns-in_err-frame c =
    let p = err_from_is_err_and c.from_residual.result c.from_residual.ensures.1 in
    rw (p.1, p.2) (refl, c.in_err-frame.ensures.answer)

pub returns-in_err-total : goal.returns-in_err-total
returns-in_err-total c =
    let p = err_from_is_err_and c.from_residual-in_err-total.result c.from_residual-in_err-total.ensures.1 in
    let is = refused-verdict _ _ _ _ _ _ _ _ c.values-many.ensures.0 codes-many values-many c.in_err-total.ensures _ refl in
    rw (p.1, p.2) (refl, c.in_ok-frame.ensures.answer ∙ is)

pub report-requires : goal.report-requires
report-requires c =
    (accepted-total-is _ _ _ _ _ _ _ _ c.values-many.ensures.0 codes-many values-many c.in_ok-total.ensures _ refl, c.requires)

pub returns : goal.returns
returns c =
    let is = accepted-verdict _ _ _ _ _ _ _ _ c.values-many.ensures.0 codes-many values-many c.in_ok-total.ensures _ refl c.report.ensures.1 in
    let wrote = c.report.ensures.0 in
    record { wrote = wrote-is wrote.wrote (ap printed (sym (c.in_ok-frame.ensures.answer ∙ is))); few = wrote.few }
