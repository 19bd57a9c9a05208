-- `program::frame_of` meets its contract: one way out for each fault of the frame. Assumes nothing.
use Rattle.std.proofs.Common.{◌≡◌, ◌<◌, ◌≤◌, length, sym, ap, ◌∙◌, arith}
use Rattle.std.proofs.lemmas.Result.{err_from_is_err_and}
use lib.IntN.{pos, nat_abs}
use lib.Signed.{lt_z}
use mir.Syntax.{w64}
use mir.Val.{to_z, of_z}
use borrow.Author.Rules.{sfits_of}
use Rattle.alpha.specs.Field.{field}
use Rattle.program.proofs.Framing.{ok_or-none, field_read, frame-short, frame-long, frame-negative, frame_past, frame-parts}
use Rattle.program.proofs.input.frame_of.Goals.{After-from_le_bytes-n}
use Rattle.program.proofs.input.frame_of.Goals as goal

pub returns-in_err-field-clause-answer : goal.returns-in_err-field-clause-answer
returns-in_err-field-clause-answer c =
    let p = err_from_is_err_and c.from_residual.result c.from_residual.ensures.1 in
    let none = c.in_err-field.ensures.ok_part in
    let short : length c.args.input.now < 8 = rw none at c.split_first_chunk.ensures.cases in
    rw (p.1, p.2, ok_or-none _ _ _ c.in_err-field.ensures.value none) (frame-short _ short)

-- the length is there, and the code reads it
there : (c : After-from_le_bytes-n) → (8 ≤ length c.args.input.now) × (to_z w64 (of_z w64 c.from_le_bytes-n.result) ≡ field c.args.input.now 0)
there c =
    let first = rw c.in_ok-field.ensures.ok_part at c.split_first_chunk.ensures.cases in
    (omega (arith, first.2), field_read c.args.input.now _ (sfits_of c.from_le_bytes-n.type_inv) (rw first.0 at c.from_le_bytes-n.ensures))

pub returns-then-n-gt65536-clause-answer : goal.returns-then-n-gt65536-clause-answer
returns-then-n-gt65536-clause-answer c =
    let n = there (goal.at.returns-then-n-gt65536-clause-answer c).After-from_le_bytes-n in
    frame-long _ n.0 (ap (lt_z (pos 65536)) (sym n.1) ∙ c.if-n-gt65536.true)

pub returns-then-n-lt0-clause-answer : goal.returns-then-n-lt0-clause-answer
returns-then-n-lt0-clause-answer c =
    let n = there (goal.at.returns-then-n-lt0-clause-answer c).After-from_le_bytes-n in
    frame-negative _ n.0 (ap (lt_z (pos 65536)) (sym n.1) ∙ c.if-n-gt65536.false) (ap (λ x. lt_z x (pos 0)) (sym n.1) ∙ c.if-n-lt0.true)

pub returns-in_err-sheet-clause-answer : goal.returns-in_err-sheet-clause-answer
returns-in_err-sheet-clause-answer c =
    let p = err_from_is_err_and c.from_residual-in_err-sheet.result c.from_residual-in_err-sheet.ensures.1 in
    let n = there (goal.at.returns-in_err-sheet-clause-answer c).After-from_le_bytes-n in
    let first = rw c.in_ok-field.ensures.ok_part at c.split_first_chunk.ensures.cases in
    let none = c.in_err-sheet.ensures.ok_part in
    let past : length c.in_ok-field.rest.now < nat_abs (to_z w64 (of_z w64 c.from_le_bytes-n.result)) = rw none at c.split_at_checked.ensures.cases in
    let small = ap (lt_z (pos 65536)) (sym n.1) ∙ c.if-n-gt65536.false in
    let positive = ap (λ x. lt_z x (pos 0)) (sym n.1) ∙ c.if-n-lt0.false in
    rw (p.1, p.2, ok_or-none _ _ _ c.in_err-sheet.ensures.value none)
    (frame_past _ n.0 small positive (omega (arith, first.2, past, ap nat_abs n.1)))

pub returns-clause-answer : goal.returns-clause-answer
returns-clause-answer c =
    let n = there (goal.at.returns-clause-answer c).After-from_le_bytes-n in
    let first = rw c.in_ok-field.ensures.ok_part at c.split_first_chunk.ensures.cases in
    let parts = rw c.in_ok-sheet.ensures.ok_part at c.split_at_checked.ensures.cases in
    let small = ap (lt_z (pos 65536)) (sym n.1) ∙ c.if-n-gt65536.false in
    let positive = ap (λ x. lt_z x (pos 0)) (sym n.1) ∙ c.if-n-lt0.false in
    frame-parts _ n.0 small positive _ _ _ _ first.1 (ap nat_abs n.1) parts.0 parts.1 parts.2
