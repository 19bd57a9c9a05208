-- `accept::find_body` meets its contract. Assumes nothing.
use mathlib.Core.Path.{refl, ◌∙◌}
use Rattle.alpha.specs.declared.Refusal.TheVariants.{Long}
use Rattle.accept.proofs.Steps.{long-refuses}
use Rattle.accept.proofs.Parts.{refused-part, refused-none, ok-some, accepted-part}
use Rattle.accept.proofs.find_body.Goals as goal

pub returns-then-too_long : goal.returns-then-too_long
returns-then-too_long c =
    let refuses = long-refuses _ c.too_long.ensures c.if-too_long.true in
    record { is = refused-part _ _ _ Long refl refuses; there = tt }

pub returns-in_err-ok : goal.returns-in_err-ok
returns-in_err-ok c =
    rw c.from_residual.ensures (record { is = refused-none _ _ _ c.in_err-ok.ensures.value c.judge.ensures.admits.answer; there = tt })

pub returns : goal.returns
returns c =
    let admitted = c.judge.ensures.admits.admitted _ (ok-some _ _ c.in_ok-ok.ensures.value) in
    let p = c.part_of.ensures in
    record { is = accepted-part _ _ admitted.sheet_is ∙ p.is; there = p.there }
