-- `accept::element` meets its contract: Rattle finds the other ways through by the laws that the function names. Assumes nothing.
use mathlib.Core.Path.{refl}
use Rattle.alpha.specs.declared.Refusal.TheVariants.{Long}
use Rattle.accept.proofs.Steps.{long-refuses}
use Rattle.accept.proofs.Asked.{refused-number}
use Rattle.accept.proofs.element.Goals as goal

pub returns-then-too_long : goal.returns-then-too_long
returns-then-too_long c =
    record { answer = refused-number _ _ _ _ Long refl (long-refuses _ c.too_long.ensures c.if-too_long.true) }
