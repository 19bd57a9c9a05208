-- Part by part. Assumes nothing.
use mathlib.Core.Path.{ap}
use native.Mathlib.Omega.{arith}
use Rattle.alpha.specs.Program.{nat_text, refusal}
use Rattle.text.proofs.Writing.{wrote-more, wrote-is}
use Rattle.text.proofs.Numbers.{nat_text-few}
use Rattle.text.proofs.report.refusal.Goals as goal

pub returns : goal.returns
unfolding refusal
returns c =
    let numbered = wrote-more c.word.ensures (wrote-is c.natural.ensures (ap nat_text c.number.ensures)) in
    let placed = wrote-more (wrote-more numbered c.word-2.ensures) (wrote-is c.natural-2.ensures (ap nat_text c.place.ensures)) in
    record { wrote = wrote-more placed c.byte.ensures; few = omega (arith, nat_text-few c.number.result, nat_text-few c.place.result) }
