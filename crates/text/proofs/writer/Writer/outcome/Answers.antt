-- What is left of the search: one arm. Assumes nothing.
use mathlib.Core.Path.{ap, sym}
use Rattle.alpha.specs.Kinds.{sort_meant}
use Rattle.alpha.specs.Program.{outcome_text}
use Rattle.alpha.specs.Verdict.{outcome_of}
use Rattle.text.proofs.Writing.{wrote-is}
use Rattle.text.proofs.writer.Writer.outcome.Goals as goal

pub returns-in-Overflow : goal.returns-in-Overflow
returns-in-Overflow c = wrote-is c.word-in-Overflow.ensures (sym (ap (λ o. outcome_text (sort_meant c.args.sort) (outcome_of o)) c.in-Overflow.is))
