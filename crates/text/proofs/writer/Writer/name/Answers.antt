-- The eight bytes at the place are the name's field. Assumes nothing.
use mathlib.Core.Path.{◌≡◌, ap, ◌∙◌}
use native.Mathlib.Omega.{arith}
use lib.ListN.{length}
use Rattle.alpha.specs.Field.{eight}
use Rattle.alpha.specs.Program.{trimmed}
use Rattle.text.proofs.Elements.{eight-cut}
use Rattle.text.proofs.Writing.{wrote-is}
use Rattle.text.proofs.writer.Writer.name.Goals.{After-trimmed}
use Rattle.text.proofs.writer.Writer.name.Goals as goal

named : (c : After-trimmed) → c.trimmed.result.now ≡ trimmed (eight c.args.s.now c.args.place)
named c = c.trimmed.ensures ∙ ap trimmed (eight-cut c.args.s.now c.args.place c.requires.0)

pub word-requires : goal.word-requires
word-requires c = omega (arith, ap length (named (goal.at.word-requires c).After-trimmed), c.requires.1)

pub returns : goal.returns
returns c = wrote-is c.word.ensures (named (goal.at.returns c).After-trimmed)
