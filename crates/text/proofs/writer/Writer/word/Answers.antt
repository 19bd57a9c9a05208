-- What is copied stands there. Assumes nothing.
use mathlib.Core.Path.{refl}
use Rattle.text.proofs.Writing.{wrote_copied}
use Rattle.text.proofs.writer.Writer.word.Goals as goal

pub returns : goal.returns
returns c = wrote_copied _ _ _ _ c.copy_from_slice.ensures.after c.requires refl refl refl
