-- `same_name` meets its contract: the slices are the fields' bytes. Assumes nothing.
use mathlib.Core.Path.{◌∙◌}
use Rattle.alpha.specs.Field.{eight}
use Rattle.sheet.proofs.Names.{eight-slice, same-pointwise}
use Rattle.sheet.proofs.name.same_name.Goals as goal

pub returns : goal.returns
returns c =
    let a = c.args in
    rw (eight-slice a.s.now a.p c.requires.0, eight-slice a.s.now a.q c.requires.1) at c.eq.ensures ∙ same-pointwise (eight a.s.now a.p) (eight a.s.now a.q)
