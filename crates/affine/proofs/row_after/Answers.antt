-- `row_after` meets its contract: each coefficient is the row's times a column of the map. Assumes nothing.
use mathlib.Core.Path.{ap, ◌∙◌}
use Rattle.std.proofs.Common.{rules, w64}
use Rattle.std.proofs.lemmas.Int.{to_z-of_z}
use Rattle.alpha.specs.Sheet.{Point}
use Rattle.alpha.specs.Affine.{row_at}
use Rattle.affine.specs.Value.{row_of}
use Rattle.affine.proofs.Meaning.{neat-four, after_is}
use Rattle.affine.proofs.row_after.Goals as goal

pub returns : goal.returns
returns c =
    let w = c.args.w in
    let y = c.four.ensures in
    rw (y.are, to_z-of_z w64 c.row_at.result (search rules)) (after_is c.args.f w c.requires.0 c.requires.1 y.first y.second y.third y.fourth c.row_at.result
    (search rules) (search rules) (search rules) (search rules)
    (c.row_at.ensures 4 (neat-four w c.requires.0.rows_few c.requires.1)
    ∙ ap (λ (z : Point). row_at (row_of 4 w) z) c.constants_of.ensures))
