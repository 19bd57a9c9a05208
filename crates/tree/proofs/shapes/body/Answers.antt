-- `tree::body` meets its contract: an input has no body, and any other variable the tree of its dimension. Assumes nothing.
use mathlib.Core.Path.{ap, ◌∙◌}
use Rattle.tree.specs.Judged.{tree_judged}
use Rattle.std.proofs.Common.{rules}
use Rattle.tree.proofs.Bodying.{body-tree}
use Rattle.tree.proofs.shapes.body.Goals as goal

pub returns : goal.returns
returns c =
    let s = c.args in
    let r = c.shape.ensures in
    record {
      is =
          r.is ∙ ap (tree_judged s.s.now s.from 32) c.dimension_of.ensures.0
          ∙ body-tree _ _ _ _ c.kind_of.ensures (search rules);
      flat = r.flat;
    }
