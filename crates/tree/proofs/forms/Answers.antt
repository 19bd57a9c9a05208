-- `tree::forms` meets its contract: SHAPE, then TYPE, then REACH, the first refusal deciding. Assumes nothing.
use Rattle.tree.proofs.Forming.{forms-rest}
use Rattle.tree.proofs.forms.Goals as goal

pub returns : goal.returns
returns c = forms-rest _ _ _ c.shapes.ensures c.in_ok-shapes.was _ c.types.ensures c.in_ok-types.was _ c.reaches.ensures
