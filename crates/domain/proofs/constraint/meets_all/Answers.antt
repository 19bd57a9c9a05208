-- `domain::meets_all` meets its contract: each constraint is tested at its place. Assumes nothing.
use mathlib.Core.Path.{refl, ◌∙◌}
use native.Mathlib.Omega.{arith}
use Rattle.std.proofs.Common.{rules}
use Rattle.std.proofs.lemmas.Iterator.{YieldsList-from_range, serves_from_Range}
use Rattle.std.proofs.lemmas.Iterator.Search.{all_from_yields_List}
use Rattle.affine.specs.Value.{point_of}
use Rattle.domain.proofs.Restrictions.{meets_at, all-meet}
use Rattle.domain.proofs.constraint.meets_all.Goals as goal

pub all-requires-clause-callable : goal.all-requires-clause-callable
all-requires-clause-callable c = serves_from_Range (λ x q k. search rules) (λ i low lt. let t = c.requires.1 i lt in search rules parts 40)

pub returns : goal.returns
returns c =
    let a = c.args in
    all_from_yields_List (meets_at a.n a.s.now (point_of a.n a.z) a.at) _ _ _ c.all.ensures.ran (YieldsList-from_range 0 a.count a.count refl (omega arith))
    (λ i b q k. search rules)
    ∙ all-meet a.n a.s.now (point_of a.n a.z) a.at a.count 0 a.at (omega arith)
