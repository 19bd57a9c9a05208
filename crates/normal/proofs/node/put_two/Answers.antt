-- `normal::put_two` meets its contract: the code, and then the field after it. Assumes nothing.
use mathlib.Core.Path.{ap, ◌∙◌}
use mathlib.Core.List.{◌++◌}
use lib.Seq.{sets}
use lib.IntN.{nat_abs}
use Rattle.std.proofs.Common.{rules, w64}
use Rattle.std.proofs.lemmas.Int.{to_z-of_z}
use Rattle.alpha.specs.Field.{field, nat, num}
use Rattle.normal.proofs.Laying.{sets-after, length-nat}
use Rattle.normal.proofs.node.put_two.Goals as goal

pub returns : goal.returns
returns c =
    let a = c.args in
    let code = c.natural in
    let x = c.number_at in
    let put = rw (to_z-of_z w64 x.result (search rules)) at c.put.ensures in
    sets-after a.out.now a.to 8 (nat code.result) (num x.result) (length-nat code.result) c.put_nat.ensures
    put
    ∙ ap (λ i. sets a.out.now a.to (nat i ++ num x.result)) code.ensures
    ∙ ap (λ y. sets a.out.now a.to (nat (nat_abs (field a.s.now a.at)) ++ num y)) x.ensures
