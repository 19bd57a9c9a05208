-- The call finds the first zero byte, if there is one. Assumes nothing.
use Rattle.std.proofs.Common.{rules, tests, ◌≡◌}
use Rattle.std.specs.List.{position}
use Rattle.std.proofs.lemmas.Iterator.{YieldsList-from_slice}
use Rattle.std.proofs.lemmas.Iterator.Search.{position_from_yields_List}
use lib.Dec.{eqb}
use Rattle.text.proofs.Elements.{trimmed-found}
use Rattle.text.proofs.line.trimmed.Goals as goal

pub returns : goal.returns
returns c =
    let all = YieldsList-from_slice _ c.iter.ensures.rest in
    let found : c.position.result ≡ position (λ b. eqb b 0) c.args.field.now =
    position_from_yields_List (λ b. eqb b 0) _ _ c.position.result c.position.ensures.ran all (λ x b q k. search (rules, tests)) in
    trimmed-found c.args.field.now c.position.result _ found c.unwrap_or-end.ensures
