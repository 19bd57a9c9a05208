-- `name_tail` meets its contract: the bytes from the first that may not stand in a name on are zero. Assumes nothing.
use borrow.Author.Rules.{rules}
use borrow.Author.Tests.{tests}
use mathlib.Core.Path.{◌∙◌}
use mathlib.Core.Bool.{not}
use Prim.Native.Nat.{◌-◌}
use lib.ListN.{length, take, drop}
use lib.Dec.{eqb}
use Rattle.std.proofs.lemmas.Iterator.{YieldsList-from_slice}
use Rattle.std.proofs.lemmas.Iterator.Search.{all_from_yields_List, position_from_yields_List}
use Rattle.sheet.specs.Name.{in_name}
use Rattle.sheet.proofs.Names.{found-end, tail-all}
use Rattle.sheet.proofs.name.name_tail.Goals as goal

pub returns : goal.returns
returns c =
    let bytes = c.args.bytes.now in
    let first = position_from_yields_List (λ b. not (in_name b)) _ _ c.position.result c.position.ensures.ran
    (YieldsList-from_slice bytes cc) (λ x b q k. search (rules, tests)) in
    let rest = take (length bytes - c.unwrap_or-end.result) (drop c.unwrap_or-end.result bytes) in
    let zero = all_from_yields_List (λ b. eqb b 0) _ _ c.all.result c.all.ensures.ran
    (YieldsList-from_slice rest cc) (λ x b q k. search (rules, tests)) in
    (rw (found-end bytes first c.unwrap_or-end.ensures) at zero) ∙ tail-all bytes
