-- `is_taken` meets its contract: every record is asked. Assumes nothing.
use borrow.Author.Rules.{rules}
use borrow.Author.Tests.{tests}
use mathlib.Core.Path.{◌∙◌}
use Rattle.std.proofs.lemmas.Iterator.{YieldsList-from_slice}
use Rattle.std.proofs.lemmas.Iterator.Adapters.{serves_from_places}
use Rattle.std.proofs.lemmas.Iterator.Search.{any_from_yields_List}
use Rattle.alpha.specs.Field.{same_bytes, eight}
use Rattle.sheet.proofs.Heads.{known-place}
use Rattle.sheet.proofs.Names.{taken-any}
use Rattle.sheet.proofs.name.is_taken.Goals as goal

pub any-requires-clause-callable : goal.any-requires-clause-callable
any-requires-clause-callable c =
    serves_from_places (YieldsList-from_slice c.args.records.now cc) (λ x q k. search rules)
    (λ x i h e. let there = known-place c.requires.1 x.now i h e in search rules)

pub returns : goal.returns
returns c =
    let s = c.args.s.now in
    let records = c.args.records.now in
    any_from_yields_List (λ q. same_bytes (eight s c.args.at) (eight s q)) _ _ c.any.result c.any.ensures.ran
    (YieldsList-from_slice records cc) (λ x b q k. search (rules, tests))
    ∙ taken-any s records c.args.at
