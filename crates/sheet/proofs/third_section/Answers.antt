-- `third_section` meets its contract: the count, then so many. Assumes nothing.
use borrow.Author.Rules.{rules}
use Rattle.alpha.specs.Read.{node}
use Rattle.sheet.specs.Section.{third_section}
use Rattle.sheet.proofs.Sequences.{counted-place}
use Rattle.sheet.proofs.third_section.Goals as goal

pub returns : goal.returns
unfolding third_section
returns c = counted-place (node c.args.n) c.args.s.now _ (λ p q h. search rules) 2048 _ _ c.counted.ensures
