-- `second_section` meets its contract: the count, then so many. Assumes nothing.
use borrow.Author.Rules.{rules}
use Rattle.alpha.specs.Read.{declared}
use Rattle.sheet.specs.Record.{heads_at}
use Rattle.sheet.specs.Section.{second_section}
use Rattle.sheet.proofs.Sequences.{counted-place}
use Rattle.sheet.proofs.second_section.Goals as goal

pub returns : goal.returns
unfolding second_section
returns c =
    let a = c.args in
    counted-place (declared (heads_at a.s.now a.records.now)) a.s.now _ (λ p q h. search rules) 256 _ _ c.counted.ensures
