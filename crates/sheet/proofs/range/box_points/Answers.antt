-- `box_points` meets its contract. The invariant: the product so far times the points of the ranges left. Assumes nothing.
use borrow.Author.Rules.{rules}
use native.Mathlib.Omega.{arith}
use Rattle.sheet.proofs.Boxes.{ranges-nth, product-over, product-more, product-done}
use Rattle.sheet.proofs.range.box_points.Goals as goal

pub side-product-requires : goal.side-product-requires
side-product-requires c = ranges-nth _ _ _ _ (omega arith) c.requires

pub returns-then-product-gt4096 : goal.returns-then-product-gt4096
returns-then-product-gt4096 c = product-over c.loop-i.invariant (search rules) c.side-product.ensures.is (search rules)

pub loop-i-preserved : goal.loop-i-preserved
loop-i-preserved c = product-more c.loop-i.invariant (search rules) c.side-product.ensures.is (search rules)

pub returns : goal.returns
returns c = product-done c.loop-i.invariant (search rules)
