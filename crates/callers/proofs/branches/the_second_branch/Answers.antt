-- `callers::the_second_branch` keeps what `follow` requires: the case has that branch, and there is room for it. Assumes nothing.
use Rattle.normal.specs.declared.Half.TheVariants.{Tree}
use Rattle.normal.proofs.Bodies.{half-route}
use Rattle.callers.proofs.Case.{second_fits}
use Rattle.callers.proofs.branches.the_second_branch.Goals as goal

pub follow-pen-requires : goal.follow-pen-requires
follow-pen-requires c = let m = c.identity.ensures in half-route _ _ _ _ _ second_fits.at _ m.0 m.1 m.2 Tree 0 _ second_fits
