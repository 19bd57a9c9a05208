-- `normal::half` meets its contract: the half is followed from the identity. Assumes nothing.
use Rattle.normal.proofs.Bodies.{half-route, half-put}
use Rattle.normal.proofs.Body.half.Goals as goal

pub follow-requires : goal.follow-requires
follow-requires c =
    let m = c.identity.ensures in
    half-route _ _ _ _ _ c.requires.at _ m.0 m.1 m.2 c.args.half c.args.to _ c.requires

pub returns : goal.returns
returns c =
    let a = c.args in
    let m = c.identity.ensures in
    half-put _ _ _ _ _ c.requires.at _ m.0 m.1 m.2 a.half a.self.now.mode a.to _ _ _ c.follow.ensures
