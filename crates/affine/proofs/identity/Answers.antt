-- `identity` meets its contract: each row has its mark, and zeros elsewhere. Assumes nothing.
use Rattle.std.proofs.Common.{◌≡◌, refl, pos, rules}
use Rattle.affine.specs.Value.{mark_of, marked_row}
use Rattle.affine.proofs.Meaning.{identity-is}
use Rattle.affine.proofs.identity.Goals as goal

pub returns : goal.returns
returns c =
    let r = c.four.ensures in
    let n = c.args.n in
    let a : r.first ≡ marked_row 0 n = search rules in
    let b : r.second ≡ marked_row 1 n = search rules in
    let d : r.third ≡ marked_row 2 n = search rules in
    let e : r.fourth ≡ marked_row 3 n = search rules in
    let both = identity-is (mark_of 0 n) (mark_of 1 n) (mark_of 2 n) (mark_of 3 n) (pos 0) refl n c.requires refl refl refl refl in
    rw (r.are, a, b, d, e) (both.0, both.1, refl, refl)
