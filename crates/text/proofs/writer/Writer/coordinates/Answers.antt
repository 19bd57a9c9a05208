-- A coordinate is a space and its number. Assumes nothing.
use Rattle.std.proofs.Common.{◌<◌, ◌^◌, [], ◌∷◌, get_or, refl, ap, arith}
use lib.IntN.{pos}
use lib.Signed.{mag}
use mir.Syntax.{w64}
use mir.Facts.{to_z-of_z}
use borrow.Author.Rules.{sfits_of}
use Rattle.alpha.specs.Program.{int_text}
use Rattle.text.proofs.Elements.{spaced-more}
use Rattle.text.proofs.Writing.{wrote-is, going-wrote, going-room}
use Rattle.text.proofs.writer.Writer.coordinates.Goals as goal

pub byte-requires : goal.byte-requires
byte-requires c =
    let l = c.loop-x in
    going-room l.invariant (32 ∷ []) _ (spaced-more l.x-index c.args.z.now c.loop-x-test.true) c.requires

pub loop-x-preserved : goal.loop-x-preserved
loop-x-preserved c =
    let l = c.loop-x in
    let space = going-wrote l.invariant _ (spaced-more l.x-index c.args.z.now c.loop-x-test.true) c.byte.ensures in
    let fits : mag (get_or c.args.z.now l.x-index (pos 0)) < 2 ^ 63 = omega arith in
    going-wrote space _ refl (wrote-is c.signed.ensures (ap int_text (to_z-of_z {w = w64} (sfits_of fits))))
