-- `limited` meets its contract: cut, within the limits or off them. Assumes nothing.
use native.Mathlib.Omega.{arith}
use mathlib.Core.Path.{◌≡◌, sym, ap, ◌∙◌}
use mathlib.Core.Bool.{true, false}
use Rattle.std.proofs.lemmas.Int.{ints, to_z-of_z}
use Rattle.alpha.specs.Answer.{refused}
use Rattle.alpha.specs.Box.{within}
use Rattle.alpha.specs.Verdict.{number_of}
use Rattle.sheet.proofs.Places.{passing-cut, passing-refused, passing-to}
use Rattle.sheet.proofs.field.limited.Goals as goal

pub returns-then-not-room : goal.returns-then-not-room
returns-then-not-room c = passing-cut _ _ _ _ c.if-not-room.ensures

pub returns-then-x-hi : goal.returns-then-x-hi
returns-then-x-hi c =
    let a = c.args in
    let w : within a.lo a.hi c.number_at-x.result ≡ true = grind (arith, ints, to_z-of_z) in
    passing-to _ _ _ _ c.if-not-room.ensures (rw c.number_at-x.ensures at (sym w))

pub returns-else-lo-x : goal.returns-else-lo-x
returns-else-lo-x c =
    let a = c.args in
    let w : within a.lo a.hi c.number_at-x.result ≡ false = grind (arith, ints, to_z-of_z) in
    ap (refused (number_of a.off)) c.requires ∙ passing-refused _ _ _ _ c.if-not-room.ensures (rw c.number_at-x.ensures at (sym w))
