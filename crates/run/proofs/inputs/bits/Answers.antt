-- `run::bits` meets its contract. The loop's invariant: the entries from the i-th on decide. Assumes nothing.
use mir.Syntax.{w32}
use mir.Val.{SFits}
use mir.Facts.{to_z-of_z}
use borrow.Author.Rules.{rules}
use lib.ListN.{get_or}
use lib.IntN.{ℤ, pos}
use Rattle.run.proofs.Listing.{under-bit, over-bit, one-bit, bits-fail, bits-on, bits-end}
use Rattle.run.proofs.inputs.bits.Goals.{then-x-lt0-via-then-x-lt0, then-x-lt0-via-else-x-lt0+then-x-gt1}
use Rattle.run.proofs.inputs.bits.Goals as goal

pub returns-then-x-lt0 : goal.returns-then-x-lt0
returns-then-x-lt0 c =
    let x : ℤ = get_or c.args.part.now c.loop-i.i (pos 0) in
    let fits : SFits w32 x = search rules in
    let kept = to_z-of_z fits in
    elim c.then-x-lt0.branch [
      | then-x-lt0-via-then-x-lt0 w ↦
          bits-fail _ _ _ c.loop-i-test.true c.loop-i.invariant (under-bit x (rw kept at w.if-x-lt0.true))
      | then-x-lt0-via-else-x-lt0+then-x-gt1 w ↦
          bits-fail _ _ _ c.loop-i-test.true c.loop-i.invariant (over-bit x (rw kept at w.if-x-gt1.true))
    ]

pub loop-i-preserved : goal.loop-i-preserved
loop-i-preserved c =
    let x : ℤ = get_or c.args.part.now c.loop-i.i (pos 0) in
    let fits : SFits w32 x = search rules in
    let kept = to_z-of_z fits in
    bits-on _ _ _ c.loop-i-test.true c.loop-i.invariant (one-bit x (rw kept at c.if-x-lt0.false) (rw kept at c.if-x-gt1.false))

pub returns : goal.returns
returns c = bits-end _ _ _ c.loop-i-test.false c.loop-i.invariant
