-- The last digit of what is left goes before the others, and the first one is what is left in the end. Assumes nothing.
use mathlib.Core.Path.{refl, ap}
use Prim.Native.Nat.{◌+◌}
use native.Mathlib.Omega.{arith}
use Rattle.text.proofs.Writing.{backward_start, backward-byte, backward_end}
use Rattle.text.proofs.Numbers.{nat_text-one, nat_text-more, nat_text-some}
use Rattle.text.proofs.writer.Writer.natural.Goals as goal

pub loop-left-init : goal.loop-left-init
loop-left-init c = backward_start _ _ _ (ap (λ k. c.args.self.now.at + k) c.digit_count.ensures)

pub overflow_sub-place : goal.overflow_sub-place
overflow_sub-place c =
    let l = c.loop-left in
    omega (arith, l.invariant.place, nat_text-some l.left)

pub bounds-self-place : goal.bounds-self-place
bounds-self-place c =
    let l = c.loop-left in
    let g = l.invariant in
    omega (arith, g.place, g.fits, g.sized, nat_text-some l.left, c.requires)

pub loop-left-preserved : goal.loop-left-preserved
loop-left-preserved c =
    let l = c.loop-left in
    backward-byte l.invariant _ _ _ _ (nat_text-more l.left (omega arith) c.loop-left-test.true) refl refl refl refl

pub bounds-self-self : goal.bounds-self-self
bounds-self-self c =
    let g = c.loop-left.invariant in
    omega (arith, g.start, g.sized, nat_text-some c.args.n, c.requires)

pub returns : goal.returns
returns c =
    let l = c.loop-left in
    backward_end l.invariant _ _ (nat_text-one l.left c.loop-left-test.false) refl (ap (λ k. c.args.self.now.at + k) c.digit_count.ensures) refl
