-- What stands in the buffer after a text was written at its start. Assumes nothing.
use mathlib.Core.Path.{◌≡◌, ap, ◌∙◌}
use Prim.Native.Nat.{ℕ, ◌+◌, ◌≤◌, ◌<◌}
use native.Mathlib.Omega.{arith}
use mathlib.Core.List.{List, [], ◌++◌}
use lib.ListN.{length, drop, length-append}
use lib.Seq.{sets-eq}
use borrow.Author.Tests.{le-leb, lt-leb}
use Rattle.alpha.specs.Program.{printed, answered, program}
use Rattle.text.specs.declared.writer.Writer.{Writer}
use Rattle.text.specs.Wrote.{WroteFew}
use Rattle.program.specs.Printed.{printed_in, Prints}

-- nothing is written where too little is lent
pub prints-nothing : (bs out : List ℕ) → length out < 208910 → Prints bs out out 0
prints-nothing bs out h =
    let none : printed_in (length out) bs ≡ [] = rw (lt-leb 208910 (length out) h) in
    record { text = rw none; long = rw none }

-- a text from the start on is the output
pub prints-text : (n : ℕ) (bs out : List ℕ) (before after : Writer) → n ≤ 208910 → before.out.now ≡ out → before.at ≡ 0 → 208910 ≤ length out →
    WroteFew n before after (printed (answered bs)) → Prints bs out after.out.now after.at
unfolding program
prints-text n bs out before after few is start h w =
    let text = printed (answered bs) in
    let all : printed_in (length out) bs ≡ text = rw (le-leb 208910 (length out) h) in
    let e : 0 + length text ≡ length text = omega arith in
    let fits : 0 + length text ≤ length out = omega (arith, w.few, w.wrote.ends, start) in
    let stands : after.out.now ≡ text ++ drop (length text) out =
    rw (is, start) at w.wrote.is ∙ sets-eq text out 0 fits ∙ ap (λ k. text ++ drop k out) e in
    record { text = rw all stands; long = rw all (w.wrote.ends ∙ ap (λ k. k + length text) start ∙ e) }

-- the same of what the buffer holds once it is given back
pub prints-back : {bs out out' : List ℕ} {r : ℕ} (after : Writer) → Prints bs out after.out.now after.at → out' ≡ after.out.now → r ≡ after.at →
    Prints bs out out' r
prints-back after p e f = rw (e, f) p

-- the output lies within what is lent
pub prints-within : (bs out out' : List ℕ) (r : ℕ) → Prints bs out out' r → r ≤ length out'
prints-within bs out out' r p =
    let text = printed_in (length out) bs in
    omega (arith, p.long, ap length p.text, length-append text (drop (length text) out))
