-- What is written from the start on is what the buffer has in the end. Assumes nothing.
use Rattle.std.proofs.Common.{rules, arith}
use Rattle.program.proofs.Printing.{prints-text, prints-back}
use Rattle.program.proofs.answer.answer.Goals as goal

pub returns : goal.returns
returns c =
    let start = c.new-w.ensures in
    let p = prints-text 208910 _ _ _ _ (omega arith) start.buffer start.start c.if-out-lt208910.false c.respond.ensures in
    prints-back c.respond.new.w p (search rules) c.written.ensures
