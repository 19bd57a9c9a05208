-- What is written is the program's output to what was read, and so to the input. Assumes nothing.
use Rattle.std.proofs.Common.{rules, take, replicate}
use Rattle.alpha_run.proofs.Whole.{told-part, writes-whole}
use Rattle.alpha_run.proofs.answer_from.Goals as goal

pub returns : goal.returns
returns g c =
    let read = take c.in_ok-n.n c.read_full.new.buf in
    let text = take c.answer-len.result c.answer-len.new.out in
    let output = c.answer-len.ensures in
    let told = told-part read (replicate 208910 0) c.answer-len.new.out c.answer-len.result output.text output.long (search rules) in
    writes-whole (g.R.Read.remaining c.args.input.now) _ _ read text c.write_all.result c.in_ok-n.ensures.first told c.write_all.ensures.bytes
