-- One digit, or as many as the greatest power of ten says. Assumes nothing.
use Rattle.std.proofs.Common.{length, sym, ap}
use Rattle.text.proofs.Numbers.{nat_text-one, nat_text-count}
use Rattle.text.proofs.number.digit_count.Goals as goal

pub returns-then-n-lt10 : goal.returns-then-n-lt10
returns-then-n-lt10 c = sym (ap length (nat_text-one c.args.n c.if-n-lt10.true))

pub returns-else-n-lt10 : goal.returns-else-n-lt10
returns-else-n-lt10 c = nat_text-count c.args.n c.ilog10.result c.ilog10.ensures.bound c.ilog10.ensures.power_le c.ilog10.ensures.next_power_gt
