-- Part by part: the opening has at most 14 bytes. Assumes nothing.
use mathlib.Core.Path.{ap}
use Prim.Native.Nat.{◌≤◌}
use native.Mathlib.Omega.{arith}
use lib.ListN.{length}
use Rattle.alpha.specs.Program.{nat_text}
use Rattle.domain.proofs.Records.{laid-total}
use Rattle.text.specs.Lines.{report_in}
use Rattle.text.proofs.Writing.{wrote-more, wrote-is}
use Rattle.text.proofs.Numbers.{nat_text-length}
use Rattle.text.proofs.report.Report.write.Goals.{Start}
use Rattle.text.proofs.report.Report.write.Goals as goal

-- there are at most 4,096 elements, and their number has at most four digits
total-few : (c : Start) → (c.args.self.now.total ≤ 4096) × (length (nat_text c.args.self.now.total) ≤ 4)
total-few c =
    let few : c.args.self.now.total ≤ 4096 = omega (arith, c.requires.accepted.counted, laid-total _ _ c.requires.accepted.formed.placed) in
    (few, nat_text-length c.args.self.now.total 3 (omega arith))

pub natural-requires : goal.natural-requires
natural-requires c = omega (arith, (total-few (goal.at.natural-requires c).Start).1, c.requires.room)

pub byte-requires : goal.byte-requires
byte-requires c = omega (arith, (total-few (goal.at.byte-requires c).Start).1, c.requires.room)

pub lines-requires : goal.lines-requires
lines-requires c =
    let few = total-few (goal.at.lines-requires c).Start in
    record { formed = c.requires.accepted.formed; room = omega (arith, c.requires.accepted.counted, few.0, few.1, c.requires.room) }

pub returns : goal.returns
unfolding report_in
returns c =
    let few = total-few (goal.at.returns c).Start in
    let number = wrote-is c.natural.ensures (ap nat_text c.requires.accepted.counted) in
    let opened = wrote-more (wrote-more c.word.ensures number) c.byte.ensures in
    record { wrote = wrote-more opened c.lines.ensures.wrote; few = omega (arith, c.requires.accepted.counted, c.lines.ensures.few, few.0, few.1) }
