-- `evaluate::known` meets its contract: the entry's code and value are those that the memo has. Assumes nothing.
use mathlib.Core.Path.{refl}
use Prim.Native.Nat.{◌/◌, ◌%◌}
use native.Mathlib.Omega.{arith}
use lib.ListN.{get_or}
use lib.IntN.{pos, ◌-ℤ◌}
use Rattle.std.proofs.Common.{w64, rules}
use Rattle.std.proofs.lemmas.Int.{to_z-of_z, to_z_pos}
use Rattle.integer.proofs.Sizes.{sub-fits}
use Rattle.integer.specs.Range.{Says}
use Rattle.evaluate.specs.Memo.{memo_of, saved_at}
use Rattle.evaluate.proofs.Entries.{entry-code, entry_value}
use Rattle.evaluate.proofs.memo.known.Goals as goal

pub returns-then-code-gt-BUSY : goal.returns-then-code-gt-BUSY
returns-then-code-gt-BUSY c =
    (omega (arith, entry-code c.args.memo.now c.args.e, c.if-code-gt-BUSY.true), refl)

pub returns : goal.returns
returns c =
    let code = entry-code c.args.memo.now c.args.e in
    let value = entry_value c.args.memo.now c.args.e in
    let n = get_or c.args.memo.now c.args.e 0 / 8 % 4294967296 in
    let whole = to_z_pos w64 n (omega arith) in
    let exact = to_z-of_z w64 (pos n -ℤ pos 2147483648) (sub-fits (pos n) (pos 2147483648) (omega arith)) in
    let is = simp (whole, exact) at c.decoded.ensures.is in
    let small = simp (whole, exact) at c.decoded.ensures.small in
    let says : Says c.decoded.result (saved_at (memo_of c.args.memo.now) c.args.e) = rw (code, value) (record { is = is; small = small (search rules) }) in
    (omega (arith, code, c.if-code-gt-BUSY.false), says)
