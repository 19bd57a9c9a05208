-- `points::index_in` meets its contract: coordinate by coordinate, the number from here is the number asked for. Assumes nothing.
use Rattle.std.specs.Prelude.{Some, None}
use Rattle.std.proofs.Common.{◌≡◌, ◌+◌, ◌*◌, ◌-◌, ◌<◌, ◌∙◌, sym, ap, arith, rules, w64}
use Rattle.std.proofs.lemmas.Int.{to_z-of_z}
use native.Mathlib.Nat.{mul-le-mul}
use Rattle.affine.specs.Value.{at}
use Rattle.sheet.specs.Record.{range_at}
use Rattle.points.specs.Number.{digit_in}
use Rattle.points.proofs.Steps.{kept_start, kept_low, kept-end, kept_off, kept_more, digit_low}
use Rattle.points.proofs.index_in.Goals.{After-digit}
use Rattle.points.proofs.index_in.Goals as goal

-- the code's digit is that of the coordinate
digit-is : (c : After-digit) → c.digit.result ≡ digit_in (range_at c.args.s.now (c.args.at + 16 * c.loop-i.i)) (at c.args.z c.loop-i.i)
digit-is c =
    c.digit.ensures ∙ ap (digit_in (range_at c.args.s.now (c.args.at + 16 * c.loop-i.i))) (to_z-of_z w64 (at c.args.z c.loop-i.i) (search rules))

pub loop-i-init : goal.loop-i-init
loop-i-init c = let all : c.args.n - 0 ≡ c.args.n = omega arith in rw all (kept_start _ c.requires)

pub returns-in_err-d : goal.returns-in_err-d
returns-in_err-d c =
    let left : 0 < c.args.n - c.loop-i.i = grind arith in
    let is = digit-is (goal.at.returns-in_err-d c).After-digit in
    let off : c.digit.result ≡ None = search rules in
    let asked = kept_off _ left c.loop-i.invariant (sym is ∙ off) in search (rules, asked)

pub overflow_mul-e : goal.overflow_mul-e
overflow_mul-e c =
    record { fits = omega (arith, mul-le-mul (kept_low _ c.loop-i.invariant) c.side.ensures.small) }

pub overflow_add-e : goal.overflow_add-e
overflow_add-e c =
    let is = digit-is (goal.at.overflow_add-e c).After-digit in
    let found : c.digit.result ≡ Some c.in_ok-d.d = search rules in
    let low = digit_low (range_at c.args.s.now (c.args.at + 16 * c.loop-i.i)) (at c.args.z c.loop-i.i) _ (sym is ∙ found) in
    record {
      fits =
          omega (arith, mul-le-mul (kept_low _ c.loop-i.invariant) c.side.ensures.small, low, c.side.ensures.is, c.side.ensures.small);
    }

pub loop-i-preserved : goal.loop-i-preserved
loop-i-preserved c =
    let left : 0 < c.args.n - c.loop-i.i = grind arith in
    let is = digit-is (goal.at.loop-i-preserved c).After-digit in
    let found : c.digit.result ≡ Some c.in_ok-d.d = search rules in
    let place : c.args.at + 16 * c.loop-i.i + 16 ≡ c.args.at + 16 * (c.loop-i.i + 1) = omega arith in
    let fewer : c.args.n - c.loop-i.i - 1 ≡ c.args.n - (c.loop-i.i + 1) = omega arith in
    let next = kept_more _ _ left c.loop-i.invariant (sym is ∙ found) in
    rw c.side.ensures.is (rw (place, fewer) at next)

pub returns : goal.returns
returns c =
    kept-end _ (grind arith) c.loop-i.invariant
