-- The element, the outcome that the tables have at its number, and a newline. Assumes nothing.
use mathlib.Core.Path.{◌≡◌, ap, ◌∙◌}
use Prim.Native.Nat.{◌+◌, ◌^◌, ◌≤◌, ◌<◌}
use native.Mathlib.Omega.{arith}
use lib.ListN.{length, get_or}
use lib.IntN.{pos}
use lib.Signed.{mag}
use mir.Syntax.{w32, w64}
use Rattle.std.proofs.lemmas.Int.{to_z-of_z, ints}
use borrow.Author.Rules.{sfits_of}
use Rattle.alpha.specs.Kinds.{sort_meant}
use Rattle.alpha.specs.Holds.{variable}
use Rattle.alpha.specs.Ask.{before}
use Rattle.alpha.specs.Verdict.{outcome_of}
use Rattle.alpha.specs.Program.{outcome_text}
use Rattle.laws.specs.Sheets.{sheet_of}
use Rattle.text.specs.Lines.{outcome_in, line_of}
use Rattle.text.proofs.Writing.{wrote-more, wrote-is}
use Rattle.text.proofs.Outcomes.{outcome-length}
use Rattle.text.proofs.Variables.{laid, laid-sort, laid-number}
use Rattle.text.proofs.report.Report.line.Goals.{After-first_element, After-sort_of-sort}
use Rattle.text.proofs.report.Report.line.Goals as goal

-- the element's number has an entry in the tables
number-low : (c : After-first_element) → c.first_element.result + c.args.i < 4096
number-low c = rw c.first_element.ensures (laid-number _ _ c.requires.formed _ c.requires.point.known c.args.i c.requires.point.low)

-- its number is that of the definition
number_is : (c : After-first_element) → c.first_element.result + c.args.i ≡ before (sheet_of c.args.self.now.sheet.now) c.args.v + c.args.i
number_is c =
    ap (λ n. n + c.args.i) (c.first_element.ensures ∙ (laid _ _ c.requires.formed _ c.requires.point.known).first_is)

-- the outcome's text is that of the definition
outcome-is : (c : After-sort_of-sort) →
    (number_is : c.first_element.result + c.args.i ≡ before (sheet_of c.args.self.now.sheet.now) c.args.v + c.args.i) →
    outcome_text (sort_meant c.sort_of-sort.result) (outcome_of c.decoded-o.result)
    ≡ outcome_text (variable (sheet_of c.args.self.now.sheet.now) c.args.v).head.sort
    (outcome_in c.args.self.now.codes.now c.args.self.now.values.now (before (sheet_of c.args.self.now.sheet.now) c.args.v + c.args.i))
outcome-is c number_is =
    let r = c.args.self.now in
    let sort = laid-sort r.sheet.now _ c.requires.formed c.args.v c.requires.point.known c.sort_of-sort.result c.sort_of-sort.ensures in
    let fits : mag (get_or r.values.now (c.first_element.result + c.args.i) (pos 0)) < 2147483648 = omega arith in
    let wide : mag (get_or r.values.now (c.first_element.result + c.args.i) (pos 0)) < 2 ^ 63 = omega arith in
    let x = get_or r.values.now (c.first_element.result + c.args.i) (pos 0) in
    rw (c.decoded-o.ensures.is, c.from.ensures, to_z-of_z w32 x (sfits_of fits), to_z-of_z w64 x (sfits_of wide), number_is, sort)

-- and it is short
outcome-few : (c : After-sort_of-sort) → length (outcome_text (sort_meant c.sort_of-sort.result) (outcome_of c.decoded-o.result)) ≤ 14
outcome-few c =
    let fits : mag (get_or c.args.self.now.values.now (c.first_element.result + c.args.i) (pos 0)) < 2147483648 = omega arith in
    let small = c.decoded-o.ensures.small (rw (c.from.ensures) (grind (arith, ints, to_z-of_z))) in
    outcome-length (sort_meant c.sort_of-sort.result) c.decoded-o.result _ (record { is = c.decoded-o.ensures.is; small = small })

pub first_element-requires : goal.first_element-requires
first_element-requires c = omega (arith, (laid _ _ c.requires.formed _ c.requires.point.known).low)

pub overflow_add-n : goal.overflow_add-n
overflow_add-n c = omega (arith, number-low (goal.at.overflow_add-n c).After-first_element)

pub bounds-self-n : goal.bounds-self-n
bounds-self-n c = number-low (goal.at.bounds-self-n c).After-first_element

pub offset_bounds-self-n : goal.offset_bounds-self-n
offset_bounds-self-n c = omega (arith, number-low (goal.at.offset_bounds-self-n c).After-first_element)

pub bounds-self-n-2 : goal.bounds-self-n-2
bounds-self-n-2 c = number-low (goal.at.bounds-self-n-2 c).After-first_element

pub outcome-requires : goal.outcome-requires
outcome-requires c = omega (arith, outcome-few (goal.at.outcome-requires c).After-sort_of-sort, c.requires.room)

pub byte-requires : goal.byte-requires
byte-requires c = omega (arith, outcome-few (goal.at.byte-requires c).After-sort_of-sort, c.requires.room)

pub returns : goal.returns
unfolding line_of
returns c =
    let few = outcome-few (goal.at.returns c).After-sort_of-sort in
    let is = outcome-is (goal.at.returns c).After-sort_of-sort (number_is (goal.at.returns c).After-first_element) in
    record { wrote = wrote-more (wrote-more c.element.ensures.wrote (wrote-is c.outcome.ensures is)) c.byte.ensures; few = omega (arith, few) }
