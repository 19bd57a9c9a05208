-- `declared` meets its contract: the variable's number, then a constraint of its dimension. Assumes nothing.
use native.Mathlib.Omega.{arith}
use mathlib.Core.Path.{sym, ap, ◌∙◌}
use Prim.Native.Nat.{ℕ, ◌-◌, ◌≤◌, ◌<◌, ◌+◌}
use lib.ListN.{length, get_or}
use Rattle.sheet.specs.Record.{heads_at}
use Rattle.alpha.specs.Read.{constraint, dimension}
use Rattle.sheet.specs.Place.{place_after}
use Rattle.sheet.proofs.Places.{choice-came, counted}
use Rattle.sheet.proofs.Readers.{goes_on, stops, handed-on}
use Rattle.sheet.proofs.Heads.{heads-dimension, declared-known}
use Rattle.sheet.proofs.constraint.declared.Goals.{After-count_at-v}
use Rattle.sheet.proofs.constraint.declared.Goals as goal

number : (c : After-count_at-v) → c.count_at-v.result < length c.args.records.now
number c =
    let last = length c.args.records.now - 1 in
    let h = counted 0 last (choice-came c.args.s.now c.args.at last c.in_ok-p.ensures) in
    let e = c.count_at-v.ensures in
    let one = c.requires.some in
    omega arith

-- its record stands where it is said to
recorded : (c : After-count_at-v) → get_or c.args.records.now c.count_at-v.result 0 + 32 ≤ length c.args.s.now
recorded c = (c.requires.known.recorded _ (number c)).fields

pub returns-in_err-p : goal.returns-in_err-p
returns-in_err-p c = handed-on _ _ c.from_residual.ensures.1 (stops _ c.in_err-p.ensures ∙ sym (declared-known _ _ c.args.at))

pub count_at-v-requires : goal.count_at-v-requires
count_at-v-requires c = (choice-came _ _ (length c.args.records.now - 1) c.in_ok-p.ensures).there

pub offset_bounds-records-v : goal.offset_bounds-records-v
offset_bounds-records-v c =
    let v = number (goal.at.offset_bounds-records-v c).After-count_at-v in let f = c.requires.known.few in record { fits = omega arith }

pub bounds-records-v : goal.bounds-records-v
bounds-records-v c = number (goal.at.bounds-records-v c).After-count_at-v

pub overflow_add-records : goal.overflow_add-records
overflow_add-records c = let r = recorded (goal.at.overflow_add-records c).After-count_at-v in record { fits = omega arith }

pub count_at-dimension-requires : goal.count_at-dimension-requires
count_at-dimension-requires c = let r = recorded (goal.at.count_at-dimension-requires c).After-count_at-v in omega arith

pub returns : goal.returns
returns c =
    let s = c.args.s.now in
    let records = c.args.records.now in
    let hs = heads_at s records in
    let own = heads-dimension s records _ (number (goal.at.returns c).After-count_at-v) in
    let same = c.count_at-dimension.ensures ∙ sym own ∙ ap (dimension hs) c.count_at-v.ensures in
    c.constraint.ensures
    ∙ ap (λ (d : ℕ). place_after (constraint d s c.in_ok-p.p)) same
    ∙ goes_on _ c.in_ok-p.ensures
    ∙ sym (declared-known s records c.args.at)
