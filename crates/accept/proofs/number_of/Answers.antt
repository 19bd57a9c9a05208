-- `accept::number_of` meets its contract, by each way through. Assumes nothing.
use mathlib.Core.Path.{◌≡◌, sym, ap, ◌∙◌}
use Prim.Native.Nat.{◌<◌, ◌+◌}
use native.Mathlib.Omega.{arith}
use lib.ListN.{length}
use Rattle.alpha.specs.Holds.{variable}
use Rattle.laws.specs.Sheets.{vars_of, sheet_of}
use Rattle.points.specs.Number.{number_in}
use Rattle.domain.proofs.Records.{VariableLaid, laid-variable}
use Rattle.accept.proofs.Asked.{other-asked, off-asked, found-asked, index_is, found-low}
use Rattle.accept.proofs.number_of.Goals.{After-index, In_ok-v}
use Rattle.accept.proofs.number_of.Goals as goal

-- the variable is one of the sheet's
low : (c : In_ok-v) → c.in_ok-v.v < vars_of c.args.s.now
low c = let known = c.in_ok-v.ensures in omega (arith, known.0, known.1, c.requires.placed.prepared.table.variables)

laid : (c : In_ok-v) → VariableLaid c.args.s.now c.args.tab.now c.in_ok-v.v
laid c = laid-variable _ _ c.requires.placed _ (low c)

-- what the index of the coordinates says of the point
index-says : (c : After-index) → c.in_ok-v.v < vars_of c.args.s.now →
    c.index.result ≡ number_in (variable (sheet_of c.args.s.now) c.in_ok-v.v).head.box c.args.point.now
index-says c lt =
    let dims = c.if-point-dimension_of.false ∙ c.dimension_of.ensures.0 in
    c.index.ensures
    ∙ index_is _ _ c.requires _ lt _ c.coordinates.result c.args.point.now c.record_place.ensures dims c.coordinates.ensures

pub returns-then-point-dimension_of : goal.returns-then-point-dimension_of
returns-then-point-dimension_of c =
    let is : c.in_ok-v.v ≡ c.args.variable = c.in_ok-v.ensures.0 in
    let l = laid (goal.at.returns-then-point-dimension_of c).In_ok-v in
    rw (← is)
    (other-asked (sheet_of c.args.s.now) c.in_ok-v.v c.args.point.now
    (λ e. c.if-point-dimension_of.true (e ∙ ap (λ h. length h.box) l.head_is ∙ sym c.dimension_of.ensures.0)))

pub record_place-requires : goal.record_place-requires
record_place-requires c = (laid (goal.at.record_place-requires c).In_ok-v).low

pub index-requires : goal.index-requires
index-requires c =
    let l = laid (goal.at.index-requires c).In_ok-v in
    rw c.record_place.ensures (l.recorded, rw l.box-is (omega (arith, l.few)))

pub returns-in_err-i : goal.returns-in_err-i
returns-in_err-i c =
    let is : c.in_ok-v.v ≡ c.args.variable = c.in_ok-v.ensures.0 in
    let way = goal.at.returns-in_err-i c in
    rw (c.from_residual-in_err-i.ensures, ← is)
    (off-asked (sheet_of c.args.s.now) c.in_ok-v.v c.args.point.now (sym c.in_err-i.was ∙ index-says way.After-index (low way.In_ok-v)))

pub first_element-requires : goal.first_element-requires
first_element-requires c = omega (arith, (laid (goal.at.first_element-requires c).In_ok-v).low)

pub overflow_add-result : goal.overflow_add-result
overflow_add-result c =
    let way = goal.at.overflow_add-result c in
    let lt = low way.In_ok-v in
    let l = laid way.In_ok-v in
    omega (arith, c.first_element.ensures, l.first_is, found-low _ _ c.requires _ lt c.in_ok-i.i _ (sym c.in_ok-i.was ∙ index-says way.After-index lt))

pub returns : goal.returns
returns c =
    let is : c.in_ok-v.v ≡ c.args.variable = c.in_ok-v.ensures.0 in
    let way = goal.at.returns c in
    let l = laid way.In_ok-v in
    rw (← is)
    (found-asked (sheet_of c.args.s.now) c.in_ok-v.v c.args.point.now _ _ l.known
    (sym c.in_ok-i.was ∙ index-says way.After-index (low way.In_ok-v)) (ap (λ n. n + c.in_ok-i.i) (c.first_element.ensures ∙ l.first_is)))
