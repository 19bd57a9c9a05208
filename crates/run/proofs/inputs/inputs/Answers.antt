-- `run::inputs` meets its contract: the length first, then the entries. Assumes nothing.
use mathlib.Core.Path.{◌≡◌, sym, ap, ◌∙◌}
use lib.ListN.{length}
use Rattle.alpha.specs.Outcome.{inputs_before}
use Rattle.alpha.specs.Run.{input_count}
use Rattle.laws.specs.Sheets.{vars_of, sheet_of}
use Rattle.domain.proofs.Records.{laid-length}
use Rattle.run.proofs.Listing.{before-all, inputs_short, inputs_long}
use Rattle.run.proofs.inputs.inputs.Goals.{After-inputs_before-needed, After-variable_count}
use Rattle.run.proofs.inputs.inputs.Goals as goal

-- the table says how many variables the sheet has
count-is : (c : After-variable_count) → c.variable_count.result ≡ vars_of c.args.ground.now.sheet.now
count-is c = c.variable_count.ensures ∙ c.requires.placed.prepared.table.variables

-- how many entries are needed
needed-is : (c : After-inputs_before-needed) → c.variable_count.result ≡ vars_of c.args.ground.now.sheet.now →
    c.inputs_before-needed.result ≡ input_count (sheet_of c.args.ground.now.sheet.now)
needed-is c count =
    let all : c.variable_count.result ≡ length (sheet_of c.args.ground.now.sheet.now) = count ∙ sym (laid-length _ _ c.requires.placed) in
    c.inputs_before-needed.ensures ∙ ap (inputs_before (sheet_of c.args.ground.now.sheet.now)) all ∙ before-all (sheet_of c.args.ground.now.sheet.now)

pub returns-then-ins-needed : goal.returns-then-ins-needed
returns-then-ins-needed c =
    let way = goal.at.returns-then-ins-needed c in
    inputs_short _ _ _ (needed-is way.After-inputs_before-needed (count-is way.After-variable_count)) c.if-ins-needed.true

pub entries-requires : goal.entries-requires
entries-requires c =
    let way = goal.at.entries-requires c in
    (c.requires, c.if-ins-needed.false ∙ needed-is way.After-inputs_before-needed (count-is way.After-variable_count))

pub returns : goal.returns
returns c =
    let way = goal.at.returns c in
    c.entries.ensures ∙ inputs_long _ _ (c.if-ins-needed.false ∙ needed-is way.After-inputs_before-needed (count-is way.After-variable_count))
