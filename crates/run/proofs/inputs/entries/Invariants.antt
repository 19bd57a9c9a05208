-- `run::entries` meets its contract. The loop's invariant: the variables from v on decide.
-- Assumes nothing.
use Rattle.laws.specs.Sheets.{sheet_of}
use Rattle.run.proofs.Listing.{EntriesFrom}
use Rattle.run.proofs.inputs.entries.Given as goal

abbrev pub invariant-loop-v : goal.invariant-loop-v
invariant-loop-v l = EntriesFrom (sheet_of l.ground.sheet.now) l.ins l.v
