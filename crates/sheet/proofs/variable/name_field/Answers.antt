-- `name_field` meets its contract: cut, ill formed, taken, or a name. Assumes nothing.
use Rattle.sheet.proofs.Variables.{name-cut, name-ill, name-taken, name-fine}
use Rattle.sheet.proofs.variable.name_field.Goals.{then-not-well_formed-via-then-not-well_formed, then-not-well_formed-via-else-not-well_formed+then-is_taken}
use Rattle.sheet.proofs.variable.name_field.Goals as goal

pub returns-then-not-room : goal.returns-then-not-room
returns-then-not-room c = name-cut _ _ _ c.if-not-room.ensures

pub returns-then-not-well_formed : goal.returns-then-not-well_formed
returns-then-not-well_formed c =
    let earlier = c.args.earlier.now in
    elim c.then-not-well_formed.branch [
      | then-not-well_formed-via-then-not-well_formed w ↦ name-ill _ earlier _ c.if-not-room.ensures w.if-not-well_formed.ensures
      | then-not-well_formed-via-else-not-well_formed+then-is_taken w ↦
          name-taken _ earlier _ c.if-not-room.ensures w.if-not-well_formed.ensures w.if-is_taken.ensures
    ]

pub returns : goal.returns
returns c = name-fine _ c.args.earlier.now _ c.if-not-room.ensures c.if-not-well_formed.ensures c.if-is_taken.ensures
