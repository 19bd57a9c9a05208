-- Storing a natural number: its eight bytes, copied over the field. Assumes nothing.
use Rattle.std.proofs.Common.{◌∙◌}
use Rattle.integer.proofs.Fields.{put_field}
use Rattle.integer.proofs.put_nat.Goals as goal

pub returns : goal.returns
returns c =
    put_field c.args.b.now c.args.at _ c.copy_from_slice.new.self (c.copy_from_slice.ensures.after ∙ c.to_le_bytes.ensures) c.requires
