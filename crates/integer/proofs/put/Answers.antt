-- Storing a number: its eight bytes, copied over the field. Assumes nothing.
use Rattle.std.proofs.Common.{◌∙◌, w64}
use Rattle.std.proofs.lemmas.Int.{to_z-of_z}
use Rattle.integer.proofs.Fields.{put_field, of_z-word_of}
use Rattle.integer.proofs.put.Goals as goal

pub returns : goal.returns
returns c =
    let bytes = simp (to_z-of_z w64 c.args.x c.ranges.x) at c.to_le_bytes.ensures in
    put_field c.args.b.now c.args.at _ c.copy_from_slice.new.self (c.copy_from_slice.ensures.after ∙ simp of_z-word_of at bytes) c.requires
