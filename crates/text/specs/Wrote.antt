-- How a text that is written changes a writer's buffer. Assumes nothing.
use Rattle.std.specs.Prelude.{◌≡◌, ℕ, ◌+◌, ◌≤◌, List, length}
use Rattle.std.proofs.lemmas.List.Edits.{sets}
use Rattle.text.specs.declared.writer.Writer.{Writer}

-- n bytes more fit
abbrev pub Room : ℕ → Writer → Type 0
Room n w = w.at + n ≤ length w.out.now

-- the bytes stand after what was written before, every other byte is as it was, and the next ones go after them into the same buffer
pub record Wrote (before after : Writer) (bytes : List ℕ) : Type 0 where
  pub is : after.out.now ≡ sets before.out.now before.at bytes
  pub ends : after.at ≡ before.at + length bytes
  pub sized : length after.out.now ≡ length before.out.now
  pub same : after.out.ghost_name ≡ before.out.ghost_name

-- these are n at most
pub record WroteFew (n : ℕ) (before after : Writer) (bytes : List ℕ) : Type 0 where
  pub wrote : Wrote before after bytes
  pub few : after.at ≤ before.at + n
