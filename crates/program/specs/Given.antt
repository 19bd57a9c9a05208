-- What the code says of the program's input. Assumes nothing.
use Rattle.std.specs.Prelude.{◌≡◌, ℕ, ◌/◌, ◌%◌, ◌≤◌, ◌<◌, List, ◌++◌, length, drop, ℤ, Result}
use Rattle.alpha.specs.Answer.{next}
use Rattle.alpha.specs.Program.{values_at, framed, answered}
use Rattle.alpha.specs.Verdict.{told}
use Rattle.alpha.specs.declared.Refusal.{Refusal}
use Rattle.program.specs.declared.input.Frame.{Frame}

-- the frame of the input bs: what is answered is that of its parts, or a refusal
abbrev pub Frames : List ℕ → Result Frame Refusal → Type 0
Frames bs r = answered bs ≡ next (told r) (λ f. framed f.sheet.now f.values.now)

-- the parts of an input: the sheet's bytes from byte 8 on, and the values' after these
pub record PartsOf (bs : List ℕ) (f : Frame) : Type 0 where
  pub there : 8 ≤ length bs
  pub are : f.sheet.now ++ f.values.now ≡ drop 8 bs

-- a list that does for the values in these bytes: they themselves, or 4,097 entries where a value is broken or there are over 4,096
pub record Lists (rest : List ℕ) (ins : List ℤ) : Type 0 where
  pub whole : length rest % 4 ≡ 0 → length rest ≤ 16384 → ins ≡ values_at (length rest / 4) rest 0
  pub broken : (length rest % 4 ≡ 0 → ⊥) → length ins ≡ 4097
  pub long : 16384 < length rest → length ins ≡ 4097
