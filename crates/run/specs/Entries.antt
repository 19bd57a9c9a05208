-- The input list's part for one variable. Assumes nothing.
use Rattle.std.specs.Prelude.{◌≡◌, ℕ, ◌<◌, List, length, take, drop, ℤ}
use Rattle.alpha.specs.Pick.{ifb}
use Rattle.alpha.specs.Answer.{Answer, accepted}
use Rattle.alpha.specs.Sheet.{Sheet}
use Rattle.alpha.specs.Box.{size}
use Rattle.alpha.specs.Holds.{variable, is_input}
use Rattle.alpha.specs.Outcome.{inputs_before}
use Rattle.alpha.specs.Run.{input_count, entries_of}
use Rattle.laws.specs.Sheets.{vars_of, sheet_of}

-- an input has an entry for each point of its box, any other variable has none
abbrev pub input_size : Sheet → ℕ → ℕ
input_size s v = ifb (is_input (variable s v)) (λ _. size (variable s v).head.box) (λ _. 0)

-- what INPUT says of the entries of variable v
abbrev pub entries_at : Sheet → List ℤ → ℕ → Answer (Unit {0})
entries_at s ins v =
    ifb (is_input (variable s v))
    (λ _. entries_of (variable s v).head.sort (inputs_before s v) (take (size (variable s v).head.box) (drop (inputs_before s v) ins)))
    (λ _. accepted tt)

-- variable v, and an input list of the length that the sheet needs
pub record InputsOf (bs : List ℕ) (ins : List ℤ) (v : ℕ) : Type 0 where
  pub known : v < vars_of bs
  pub many : length ins ≡ input_count (sheet_of bs)
