-- What a code and a value of the run's tables, or of the memo that they are filled from, say. Assumes nothing.
use Rattle.std.specs.Prelude.{ℕ, [], ◌∷◌, get_or, ℤ}
use Rattle.alpha.specs.Outcome.{Outcome, outside, value, divzero, overflow, loop}

-- the outcome with that code and that value: 0 outside, 1 value, 2 DIVZERO, 3 OVERFLOW, 4 (and any other) LOOP
abbrev pub decoded : ℕ → ℤ → Outcome
decoded code x = get_or (outside ∷ value x ∷ divzero ∷ overflow ∷ []) code loop
