-- A name where it stands: the bytes from a place on, and whether one of some records has that name. Assumes nothing.
use Rattle.std.specs.Prelude.{ℕ, zero, suc, ◌+◌, Bool, false, ◌||◌, List, [], ◌∷◌}
use Rattle.alpha.specs.Field.{byte, eight, letter, digit, same_bytes}

-- the n bytes from p on
unfoldable pub bytes_at : List ℕ → ℕ → ℕ → List ℕ
bytes_at bs p zero = []
bytes_at bs p (suc n) = byte bs p ∷ bytes_at bs (p + 1) n

-- a byte that may stand in a name after the first
abbrev pub in_name : ℕ → Bool
in_name b = letter b || digit b

-- the name at p stands at one of these places too
abbrev pub taken_at : List ℕ → ℕ → List ℕ → Bool
taken_at bs p [] = false
taken_at bs p (q ∷ qs) = same_bytes (eight bs p) (eight bs q) || taken_at bs p qs
