-- What a byte string that was read is: its sections, and its variables with their bodies. Contracts above name them by these functions,
-- which say nothing of bytes that are refused. Assumes nothing.
use Rattle.std.specs.Prelude.{ℕ, List, [], length}
use Rattle.alpha.specs.Answer.{Answer, accepted, refused}
use Rattle.alpha.specs.Sheet.{Head, Raw, Sheet}
use Rattle.alpha.specs.Read.{Got, got, bad, read}
use Rattle.alpha.specs.Shape.{bodies}

abbrev pub no_raw : Raw
no_raw = record { heads = []; decls = []; second = 0; third = 0; first = 0; nodes = 0 }

abbrev pub got_raw : Got Raw → Raw
got_raw (got r p) = r
got_raw (bad n p) = no_raw

-- the sections
abbrev pub raw_of : List ℕ → Raw
raw_of bs = got_raw (read bs)

abbrev pub heads_of : List ℕ → List Head
heads_of bs = (raw_of bs).heads

-- how many variables there are
abbrev pub vars_of : List ℕ → ℕ
vars_of bs = length (heads_of bs)

-- the variables with their bodies, or SHAPE
abbrev pub shaped_of : List ℕ → Answer Sheet
shaped_of bs = bodies (raw_of bs) bs (heads_of bs) 0 (raw_of bs).first (raw_of bs).nodes

abbrev pub accepted_sheet : Answer Sheet → Sheet
accepted_sheet (accepted s) = s
accepted_sheet (refused n p) = []

abbrev pub sheet_of : List ℕ → Sheet
sheet_of bs = accepted_sheet (shaped_of bs)
