-- How far a reader comes: the place after what it read, or its refusal. Assumes nothing.
use Rattle.std.specs.Prelude.{ℕ}
use Rattle.alpha.specs.Answer.{Answer, accepted, refused}
use Rattle.alpha.specs.Read.{Got, got, bad}

-- the place after what was read, or the refusal
abbrev pub place_after : {A : Type 0} → Got A → Answer ℕ
place_after (got a q) = accepted q
place_after (bad n p) = refused n p
