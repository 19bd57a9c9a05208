-- What a checked operator answers: said of a definition, it is said of its equal. Assumes nothing.
use mathlib.Core.Path.{◌≡◌}
use Rattle.alpha.specs.declared.Outcome.{Outcome}
use Rattle.alpha.specs.Outcome as Outcomes
use Rattle.integer.specs.Range.{Says}

-- what is said of a definition is said of its equal
pub says-equal : {o : Outcome} {d e : Outcomes.Outcome} → d ≡ e → Says o d → Says o e
says-equal q h = rw q at h
