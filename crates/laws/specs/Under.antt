-- One outcome says no more than another: LOOP is the least, and of the others each is under itself only. Assumes nothing.
use Rattle.std.specs.Prelude.{◌≡◌}
use Rattle.alpha.specs.Outcome.{Outcome, outside, value, divzero, overflow, loop}

abbrev pub Under : Outcome → Outcome → Type 0
Under outside o = o ≡ outside
Under (value x) o = o ≡ value x
Under divzero o = o ≡ divzero
Under overflow o = o ≡ overflow
Under loop o = Unit {0}
