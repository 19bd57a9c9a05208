-- The 32-bit range, as a bound that `omega` reads, and what a checked operator answers. Assumes nothing.
use Rattle.std.specs.Prelude.{◌<◌, ◌≡◌, ℤ}
use Rattle.std.specs.Int.Signed.{mag}
use Rattle.alpha.specs.declared.Outcome.{Outcome}
use Rattle.alpha.specs.declared.Outcome.TheVariants.{Outside, Value, DivZero, Overflow, Loop}
use Rattle.alpha.specs.Outcome as Outcomes
use Rattle.alpha.specs.Verdict.{outcome_of}

-- from -2147483648 to 2147483647: `mag` is n both for n and for -(n + 1)
abbrev pub In32 : ℤ → Type 0
In32 x = mag x < 2147483648

-- the value of an outcome, if it has one, is in the 32-bit range
abbrev pub Small : Outcome → Type 0
Small Outside = Unit {0}
Small (Value x) = In32 x
Small DivZero = Unit {0}
Small Overflow = Unit {0}
Small Loop = Unit {0}

-- the outcome o is what the definition gives, and again small
pub record Says (o : Outcome) (defined : Outcomes.Outcome) : Type 0 where
  pub is : outcome_of o ≡ defined
  pub small : Small o
