-- How long the text of a value and of an outcome is. Assumes nothing.
use Prim.Native.Nat.{◌≤◌}
use native.Mathlib.Omega.{arith}
use mathlib.Core.Bool.{Bool, true, false}
use lib.ListN.{length}
use lib.IntN.{ℤ}
use lib.Signed.{nat_abs-le}
use Rattle.alpha.specs.Pick.{ifb}
use Rattle.alpha.specs.Sheet.{Sort, Sort.integer, Sort.boolean}
use Rattle.alpha.specs.Affine.{is_zero}
use Rattle.alpha.specs.Outcome as Outcomes
use Rattle.alpha.specs.Verdict.{outcome_of}
use Rattle.alpha.specs.declared.Outcome.{Outcome}
use Rattle.alpha.specs.declared.Outcome.TheVariants.{Outside, Value, DivZero, Overflow, Loop}
use Rattle.alpha.specs.Program.{value_text, outcome_text, true_word, false_word}
use Rattle.integer.specs.Range.{In32, Says}
use Rattle.text.proofs.Numbers.{int_text-length}

value-length : (t : Sort) (x : ℤ) → In32 x → length (value_text t x) ≤ 11
value-length integer x h = int_text-length x 9 (omega (arith, nat_abs-le x h))
value-length boolean x h = go (is_zero x)
  where
    go : (b : Bool) → length (ifb b (λ _. false_word) (λ _. true_word)) ≤ 11
    go true = omega arith
    go false = omega arith

pub outcome-length : (t : Sort) (o : Outcome) (d : Outcomes.Outcome) → Says o d → length (outcome_text t (outcome_of o)) ≤ 14
outcome-length t Outside d s = omega arith
outcome-length t (Value x) d s = omega (arith, value-length t x s.small)
outcome-length t DivZero d s = omega arith
outcome-length t Overflow d s = omega arith
outcome-length t Loop d s = omega arith
