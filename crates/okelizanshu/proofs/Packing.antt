-- An answer packed, from its case. Assumes nothing.
use mathlib.Core.Path.{◌≡◌, sym, ap, ap₂, ◌∙◌}
use Prim.Native.Nat.{ℕ, ◌+◌, ◌*◌, ◌%◌}
use Rattle.std.specs.Prelude.{Result, Ok, Err}
use Rattle.alpha.specs.Verdict.{number_of, place_of, told}
use Rattle.alpha.specs.declared.Refusal.{Refusal}
use Rattle.okelizanshu.specs.Packed.{packed}

pub accepted-packed : (v : Result ℕ Refusal) (n : ℕ) → v ≡ Ok n → n % 4294967296 ≡ packed (told v)
accepted-packed v n e = sym (ap (λ a. packed (told a)) e)

pub refused-packed : (v : Result ℕ Refusal) (k : Refusal) (n p : ℕ) → v ≡ Err k → n ≡ number_of k → p ≡ place_of k →
    n * 4294967296 + p % 4294967296 ≡ packed (told v)
refused-packed v k n p e h i =
    ap₂ (λ (x y : ℕ). x * 4294967296 + y % 4294967296) h i ∙ sym (ap (λ a. packed (told a)) e)
