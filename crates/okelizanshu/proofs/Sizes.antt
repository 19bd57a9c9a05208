-- What is packed fits: a refusal's number, and half of a number. Assumes nothing.
use Prim.Native.Nat.{ℕ, ◌%◌, ◌≤◌, ◌<◌}
use native.Mathlib.Omega.{arith}
use native.Mathlib.Nat.{mod-lt}
use Rattle.alpha.specs.Verdict.{number_of}
use Rattle.alpha.specs.declared.Refusal.{Refusal}
use Rattle.alpha.specs.declared.Refusal.TheVariants.{Long, Cut, Count, Name, Number, Tail, Shape, Typing, Reach, Gap, Clash, Input, Wide, Room, Ask}

pub number_small : (k : Refusal) → number_of k ≤ 15
number_small Long = omega arith
number_small (Cut p) = omega arith
number_small (Count p) = omega arith
number_small (Name p) = omega arith
number_small (Number p) = omega arith
number_small (Tail p) = omega arith
number_small (Shape v) = omega arith
number_small (Typing v) = omega arith
number_small (Reach v) = omega arith
number_small (Gap e) = omega arith
number_small (Clash e) = omega arith
number_small (Input i) = omega arith
number_small (Wide v) = omega arith
number_small (Room n) = omega arith
number_small Ask = omega arith

pub half-small : (n : ℕ) → n % 4294967296 < 4294967296
half-small n = mod-lt n (omega arith)
